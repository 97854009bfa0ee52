-- `whole::root` meets its contract. The invariant: the root lies from low up to high. Assumes nothing.
use mathlib.Core.Path.{◌≡◌}
use Prim.Native.Nat.{◌+◌}
use native.Mathlib.Omega.{arith}
use Rattle.roots.proofs.Squares.{square-fits}
use Rattle.roots.proofs.root.Goals as goal

pub overflow_mul-mid : goal.overflow_mul-mid
overflow_mul-mid c = record { fits = square-fits (omega arith) }

pub returns : goal.returns
returns c = let at = c.loop-high in
    let e : at.high ≡ at.low + 1 = omega arith in
    record { reaches = at.invariant.0; next = rw e at at.invariant.1 }
