-- `listing::gathered`: the numbers so far are the list of the books before k.
-- Assumes nothing.
use Prim.Native.Nat.{◌≤◌}
use mathlib.Core.Path.{◌≡◌}
use Rattle.arrayvec.specs.ArrayVec.{array_vec_len}
use Rattle.listing.proofs.Turns.{listed_by}
use Rattle.listing.proofs.gathered.Given as goal

abbrev pub invariant-loop-k : goal.invariant-loop-k
invariant-loop-k l = record { few : array_vec_len l.roll ≤ l.k; listed : l.roll.items ≡ listed_by l.register l.k }
