-- `whole::greatest`: the root of a quotient.
-- Assumes nothing.
use Prim.Native.Nat.{ℕ, ◌/◌, ◌^◌, ◌<◌}
use native.Mathlib.Omega.{arith}
use native.Mathlib.Nat.{lt_of_le_of_lt, div-le_self, le_trans}
use Rattle.whole.specs.Root.{Root}
use Rattle.whole.proofs.Root.{root-lt, one-root, root_of-root}
use Rattle.whole.specs.Greatest.{greatest_of}
use Rattle.roots.proofs.greatest.Goals as goal

below : (n a r : ℕ) → n < 2 ^ 64 → Root (n / a) r → r < 2 ^ 32
below n a r h g = root-lt (lt_of_le_of_lt (le_trans g.reaches (div-le_self n a)) h)

pub returns : goal.returns
unfolding greatest_of
returns c = (one-root c.root.ensures (root_of-root _), below _ _ _ (omega arith) c.root.ensures)
