-- `whole::nearest_at_most` meets its contract. Assumes nothing.
use Prim.Native.Nat.{ℕ, ◌+◌, ◌*◌, ◌^◌, ◌≤◌, ◌<◌}
use native.Mathlib.Omega.{arith}
use native.Mathlib.Nat.{mul-le-mul}
use Rattle.whole.proofs.Nearest.{nearest-most}
use Rattle.roots.proofs.Squares.{square-fits}
use Rattle.roots.proofs.nearest_at_most.Goals as goal

-- m² + m fits 64 bits
sum_fits : (m : ℕ) → m < 2 ^ 32 → m * m + m < 2 ^ 64
sum_fits m h = let k : m ≤ 4294967295 = omega arith in omega (arith, mul-le-mul k k)

pub overflow_mul-result : goal.overflow_mul-result
overflow_mul-result c = record { fits = square-fits c.requires }

pub overflow_add-result : goal.overflow_add-result
overflow_add-result c = record { fits = sum_fits _ c.requires }

pub returns : goal.returns
returns c = nearest-most _ _
