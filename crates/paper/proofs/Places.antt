-- A place and its number.
-- Assumes nothing.
use Prim.Native.Nat.{ℕ, ◌+◌, ◌/◌, ◌%◌, ◌≤◌, ◌<◌}
use native.Mathlib.Omega.{arith}
use mathlib.Core.Path.{◌≡◌}
use mathlib.Core.Bool.{true}
use borrow.Author.Tests.{le-leb}
use Rattle.paper.specs.Procedure.{SERIES, SETS, POINTS, IN_SERIES, PLACES}
use Rattle.paper.specs.Units.{Place, in_sheet, in_order, number, point_of, place_at}
use Rattle.paper.proofs.Tests.{unsheet, told_point}

pub number_back : (n : ℕ) → number (place_at n) ≡ n
unfolding place_at in_order
number_back n = omega arith

series-set : (i j k : ℕ) → 1 ≤ i → 1 ≤ j → j ≤ SETS → 1 ≤ k → k ≤ POINTS
    → (in_order i j k / IN_SERIES + 1 ≡ i) × (in_order i j k / POINTS % SETS + 1 ≡ j)
unfolding in_order
series-set i j k lo lo' hi' lo'' hi'' = (omega arith, omega arith)

-- every place of the sheet is the one with its number
pub place_back : (p : Place) → in_sheet p ≡ true → place_at (number p) ≡ p
unfolding place_at
place_back p e =
    let u = unsheet p e in
    let f = series-set p.series p.set p.point u.0.0 u.1.0 u.1.1 u.2.0 u.2.1 in
    rw (f.0, f.1, told_point p e)

-- the first thirty numbers are those of places of the sheet
pub in_sheet_lem : (n : ℕ) → n < PLACES → in_sheet (place_at n) ≡ true
unfolding place_at in_sheet
in_sheet_lem n h =
    rw (le-leb 1 (n / IN_SERIES + 1) (omega arith), le-leb (n / IN_SERIES + 1) SERIES (omega arith), le-leb 1 (n / POINTS % SETS + 1) (omega arith), le-leb (n / POINTS % SETS + 1) SETS (omega arith), le-leb 1 (point_of n) (omega arith), le-leb (point_of n) POINTS (omega arith))
