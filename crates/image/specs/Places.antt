-- The thirty places of a book as ninety words, in sheet order: three words each, nothing where all three are 0.
use Rattle.std.specs.Prelude.{ℕ, zero, suc, ◌+◌, Bool, cond, ◌&&◌, List, [], ◌∷◌, get_or, eqb}
use Rattle.std.proofs.Math.Option.{none, some}
use Rattle.rows.specs.Blocks.{blocks, laid}
use Rattle.paper.specs.Procedure.{PLACES}
use Rattle.paper.specs.Units.{Place, in_sheet, number, Spot, Places}
use Rattle.paper.specs.Figures.{Axis, x-axis, y-axis, h-axis}
use Rattle.image.specs.Lengths.{triple, triple_words}

abbrev pub all_zero : ℕ → ℕ → ℕ → Bool
all_zero x y h = eqb x 0 && (eqb y 0 && eqb h 0)

-- any other three words are a reading, nonsense included: nonsense is far from its point
unfoldable pub spot_of : ℕ → ℕ → ℕ → Spot
spot_of x y h = cond (all_zero x y h) none (some (triple x y h))

abbrev pub spot_at : List ℕ → ℕ → Spot
spot_at l m = spot_of (get_or l m 0) (get_or l (m + 1) 0) (get_or l (m + 2) 0)

-- the place that a row of words starts with
abbrev pub spot_in : List ℕ → Spot
spot_in l = spot_at l 0

unfoldable pub places_of : List ℕ → Places
places_of l = blocks 3 spot_in PLACES l

unfoldable pub spot_words : Spot → List ℕ
spot_words none = 0 ∷ 0 ∷ 0 ∷ []
spot_words (some v) = triple_words v

abbrev pub cells_of : Places → List ℕ
cells_of l = laid spot_words l

-- the axes in the order of the words
abbrev pub axis_of : ℕ → Axis
axis_of zero = x-axis
axis_of (suc zero) = y-axis
axis_of (suc (suc a)) = h-axis

-- the number of a place; the number of places where it is not in the sheet
unfoldable pub place_of : Place → ℕ
place_of p = cond (in_sheet p) (number p) PLACES
