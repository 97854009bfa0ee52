-- The reader of a place, as the code goes.
-- Assumes nothing.
use Rattle.std.proofs.Common.{zero, suc, ◌-◌, ◌≢◌, Some, arith, ◌≡◌, ℕ, List, [], ◌∷◌, map, ℤ, refl, ap}
use Rattle.std.proofs.Math.Option.{none, some}
use Rattle.image.specs.Lengths.{word}
use Rattle.image.specs.Places.{spot_words}
use Rattle.decimals.specs.Reader.{got, fixed, numbers, then}
use Rattle.decimals.specs.Given.{read_as, rest_of}
use Rattle.decimals.proofs.Steps.{reading}
use Rattle.decimals.proofs.Exact.{numbers-only}
use Rattle.fieldfile.specs.Reader.{tag, triple_from, placed, spot}
use Rattle.fieldfile.proofs.Lists.{triple_from_lem}
use Rattle.spots.specs.Given.{placed_words}

-- no reading is three zeros
pub absent_words : spot_words none ≡ 0 ∷ 0 ∷ 0 ∷ []
unfolding spot_words
absent_words = refl

-- a line of three numbers is a reading
pub line_words : (l r : List ℕ) (zs : List ℤ) → numbers 3 l ≡ got zs r → spot_words (some (triple_from zs)) ≡ map word zs
unfolding spot_words
line_words l r zs e = ap (map word) (triple_from_lem zs (numbers-only 3 l e).1)

-- what the reader of a place takes
pub ruleset placing = (reading, absent_words, line_words)

-- a line of the place
pub spot_line : (k left : ℕ) (l r t ws : List ℕ) → left ≢ 0 → Some r ≡ rest_of (fixed (tag k) l) → Some (ws, t) ≡ read_as (map word) (numbers 3 r)
    → Some ((ws, left - 1), t) ≡ read_as placed_words (spot k left l)
unfolding spot placed then
spot_line k zero l r t ws p e f = absurd (p refl)
spot_line k (suc left) l r t ws p e f = grind (arith, placing)
