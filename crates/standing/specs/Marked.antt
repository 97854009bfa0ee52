-- A kept change, where no more is known of the places than their marks.
use Rattle.std.specs.Prelude.{ℕ, Bool, not, ◌&&◌, List, get_or, eqb, ltb}
use Rattle.paper.specs.Procedure.{PLACES}
use Rattle.paper.specs.Units.{Terms, near_at}
use Rattle.image.specs.Places.{all_zero, spot_of}

-- it can be taken back from places with these marks
unfoldable pub fits_marked : Terms → List ℕ → ℕ → ℕ → ℕ → ℕ → Bool
fits_marked t m p x y h = ltb p PLACES && near_at t p (spot_of x y h) && not (all_zero x y h && eqb (get_or m p 0) 0)
