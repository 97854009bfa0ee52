-- Words that are not used, looked at one after the other.
-- Assumes nothing.
use Prim.Native.Nat.{ℕ}
use mathlib.Core.Path.{◌≡◌, sym, ◌∙◌}
use mathlib.Core.Bool.{Bool, true, ◌&&◌, and_assoc, and-true}
use mathlib.Core.List.{List, [], ◌∷◌}
use lib.Dec.{eqb}
use Rattle.std.specs.List.{fold}
use Rattle.rows.specs.Lists.{all?}
use Rattle.image.specs.Changes.{zeros}

-- b says it of those before
zeros-on : (b : Bool) (l : List ℕ) → fold (λ z w. z && eqb w 0) b l ≡ b && zeros l
unfolding all?
zeros-on b [] = sym (and-true b)
zeros-on b (w ∷ l) = zeros-on (b && eqb w 0) l ∙ and_assoc b (eqb w 0) (zeros l)

pub zeros_folded : (l : List ℕ) → fold (λ z w. z && eqb w 0) true l ≡ zeros l
zeros_folded l = zeros-on true l
