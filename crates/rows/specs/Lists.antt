-- What holds of each element of a list.
use Rattle.std.specs.Prelude.{Bool, true, ◌&&◌, List, [], ◌∷◌}

unfoldable pub All : {A : Type 0} → (A → Type 0) → List A → Type 0
All P [] = Unit
All P (x ∷ l) = P x × All P l

-- the same of a test
unfoldable pub all? : {A : Type 0} → (A → Bool) → List A → Bool
all? p [] = true
all? p (x ∷ l) = p x && all? p l
