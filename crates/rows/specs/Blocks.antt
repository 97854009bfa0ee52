-- A row in blocks of one width, and the row of things laid one after another.
use Rattle.std.specs.Prelude.{ℕ, zero, suc, List, [], ◌∷◌, ◌++◌, drop}

-- n things from the start of a row, each read where its block starts
unfoldable pub blocks : {A : Type 0} → (width : ℕ) → (List ℕ → A) → ℕ → List ℕ → List A
blocks w f zero l = []
blocks w f (suc n) l = f l ∷ blocks w f n (drop w l)

-- the row of things, each written as g gives it
unfoldable pub laid : {A : Type 0} → (A → List ℕ) → List A → List ℕ
laid g [] = []
laid g (x ∷ xs) = g x ++ laid g xs
