-- The words of the kept changes with one more and with one less.
use Rattle.std.specs.Prelude.{List, [], ◌∷◌, ◌++◌, cond, ℕ, ◌+◌, ◌-◌, take, drop, ltb}
use Rattle.paper.specs.Procedure.{KEPT}
use Rattle.image.specs.Layout.{CHANGE_WORDS}

-- the latest first: its place, and the three words that stood there
unfoldable pub pushed : List ℕ → ℕ → ℕ → ℕ → ℕ → List ℕ
pushed ch p x y h = (p ∷ x ∷ y ∷ h ∷ []) ++ take (CHANGE_WORDS - 4) ch

unfoldable pub popped : List ℕ → List ℕ
popped ch = drop 4 ch ++ (0 ∷ 0 ∷ 0 ∷ 0 ∷ [])

abbrev pub more : ℕ → ℕ
more n = cond (ltb n KEPT) (n + 1) KEPT
