-- What the code hands on of a table of contents.
use Rattle.std.specs.Prelude.{ℕ, List, [], ◌∷◌}

-- its three counts in a row
abbrev pub three_counts : ℕ × ℕ × ℕ → List ℕ
three_counts n = n.0 ∷ n.1 ∷ n.2 ∷ []
