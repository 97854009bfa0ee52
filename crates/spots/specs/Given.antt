-- What the code hands on of a place of a series.
use Rattle.std.specs.Prelude.{ℕ, List}
use Rattle.paper.specs.Units.{Spot}
use Rattle.image.specs.Places.{spot_words}

-- its words, and how many lines are left
abbrev pub placed_words : Spot × ℕ → List ℕ × ℕ
placed_words v = (spot_words v.0, v.1)
