-- Which places are empty, in a word each: 0 for an empty one. Taking changes back asks no more of what stands there.
use Rattle.std.specs.Prelude.{ℕ, ◌<◌, ◌≡◌, List, length, get_or, eqb}
use Rattle.std.proofs.Math.Option.{none}
use Rattle.paper.specs.Procedure.{PLACES}
use Rattle.paper.specs.Units.{Places, is_empty}

abbrev pub Marks : List ℕ → Places → Type 0
Marks m l = (length m ≡ PLACES) × ((p : ℕ) → p < PLACES → eqb (get_or m p 0) 0 ≡ is_empty (get_or l p none))
