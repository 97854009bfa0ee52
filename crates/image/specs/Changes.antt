-- The changes kept for taking back, latest first, as four words each: the place, and what stood there before. Words not used are 0.
use Rattle.std.specs.Prelude.{ℕ, zero, suc, Bool, List, [], ◌∷◌, get_or, eqb}
use Rattle.std.proofs.Math.Option.{none}
use Rattle.rows.specs.Lists.{all?}
use Rattle.rows.specs.Blocks.{blocks, laid}
use Rattle.paper.specs.Units.{Spot}
use Rattle.paper.specs.Books.{Change}
use Rattle.image.specs.Places.{spot_at, spot_words}

abbrev pub change : ℕ → Spot → Change
change p v = record { place = p; put = v }

-- the change that a row of words starts with
abbrev pub change_in : List ℕ → Change
change_in l = change (get_or l 0 0) (spot_at l 1)

-- the first n changes
abbrev pub entries : ℕ → List ℕ → List Change
entries n l = blocks 4 change_in n l

unfoldable pub change_words : Change → List ℕ
change_words c = c.place ∷ spot_words c.put

-- the change whose words are 0
abbrev pub unused : Change
unused = change 0 none

-- the first n of a list, filled up where it has fewer
unfoldable pub padded : ℕ → List Change → List Change
padded zero cs = []
padded (suc n) [] = unused ∷ padded n []
padded (suc n) (c ∷ cs) = c ∷ padded n cs

-- in room for n changes
abbrev pub changes_of : ℕ → List Change → List ℕ
changes_of n cs = laid change_words (padded n cs)

abbrev pub zeros : List ℕ → Bool
zeros l = all? (λ w. eqb w 0) l
