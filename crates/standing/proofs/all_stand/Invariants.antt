-- `standing::all_stand`: the marks are those of the places with the changes before this one taken back.
-- Assumes nothing.
use Rattle.image.specs.Lengths.{terms_of}
use Rattle.image.specs.Places.{places_of}
use Rattle.standing.proofs.Turns.{Stands}
use Rattle.standing.proofs.all_stand.Given as goal

abbrev pub invariant-loop-change : goal.invariant-loop-change
invariant-loop-change l = Stands (terms_of l.t) (places_of l.cells) l.changes l.kept l.marks l.change-index
