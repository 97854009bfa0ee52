-- `places::survey`: the marks before this set are made, and near tells of the readings before it.
-- Assumes nothing.
use mathlib.Core.Path.{◌≡◌}
use mathlib.Core.Bool.{◌&&◌}
use Prim.Native.Nat.{◌*◌}
use lib.ListN.{length}
use Rattle.paper.specs.Procedure.{PLACES}
use Rattle.paper.specs.Units.{all_near}
use Rattle.image.specs.Lengths.{terms_of}
use Rattle.image.specs.Places.{places_of}
use Rattle.places.proofs.Turns.{near_from}
use Rattle.places.proofs.Marks.{MarksTo}
use Rattle.places.proofs.survey.Given as goal

abbrev pub invariant-loop-set : goal.invariant-loop-set
invariant-loop-set l = (length l.marks ≡ PLACES) × MarksTo (l.set * 2) l.marks l.cells × (l.near && near_from l.cells (terms_of l.t) (l.set * 2) ≡ all_near (terms_of l.t) 0 (places_of l.cells))
