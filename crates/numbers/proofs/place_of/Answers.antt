-- `image::place_of`: by whether the place is in the sheet.
-- Assumes nothing.
use mathlib.Core.Path.{◌≡◌, ◌∙◌}
use mathlib.Core.Bool.{◌&&◌}
use Rattle.paper.specs.Units.{in_sheet, in_order}
use Rattle.paper.proofs.Tests.{unsheet}
use Rattle.image.specs.Places.{place_of}
use Rattle.numbers.specs.Named.{place_named}
use Rattle.numbers.proofs.place_of.Goals as goal
use Rattle.numbers.proofs.place_of.Goals.{After-one_to-3}

-- what the three tests say of the place
tested : (c : After-one_to-3) → in_sheet (place_named c.args.place) ≡ c.one_to.result && c.one_to-2.result && c.one_to-3.result
unfolding in_sheet
tested c = simp (c.one_to.ensures, c.one_to-2.ensures, c.one_to-3.ensures)

pub number-requires : goal.number-requires
number-requires c = unsheet _ (tested (goal.at.number-requires c).After-one_to-3 ∙ c.if-one_to.true)

pub returns-then-one_to : goal.returns-then-one_to
unfolding place_of in_order
returns-then-one_to c = simp (tested (goal.at.returns-then-one_to c).After-one_to-3 ∙ c.if-one_to.true, c.number.ensures)

pub returns : goal.returns
unfolding place_of
returns c = simp (tested (goal.at.returns c).After-one_to-3 ∙ c.if-one_to.false)
