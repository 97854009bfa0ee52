-- `ranges::in_range`: the tests of all terms joined.
-- Assumes nothing.
use mathlib.Core.Path.{◌∙◌}
use Rattle.ranges.proofs.Laws.{and_same, from_zero, range_is}
use Rattle.ranges.proofs.in_range.Goals as goal

pub returns : goal.returns
returns c = and_same (and_same (and_same (and_same (and_same (and_same c.from_1_to.ensures (c.close.ensures ∙ from_zero _ _)) c.from_1_to-2.ensures) c.from_1_to-3.ensures) c.from_1_to-4.ensures) c.from_1_to-5.ensures) c.points_ok.ensures
    ∙ range_is _
