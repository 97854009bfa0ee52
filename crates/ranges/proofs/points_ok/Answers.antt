-- `ranges::points_ok`: the tests of both points joined.
-- Assumes nothing.
use mathlib.Core.Path.{◌∙◌}
use Rattle.image.specs.Lengths.{triple_at}
use Rattle.ranges.proofs.Laws.{and_same, earth}
use Rattle.ranges.proofs.points_ok.Goals as goal

pub returns : goal.returns
unfolding triple_at
returns c = and_same (and_same (c.around.ensures ∙ earth _ _ _) (c.around-2.ensures ∙ earth _ _ _)) c.around-3.ensures
