-- `ranges::near`: around the approximate values of the place's point.
-- Assumes nothing.
use mathlib.Core.Path.{◌∙◌}
use Rattle.image.specs.Lengths.{triple_at}
use Rattle.ranges.proofs.Laws.{near-at_point}
use Rattle.ranges.proofs.near.Goals as goal

pub returns : goal.returns
unfolding triple_at
returns c = c.around.ensures ∙ near-at_point _ _ _ _ c.args.place
