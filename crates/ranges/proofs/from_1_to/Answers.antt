-- `ranges::from_1_to`: a test of the length as one of its word.
-- Assumes nothing.
use Rattle.ranges.proofs.Laws.{one_is}
use Rattle.ranges.proofs.from_1_to.Goals as goal

pub returns : goal.returns
returns c = one_is _ _
