-- `ranges::close`: how far two words are apart.
-- Assumes nothing.
use Rattle.ranges.proofs.Laws.{close_is}
use Rattle.ranges.proofs.close.Goals as goal

pub returns : goal.returns
returns c = rw c.abs_diff.ensures (close_is _ _ _)
