-- `ranges::around`: the tests of three axes joined.
-- Assumes nothing.
use Rattle.paper.specs.Units.{within}
use Rattle.ranges.proofs.Laws.{and_same}
use borrow.Author.Rules.{rules}
use Rattle.ranges.proofs.around.Goals as goal

pub returns : goal.returns
unfolding within
returns c = search (and_same, rules)
