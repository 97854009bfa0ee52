-- `image::number`: sheet order, step by step.
-- Assumes nothing.
use borrow.Author.Rules.{rules}
use Rattle.paper.specs.Units.{in_order}
use Rattle.numbers.proofs.number.Goals as goal

pub returns : goal.returns
unfolding in_order
returns c = search rules
