-- `form::bare`: its tests joined.
-- Assumes nothing.
use Rattle.ranges.proofs.Laws.{and_same}
use Rattle.form.specs.Whole.{bare}
use borrow.Author.Rules.{rules}
use Rattle.form.proofs.bare.Goals as goal

pub returns : goal.returns
unfolding bare
returns c = search (and_same, rules)
