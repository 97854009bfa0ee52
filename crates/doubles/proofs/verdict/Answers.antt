-- `doubles::verdict` meets its contract. Assumes nothing.
use borrow.Author.Rules.{rules}
use Rattle.doubles.proofs.Laws.{within_is, beyond_is}
use Rattle.doubles.proofs.verdict.Goals as goal

pub returns-then-j : goal.returns-then-j
returns-then-j c = search (within_is, rules)

pub returns : goal.returns
returns c = search (beyond_is, rules)
