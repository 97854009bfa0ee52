-- `doubles::sheet_of` meets its contract. Assumes nothing.
use borrow.Author.Rules.{rules}
use Rattle.doubles.proofs.Laws.{sheet_is}
use Rattle.doubles.proofs.sheet_of.Goals as goal

pub returns : goal.returns
returns c = search (sheet_is, rules)
