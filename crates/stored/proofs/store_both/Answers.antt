-- `stored::store_both`: a word, and a row of words behind it.
-- Assumes nothing.
use Rattle.stored.proofs.Stored.{both_stored}
use borrow.Author.Rules.{rules}
use Rattle.stored.proofs.store_both.Goals as goal

pub returns : goal.returns
returns c = search (both_stored, rules)
