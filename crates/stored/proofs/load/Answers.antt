-- `stored::load`: part by part.
-- Assumes nothing.
use Rattle.stored.proofs.Stored.{book-eq}
use borrow.Author.Rules.{rules}
use Rattle.stored.proofs.load.Goals as goal

pub returns : goal.returns
returns c = search (book-eq, rules)
