-- `stored::store`: its parts, pasted one behind another.
-- Assumes nothing.
use Rattle.stored.proofs.Stored.{stored}
use borrow.Author.Rules.{rules}
use Rattle.stored.proofs.store.Goals as goal

pub returns : goal.returns
returns c = search (stored, rules)
