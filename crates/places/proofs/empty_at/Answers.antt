-- `places::empty_at`: its three words are 0.
-- Assumes nothing.
use Rattle.image.proofs.Places.{empty-spot}
use borrow.Author.Rules.{rules}
use Rattle.places.proofs.empty_at.Goals as goal

pub returns : goal.returns
returns c = search (empty-spot, rules)
