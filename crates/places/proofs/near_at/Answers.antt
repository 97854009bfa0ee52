-- `places::near_at`: nothing there, or a reading near its point.
-- Assumes nothing.
use Rattle.places.proofs.Laws.{spot-near}
use borrow.Author.Rules.{rules}
use Rattle.places.proofs.near_at.Goals as goal

pub returns : goal.returns
returns c = search (spot-near, rules)
