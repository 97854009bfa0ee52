-- `shelf::found`: by the form of the others.
-- Assumes nothing.
use Rattle.paper.proofs.Tests.{known}
use Rattle.shelf.specs.Steps.{found_of}
use Rattle.shelf.proofs.found.Goals as goal

pub returns-then-others_formed : goal.returns-then-others_formed
unfolding found_of
returns-then-others_formed c = simp (known c.others_formed.ensures c.if-others_formed.true, c.picked-b.ensures)

pub returns : goal.returns
unfolding found_of
returns c = simp (known c.others_formed.ensures c.if-others_formed.false, c.picked-b.ensures)
