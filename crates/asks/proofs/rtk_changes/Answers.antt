-- `asks::rtk_changes`: the book found and asked; the answer is turned by its number.
-- Assumes nothing.
use Rattle.std.proofs.Common.{ap, ◌∙◌}
use Rattle.paper.specs.Calls.{changes}
use Rattle.paper.specs.Answers.{count, beside}
use Rattle.readings.specs.Answers.{count_of}
use Rattle.shelf.proofs.Asked.{asked-told, counts, counts-shut}
use Rattle.asks.proofs.rtk_changes.Goals as goal

pub returns : goal.returns
unfolding beside
returns c = c.from.ensures ∙ ap count_of (rw c.addressed.ensures (asked-told _ _ changes counts counts-shut _ c.found-b.ensures count _ c.changes-changes.ensures))
