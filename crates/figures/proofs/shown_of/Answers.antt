-- `figures::shown_of` meets its contract. Assumes nothing.
use Rattle.std.proofs.Common.{rules}
use Rattle.figures.proofs.Judging.{shown_are}
use Rattle.figures.proofs.shown_of.Goals as goal

pub returns : goal.returns
returns c = search (shown_are, rules)
