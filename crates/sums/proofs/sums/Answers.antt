-- `sums::sums` meets its contract. Assumes nothing.
use Rattle.std.proofs.Common.{rules}
use Rattle.sums.proofs.Laws.{totals_are}
use Rattle.sums.proofs.sums.Goals as goal

pub returns : goal.returns
returns c = search (totals_are, rules)
