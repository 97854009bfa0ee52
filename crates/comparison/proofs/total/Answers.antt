-- `comparison::total` meets its contract. Assumes nothing.
use Rattle.paper.specs.Verdicts.{sum}
use Rattle.sums.specs.Sums.{totals_of}
use Rattle.comparison.proofs.total.Goals as goal

pub returns-in-Xy : goal.returns-in-Xy
unfolding sum totals_of
returns-in-Xy c = (rw (c.in-Xy.is, c.sums-s.ensures.0), c.sums-s.ensures.1.p)

pub returns-in-H : goal.returns-in-H
unfolding sum totals_of
returns-in-H c = (rw (c.in-H.is, c.sums-s.ensures.0), c.sums-s.ensures.1.qh)
