-- `comparison::same_population` meets its contract. Assumes nothing.
use Rattle.paper.specs.Verdicts.{same_population}
use Rattle.comparison.proofs.same_population.Goals as goal

pub returns-in-Xy : goal.returns-in-Xy
unfolding same_population
returns-in-Xy c = rw (c.in-Xy.is) c.alike.ensures

pub returns-in-H : goal.returns-in-H
unfolding same_population
returns-in-H c = rw (c.in-H.is) c.alike-in-H.ensures
