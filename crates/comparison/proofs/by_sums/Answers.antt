-- `comparison::by_sums` meets its contract. Assumes nothing.
use Rattle.std.proofs.Common.{rules, eq-eqb, ne_eqb}
use Rattle.comparison.specs.Comparing.{by_sums}
use Rattle.comparison.proofs.by_sums.Goals as goal

pub returns-then-second-eq0 : goal.returns-then-second-eq0
unfolding by_sums
returns-then-second-eq0 c = rw (eq-eqb c.args.second 0 (search rules))

pub returns : goal.returns
unfolding by_sums
returns c = rw (ne_eqb c.args.second 0 (search rules), c.same_population.ensures)
