-- `limits::most_passing` meets its contract. Assumes nothing.
use Rattle.std.proofs.Common.{ap, ◌∙◌}
use Rattle.whole.specs.Greatest.{greatest_of}
use Rattle.limits.specs.Most.{most_passing}
use Rattle.limits.proofs.most_passing.Goals as goal

pub returns : goal.returns
unfolding most_passing
returns c = c.greatest.ensures.0 ∙ ap (greatest_of 2) c.limit-most.ensures.0
