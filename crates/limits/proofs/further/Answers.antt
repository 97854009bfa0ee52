-- `limits::further` meets its contract. Assumes nothing.
use Rattle.std.proofs.Common.{sym, ◌∙◌}
use Rattle.limits.proofs.Limits.{above_it, below_it, near_it}
use Rattle.limits.proofs.further.Goals as goal

pub returns-then-most-about : goal.returns-then-most-about
returns-then-most-about c = c.nearest_at_most-then-most-about.ensures ∙ below_it _ _ _ (sym c.nearest_at_most.ensures ∙ c.if-nearest_at_most.true) c.if-most-about.true

pub returns-then-nearest_at_most : goal.returns-then-nearest_at_most
returns-then-nearest_at_most c = near_it _ _ _ (sym c.nearest_at_most.ensures ∙ c.if-nearest_at_most.true) c.if-most-about.false

pub returns : goal.returns
returns c = above_it _ _ _ (sym c.nearest_at_most.ensures ∙ c.if-nearest_at_most.false)
