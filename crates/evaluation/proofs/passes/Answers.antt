-- `evaluation::passes` meets its contract. Assumes nothing.
use Rattle.std.proofs.Common.{◌∙◌}
use Rattle.evaluation.proofs.Evaluating.{short-off, suspect-off, clear_on}
use Rattle.evaluation.proofs.passes.Goals as goal

pub returns-in_default : goal.returns-in_default
returns-in_default c = short-off _ _ c.in_default.ensures

pub returns-in-None : goal.returns-in-None
returns-in-None c = let e = c.in-Some.ensures in
    rw (← e.1, ← e.2) (c.both_within.ensures ∙ clear_on _ _ e.0 c.in-None.ensures)

pub returns-in-Some-first_suspect : goal.returns-in-Some-first_suspect
returns-in-Some-first_suspect c = let e = c.in-Some.ensures in
    rw (← e.1, ← e.2) (suspect-off _ _ e.0 _ c.in-Some-first_suspect.ensures)
