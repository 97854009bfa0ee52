-- `pairs::compare`: by what the books meet.
-- Assumes nothing.
use Rattle.std.proofs.Common.{◌∙◌}
use Rattle.std.proofs.lemmas.Result.{err_from_is_err_and}
use Rattle.book.proofs.Opened.{words-formed}
use Rattle.pairs.proofs.Asks.{comparable, compared_refused, compared_open}
use Rattle.pairs.proofs.compare.Goals as goal

pub returns-in_err-axis : goal.returns-in_err-axis
returns-in_err-axis c = let p = err_from_is_err_and c.from_residual.result c.from_residual.ensures.1 in
    rw (p.1, p.2) (compared_refused _ _ _ _ c.in_err-axis.ensures)

pub invariant_of-one : goal.invariant_of-one
invariant_of-one c = record { formed = words-formed _ (comparable _ _ _ _ c.in_ok-axis.ensures).first }

pub invariant_of-other : goal.invariant_of-other
invariant_of-other c = record { formed = words-formed _ (comparable _ _ _ _ c.in_ok-axis.ensures).second }

pub returns : goal.returns
returns c = c.compare.ensures ∙ compared_open _ _ _ _ (comparable _ _ _ _ c.in_ok-axis.ensures)
