-- `readings::changes`: by what the book meets.
-- Assumes nothing.
use Rattle.std.proofs.Common.{rules}
use Rattle.std.proofs.lemmas.Result.{err_from_is_err_and}
use Rattle.book.proofs.Meaning.{sized}
use Rattle.book.proofs.Opened.{met_open}
use Rattle.readings.proofs.Asks.{count-refused, count-open}
use Rattle.readings.proofs.changes.Goals as goal

pub returns-in_err-met : goal.returns-in_err-met
returns-in_err-met c = let p = err_from_is_err_and c.from_residual.result c.from_residual.ensures.1 in
    rw (p.1, p.2) (count-refused _ _ c.in_err-met.ensures)

pub returns : goal.returns
returns c = count-open _ (search (sized, rules)) (met_open _ c.in_ok-met.ensures)
