-- `opening::struck`: by what the book meets.
-- Assumes nothing.
use Rattle.std.proofs.Common.{rules}
use Rattle.std.proofs.lemmas.Result.{err_from_is_err_and}
use Rattle.book.proofs.Meaning.{sized}
use Rattle.book.proofs.Opened.{met_open}
use Rattle.opening.proofs.Opened.{strike_refused, struck}
use Rattle.opening.proofs.struck.Goals as goal

pub returns-in_err-met : goal.returns-in_err-met
returns-in_err-met c = let p = err_from_is_err_and c.from_residual.result c.from_residual.ensures.1 in
    rw (p.1, p.2) (strike_refused _ (search (sized, rules)) _ c.in_err-met.ensures)

pub returns : goal.returns
returns c = struck _ _ (met_open _ c.in_ok-met.ensures) c.closed.ensures
