-- `questions::judge`: by what the book meets.
-- Assumes nothing.
use Rattle.std.proofs.Common.{◌∙◌}
use Rattle.std.proofs.lemmas.Result.{err_from_is_err_and}
use Rattle.book.proofs.Opened.{met_open, words-formed}
use Rattle.questions.proofs.Asks.{judged-refused, judged-open}
use Rattle.questions.proofs.judge.Goals as goal

pub returns-in_err-met-clause-answer : goal.returns-in_err-met-clause-answer
returns-in_err-met-clause-answer c = let p = err_from_is_err_and c.from_residual.result c.from_residual.ensures.1 in
    rw (p.1, p.2) (judged-refused _ _ c.in_err-met.ensures)

pub invariant_of-judged : goal.invariant_of-judged
invariant_of-judged c = record { formed = words-formed _ (met_open _ c.in_ok-met.ensures) }

pub returns-clause-answer : goal.returns-clause-answer
returns-clause-answer c = c.judged.ensures.answer ∙ judged-open _ (met_open _ c.in_ok-met.ensures)
