-- `questions::evaluate`: the judgement in millimetres.
-- Assumes nothing.
use Rattle.std.proofs.Common.{refl, ap}
use Rattle.std.specs.Prelude.{Ok, Err}
use Rattle.std.proofs.lemmas.Result.{err_from_is_err_and}
use Rattle.questions.proofs.evaluate.Goals as goal

pub returns-in_err-judge : goal.returns-in_err-judge
returns-in_err-judge c = let p = err_from_is_err_and c.from_residual.result c.from_residual.ensures.1 in
    record { whole = Err c.in_err-judge.field-0.0; answer = c.in_err-judge.ensures.answer; figures = rw (p.1, p.2) refl }

pub returns : goal.returns
returns c = record { whole = Ok c.in_ok-judge.field-0; answer = c.in_ok-judge.ensures.answer; figures = ap Ok c.in_millimetres.ensures }
