-- `filequestions::evaluate_file`: the judgement in millimetres.
-- Assumes nothing.
use Rattle.std.proofs.Common.{refl, ap}
use Rattle.std.specs.Prelude.{Ok, Err}
use Rattle.std.proofs.lemmas.Result.{err_from_is_err_and}
use Rattle.filequestions.proofs.evaluate_file.Goals as goal

pub returns-in_err-judge_file : goal.returns-in_err-judge_file
returns-in_err-judge_file c = let p = err_from_is_err_and c.from_residual.result c.from_residual.ensures.1 in
    record { whole = Err c.in_err-judge_file.field-0.0; answer = c.in_err-judge_file.ensures.answer; figures = rw (p.1, p.2) refl }

pub returns : goal.returns
returns c = record { whole = Ok c.in_ok-judge_file.field-0; answer = c.in_ok-judge_file.ensures.answer; figures = ap Ok c.in_millimetres.ensures }
