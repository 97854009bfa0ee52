-- `filequestions::judge_file`: by whether the file is refused.
-- Assumes nothing.
use Rattle.std.proofs.Common.{◌∙◌}
use Rattle.filequestions.proofs.Ways.{file_refused, file_judged}
use Rattle.filequestions.proofs.judge_file.Goals as goal

pub returns-in-Err-clause-answer : goal.returns-in-Err-clause-answer
returns-in-Err-clause-answer c = file_refused _ _ (rw c.in-Err.is at c.yielded.ensures)

pub returns-in-Ok-clause-answer : goal.returns-in-Ok-clause-answer
returns-in-Ok-clause-answer c = c.judge.ensures.answer ∙ file_judged _ _ (rw c.in-Ok.is at c.yielded.ensures)
