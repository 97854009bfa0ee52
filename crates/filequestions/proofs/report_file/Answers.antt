-- `filequestions::report_file`: the text of the judgement.
-- Assumes nothing.
use Rattle.std.proofs.Common.{ap, ◌∙◌}
use Rattle.report.specs.Text.{report_of}
use Rattle.report.specs.Given.{held}
use Rattle.filequestions.proofs.Numbers.{file_prints, answer-fits}
use Rattle.filequestions.proofs.report_file.Goals as goal

pub report-requires : goal.report-requires
report-requires c = answer-fits _ _ (file_prints _) c.judge_file.ensures.answer c.judge_file.ensures.held

pub returns : goal.returns
returns c = c.report.ensures ∙ ap held (ap report_of c.judge_file.ensures.answer)
