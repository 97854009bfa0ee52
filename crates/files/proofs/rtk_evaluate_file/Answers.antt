-- `files::rtk_evaluate_file`: the record of the answer. Assumes nothing.
use Rattle.std.proofs.Common.{◌∙◌}
use Rattle.doubles.proofs.Laws.{plain_answer}
use Rattle.files.proofs.rtk_evaluate_file.Goals as goal

pub returns : goal.returns
returns c = c.from.ensures ∙ plain_answer _ _ c.evaluate_file.ensures
