-- `judges::rtk_evaluate`: the book found and asked; the answer is turned by its number.
-- Assumes nothing.
use Rattle.std.proofs.Common.{◌∙◌}
use Rattle.doubles.proofs.Laws.{plain_answer}
use Rattle.judges.proofs.Evaluated.{evaluation-asked}
use Rattle.judges.proofs.rtk_evaluate.Goals as goal

pub returns : goal.returns
returns c = c.from.ensures ∙ plain_answer _ _ (rw c.addressed.ensures (evaluation-asked _ _ _ c.found-b.ensures _ c.evaluate-evaluated.ensures))
