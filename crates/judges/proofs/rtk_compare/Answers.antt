-- `judges::rtk_compare`: both books found and asked; the answer is turned by each number.
-- Assumes nothing.
use Rattle.std.proofs.Common.{ap, ◌∙◌}
use Rattle.judges.specs.Answers.{comparison_of}
use Rattle.judges.proofs.Compared.{comparison_asked}
use Rattle.judges.proofs.rtk_compare.Goals as goal

pub returns : goal.returns
returns c = c.from.ensures ∙ ap comparison_of (rw (c.addressed.ensures, c.addressed-compared.ensures) (comparison_asked _ _ _ _ _ _ c.found-a.ensures c.picked-b.ensures _ c.compare.ensures))
