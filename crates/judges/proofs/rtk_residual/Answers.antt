-- `judges::rtk_residual`: the book found and asked; the answer is turned by its number.
-- Assumes nothing.
use Rattle.std.proofs.Common.{ap, ◌∙◌}
use Rattle.paper.specs.Calls.{residual}
use Rattle.paper.specs.Answers.{beside}
use Rattle.readings.specs.Answers.{reading_in, lengths_of}
use Rattle.shelf.proofs.Asked.{asked-told, residues, residues-shut}
use Rattle.judges.proofs.rtk_residual.Goals as goal

pub returns : goal.returns
unfolding beside
returns c = c.from.ensures ∙ ap lengths_of (rw c.addressed.ensures (asked-told _ _ (λ k. residual k _) (residues _) (residues-shut _) _ c.found-b.ensures reading_in _ c.residual-residual.ensures))
