-- `evaluation::judged` meets its contract. Assumes nothing.
use Rattle.std.proofs.Common.{ap, ◌∙◌}
use Rattle.std.proofs.lemmas.Result.{err_from_is_err_and}
use Rattle.procedure.proofs.Told.{handed_on}
use Rattle.evaluation.specs.Evaluating.{evaluation_told}
use Rattle.evaluation.proofs.Evaluating.{short_is, suspect_is, clear_is}
use Rattle.evaluation.proofs.judged.Goals as goal

pub returns-in_err-full-clause-answer : goal.returns-in_err-full-clause-answer
returns-in_err-full-clause-answer c = let h = c.in_err-full.ensures in
    let p = err_from_is_err_and c.from_residual.result c.from_residual.ensures.1 in
    let empty = rw h.ok_part at c.full.ensures in
    ap evaluation_told (handed_on _ _ _ _ _ h.ok_part h.value p.2 p.1) ∙ short_is _ _ empty

pub returns-in-Some-clause-answer : goal.returns-in-Some-clause-answer
returns-in-Some-clause-answer c = let e = rw c.in_ok-full.ensures.ok_part at c.full.ensures in
    rw (← e.1, ← e.2) (suspect_is _ _ e.0 _ c.in-Some.ensures)

pub returns-clause-answer : goal.returns-clause-answer
returns-clause-answer c = let e = rw c.in_ok-full.ensures.ok_part at c.full.ensures in
    rw (← e.1, ← e.2) (clear_is _ _ e.0 c.in_default.ensures _ c.evaluate.ensures.0)
