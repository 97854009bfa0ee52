-- `questions::residual`: by what the call meets; SHORT; or the residuals.
-- Assumes nothing.
use Rattle.std.proofs.Common.{ap, ◌∙◌}
use Rattle.std.proofs.lemmas.Result.{err_from_is_err_and}
use Rattle.paper.specs.Units.{zeros}
use Rattle.paper.specs.Answers.{lengths}
use Rattle.procedure.specs.Refused.{told}
use Rattle.procedure.proofs.Told.{handed_on}
use Rattle.numbers.specs.Named.{place_named}
use Rattle.book.proofs.Opened.{words-formed}
use Rattle.book.proofs.Sought.{On, aim-on}
use Rattle.readings.specs.Answers.{reading_in}
use Rattle.questions.proofs.Asks.{residual_refused, on-opened, residual_short, residual_full}
use Rattle.questions.proofs.residual.Goals as goal
use Rattle.questions.proofs.residual.Goals.{In_ok-place}

-- the place in hand
there : (c : In_ok-place) → On c.args.b.now (place_named c.args.at) c.in_ok-place.place
there c = aim-on _ _ _ c.in_ok-place.ensures.goes

pub returns-in_err-place : goal.returns-in_err-place
returns-in_err-place c = let p = err_from_is_err_and c.from_residual.result c.from_residual.ensures.1 in
    rw (p.1, p.2) (residual_refused _ _ _ c.in_err-place.ensures.goes)

pub invariant_of-open : goal.invariant_of-open
invariant_of-open c = record { formed = words-formed _ (on-opened _ _ _ (there (goal.at.invariant_of-open c).In_ok-place)) }

pub returns-in_err-full : goal.returns-in_err-full
returns-in_err-full c = let h = c.in_err-full.ensures in
    let p = err_from_is_err_and c.from_residual-in_err-full.result c.from_residual-in_err-full.ensures.1 in
    let empty = rw h.ok_part at c.full.ensures in
    ap (told reading_in (lengths zeros)) (handed_on _ _ _ _ _ h.ok_part h.value p.2 p.1) ∙ residual_short _ _ _ (there (goal.at.returns-in_err-full c).In_ok-place) empty

pub returns : goal.returns
returns c = let e = rw c.in_ok-full.ensures.ok_part at c.full.ensures in
    residual_full _ _ _ (there (goal.at.returns c).In_ok-place) _ (rw e.2 at e.0) (rw (e.1, e.2) at c.residuals.ensures)
