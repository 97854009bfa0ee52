-- `pairs::axis_met`: by the tests of form, of the axis and of a closed book.
-- Assumes nothing.
use Rattle.std.proofs.Common.{sym}
use Rattle.std.proofs.lemmas.Result.{err_from_is_err_and}
use Rattle.pairs.specs.Asked.{axis_met}
use Rattle.pairs.proofs.Asks.{axis-of}
use Rattle.pairs.proofs.axis_met.Goals as goal

pub returns-then-not-in_form : goal.returns-then-not-in_form
unfolding axis_met
returns-then-not-in_form c = simp (sym c.in_form.ensures, sym c.in_form-2.ensures, c.if-not-in_form.true)

pub returns-in_err-axis : goal.returns-in_err-axis
unfolding axis_met
returns-in_err-axis c = let p = err_from_is_err_and c.from_residual.result c.from_residual.ensures.1 in
    let e = c.in_err-axis.ensures in
    rw (p.1, p.2, e.1) (simp (sym c.in_form.ensures, sym c.in_form-2.ensures, c.if-not-in_form.false, e.0))

pub returns-then-first-second : goal.returns-then-first-second
unfolding axis_met
returns-then-first-second c = simp (sym c.in_form.ensures, sym c.in_form-2.ensures, c.if-not-in_form.false, axis-of _ _ c.in_ok-axis.ensures, c.if-first-second.true)

pub returns : goal.returns
unfolding axis_met
returns c = simp (sym c.in_form.ensures, sym c.in_form-2.ensures, c.if-not-in_form.false, axis-of _ _ c.in_ok-axis.ensures, c.if-first-second.false)
