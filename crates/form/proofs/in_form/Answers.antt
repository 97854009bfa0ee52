-- `form::in_form`: by the flag: closed, open, or neither.
-- Assumes nothing.
use Rattle.form.proofs.Whole.{form-closed, form-open, form_neither}
use borrow.Author.Rules.{rules}
use Rattle.form.proofs.in_form.Goals as goal

pub returns-then-opened-eq0 : goal.returns-then-opened-eq0
returns-then-opened-eq0 c = search (form-closed, rules)

pub returns-then-opened-eq1 : goal.returns-then-opened-eq1
returns-then-opened-eq1 c = form-open _ _ _ _ _ c.if-opened-eq0.false (search rules) c.sound.ensures

pub returns : goal.returns
returns c = form_neither _ _ _ _ _ c.if-opened-eq0.false (search rules)
