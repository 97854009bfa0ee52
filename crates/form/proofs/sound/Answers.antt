-- `form::sound`: by the count, then its tests joined.
-- Assumes nothing.
use native.Mathlib.Omega.{arith}
use mathlib.Core.Path.{◌≡◌, ap, ◌∙◌}
use lib.ListN.{length, length-drop}
use lib.Seq.{take_all}
use Rattle.image.specs.Layout.{CHANGE_WORDS}
use Rattle.image.specs.Changes.{zeros}
use Rattle.form.proofs.Whole.{sound-many, sound_is}
use borrow.Author.Rules.{rules}
use Rattle.form.proofs.sound.Goals as goal

pub returns-then-kept : goal.returns-then-kept
returns-then-kept c = search (sound-many, rules)

pub returns : goal.returns
returns c = let l : length c.args.changes.now ≡ CHANGE_WORDS = search rules in
    sound_is _ _ _ _ c.if-kept.false (c.all_zero.ensures ∙ ap zeros (take_all _ _ (rw length-drop (omega (arith, l))))) c.in_range.ensures c.all_stand.ensures
