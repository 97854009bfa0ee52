-- `standing::change_ok`: by its place, and whether what it puts back is empty.
-- Assumes nothing.
use mathlib.Core.Path.{◌∙◌}
use Rattle.standing.proofs.Marked.{marked_outside, marked_empty, marked-filled}
use borrow.Author.Rules.{rules}
use Rattle.standing.proofs.change_ok.Goals as goal

pub returns-then-place : goal.returns-then-place
returns-then-place c = search (marked_outside, rules)

pub returns-then-empties : goal.returns-then-empties
returns-then-empties c = search (marked_empty, rules)

pub returns : goal.returns
returns c = c.near.ensures ∙ marked-filled _ _ _ _ _ _ c.if-place.false c.all_zero-empties.ensures c.if-empties.false
