-- `filebook::yielded`: by what the file holds: FORM, TERMS, FAR, or its book.
-- Assumes nothing.
use Rattle.std.proofs.Common.{sym, ap, ◌∙◌}
use Rattle.book.specs.declared.Book.{Book}
use Rattle.book.specs.Steps.{step}
use Rattle.filebook.proofs.Ways.{Read, unread, was_read, way-form, way-terms, way-far, way-book}
use Rattle.filebook.proofs.yielded.Goals as goal
use Rattle.filebook.proofs.yielded.Goals.{In-Some}

-- what was read, where something was
read : (c : In-Some) → Read c.args.file.now c.in-Some.contents
read c = was_read _ _ (sym c.in-Some.is ∙ c.read.ensures)

pub returns-in_default : goal.returns-in_default
returns-in_default c = way-form _ (unread _ (sym c.in_default.is ∙ c.read.ensures))

pub returns-then-not-in_range : goal.returns-then-not-in_range
returns-then-not-in_range c = way-terms _ _ (read (goal.at.returns-then-not-in_range c).In-Some) (sym c.if-not-in_range.ensures)

pub returns-then-not-all_near : goal.returns-then-not-all_near
returns-then-not-all_near c = way-far _ _ (read (goal.at.returns-then-not-all_near c).In-Some) (sym c.if-not-in_range.ensures) (sym c.if-not-all_near.ensures)

pub returns : goal.returns
returns c = ap (λ (b : Book). step 0 b) c.filled.ensures
    ∙ way-book _ _ (read (goal.at.returns c).In-Some) (sym c.if-not-in_range.ensures) (sym c.if-not-all_near.ensures)
