-- `stored::in_form`: loaded, and held to the form.
-- Assumes nothing.
use mathlib.Core.Path.{ap, ◌∙◌}
use Rattle.book.specs.Meaning.{book_form}
use Rattle.stored.proofs.in_form.Goals as goal

pub returns : goal.returns
unfolding book_form
returns c = c.in_form.ensures ∙ ap book_form c.load.ensures
