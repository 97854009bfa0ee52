-- `book::in_form`: the form of its words.
-- Assumes nothing.
use Rattle.book.specs.Meaning.{book_form}
use Rattle.book.proofs.in_form.Goals as goal

pub returns : goal.returns
unfolding book_form
returns c = c.in_form.ensures
