-- What the words of a book mean, and when they are in form: exactly the words of a closed book, or of an open one in the paper's form.
-- (proofs/Meaning.antt: `seen b ≡ some o` says that o is in form and that b has its words; no other book in form has them.)
use Rattle.std.specs.Prelude.{Bool, cond, length, replicate, eqb}
use Rattle.std.proofs.Math.Option.{Option, none, some}
use Rattle.paper.specs.Procedure.{KEPT}
use Rattle.paper.specs.Books as paper
use Rattle.image.specs.Layout.{TERM_WORDS, CELL_WORDS, CHANGE_WORDS}
use Rattle.image.specs.Lengths.{terms_of, term_words}
use Rattle.image.specs.Places.{places_of, cells_of}
use Rattle.image.specs.Changes.{entries, changes_of}
use Rattle.form.specs.Whole.{words_form}
use Rattle.book.specs.declared.Book.{Book}

-- the words of a book: a closed one is all zero
unfoldable pub book_of : Option paper.Book → Book
book_of none = record { opened = 0; terms = replicate TERM_WORDS 0; cells = replicate CELL_WORDS 0; kept = 0; changes = replicate CHANGE_WORDS 0 }
book_of (some b) =
    record {
      opened = 1;
      terms = term_words b.terms;
      cells = cells_of b.places;
      kept = length b.kept;
      changes = changes_of KEPT b.kept;
    }

-- what the words of an open book mean, nonsense included
unfoldable pub open_of : Book → paper.Book
open_of b = record { terms = terms_of b.terms; places = places_of b.cells; kept = entries b.kept b.changes }

unfoldable pub meant : Book → Option paper.Book
meant b = cond (eqb b.opened 0) none (some (open_of b))

unfoldable pub book_form : Book → Bool
book_form b = words_form b.opened b.terms b.cells b.kept b.changes

-- the book that the words stand for; none where they are not in form
unfoldable pub seen : Book → Option (Option paper.Book)
seen b = cond (book_form b) (some (meant b)) none
