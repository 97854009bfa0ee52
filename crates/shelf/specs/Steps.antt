-- The first step of a call on one book: the book found.
use Rattle.std.specs.Prelude.{ℕ, ◌-◌, ◌*◌, Bool, cond, ◌&&◌, List, length, eqb}
use Rattle.std.proofs.Math.Option.{none}
use Rattle.paper.specs.Procedure.{BOOKS}
use Rattle.paper.specs.Units.{one_to}
use Rattle.book.specs.declared.Book.{Book}
use Rattle.book.specs.Meaning.{book_of}
use Rattle.stored.specs.Image.{BOOK, book_at}
use Rattle.lent.specs.Image.{LENGTH, in_form, form_between}

-- the book of that number as its bytes stand; a closed one where the bytes have none
unfoldable pub picked_of : List ℕ → ℕ → Book
picked_of bs k = cond (eqb (length bs) LENGTH && one_to BOOKS k) (book_at bs ((k - 1) * BOOK)) (book_of none)

-- the register is in form but for the book of that number
unfoldable pub others_form : List ℕ → ℕ → Bool
others_form bs k = cond (one_to BOOKS k) (form_between 0 (k - 1) bs && form_between k BOOKS bs) (in_form bs)

-- no book in form begins so
abbrev pub unformed : Book → Book
unformed b = record { opened = 2; terms = b.terms; cells = b.cells; kept = b.kept; changes = b.changes }

-- the book of that number, made one that is not in form where another is not
unfoldable pub found_of : List ℕ → ℕ → Book
found_of bs k = cond (others_form bs k) (picked_of bs k) (unformed (picked_of bs k))
