-- A register in bytes: sixteen books, one after another.
-- (proofs/Image.antt: bytes that hold a register in form are its image, and each register in form is held by its image: one state, one image.)
use Rattle.std.specs.Prelude.{ℕ, ◌-◌, ◌*◌, Bool, cond, ◌&&◌, List, length, drop, eqb}
use Rattle.std.proofs.Math.Option.{Option, none, some}
use Rattle.rows.specs.Lists.{all?}
use Rattle.rows.specs.Blocks.{blocks, laid}
use Rattle.paper.specs.Procedure.{BOOKS}
use Rattle.paper.specs.Books as paper
use Rattle.book.specs.declared.Book.{Book}
use Rattle.book.specs.Meaning.{meant, book_form}
use Rattle.stored.specs.Image.{BOOK, book_bytes, book_at}

-- the bytes of a register
abbrev pub LENGTH : ℕ
LENGTH = BOOKS * BOOK

abbrev pub image : paper.Register → List ℕ
image r = laid book_bytes r

-- ---- what bytes hold

-- the book that a row of bytes starts with
abbrev pub book_in : List ℕ → Book
book_in bs = book_at bs 0

-- each of the first n books is in form
abbrev pub form_from : ℕ → List ℕ → Bool
form_from n bs = all? book_form (blocks BOOK book_in n bs)

-- what they mean
abbrev pub meant_from : ℕ → List ℕ → paper.Register
meant_from n bs = blocks BOOK (λ l. meant (book_in l)) n bs

-- the length is right and every book is in form
unfoldable pub in_form : List ℕ → Bool
in_form bs = eqb (length bs) LENGTH && form_from BOOKS bs

-- the register that the bytes hold; none where they are not in form
unfoldable pub state_of : List ℕ → Option paper.Register
state_of bs = cond (in_form bs) (some (meant_from BOOKS bs)) none

-- the length is right, and the books from one to another are in form, counted from 0, the last not among them
unfoldable pub form_between : ℕ → ℕ → List ℕ → Bool
form_between from to bs = eqb (length bs) LENGTH && form_from (to - from) (drop (from * BOOK) bs)
