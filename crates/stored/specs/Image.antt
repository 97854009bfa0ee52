-- A book in bytes: 232 words, little-endian. A closed book is all zero.
-- (proofs/Image.antt: bytes of a book in form are those of the book that they hold.)
use Rattle.std.specs.Prelude.{ℕ, ◌+◌, ◌*◌, List, [], ◌∷◌, ◌++◌, take, drop}
use Rattle.std.proofs.Math.Option.{Option}
use Rattle.paper.specs.Books as paper
use Rattle.words.specs.Words.{le, words, bytes_of}
use Rattle.image.specs.Layout.{TERM_WORDS, CELL_WORDS, CHANGE_WORDS}
use Rattle.book.specs.declared.Book.{Book}
use Rattle.book.specs.Meaning.{book_of}

-- where the parts of a book start: behind the word that says whether it is open the terms, the readings, how many changes can be taken
-- back, and these changes
abbrev pub TERMS_AT : ℕ
TERMS_AT = 8

abbrev pub CELLS_AT : ℕ
CELLS_AT = TERMS_AT + 8 * TERM_WORDS

abbrev pub KEPT_AT : ℕ
KEPT_AT = CELLS_AT + 8 * CELL_WORDS

abbrev pub CHANGES_AT : ℕ
CHANGES_AT = KEPT_AT + 8

-- the bytes of a book
abbrev pub BOOK : ℕ
BOOK = CHANGES_AT + 8 * CHANGE_WORDS

-- the words of a book in their order
unfoldable pub words_of : Book → List ℕ
words_of b = (b.opened ∷ []) ++ b.terms ++ b.cells ++ (b.kept ∷ []) ++ b.changes

abbrev pub book_bytes : Option paper.Book → List ℕ
book_bytes o = bytes_of (words_of (book_of o))

-- the book whose bytes start at a
unfoldable pub book_at : List ℕ → ℕ → Book
book_at bs a =
    record {
      opened = le (take 8 (drop a bs));
      terms = words TERM_WORDS (drop (a + TERMS_AT) bs);
      cells = words CELL_WORDS (drop (a + CELLS_AT) bs);
      kept = le (take 8 (drop (a + KEPT_AT) bs));
      changes = words CHANGE_WORDS (drop (a + CHANGES_AT) bs);
    }
