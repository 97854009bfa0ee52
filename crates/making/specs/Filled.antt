-- The words of a book made of terms and readings.
use Rattle.std.specs.Prelude.{ℕ, List, replicate}
use Rattle.image.specs.Layout.{CHANGE_WORDS}
use Rattle.book.specs.declared.Book.{Book}

-- an open book with these terms and readings, and nothing to take back
unfoldable pub filled_of : List ℕ → List ℕ → Book
filled_of terms cells = record { opened = 1; terms = terms; cells = cells; kept = 0; changes = replicate CHANGE_WORDS 0 }
