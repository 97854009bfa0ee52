-- The last step of a call on one book: what refuses the call, and the book put back.
use Rattle.std.specs.Prelude.{ℕ, ◌-◌, ◌*◌, Bool, true, false, cond, List, eqb, Result, Err}
use Rattle.paper.specs.Refusals.{REGISTER, PLACE}
use Rattle.paper.specs.Procedure.{BOOKS}
use Rattle.paper.specs.Units.{one_to}
use Rattle.words.specs.Words.{bytes_of}
use Rattle.rows.specs.Paste.{pasted}
use Rattle.procedure.specs.declared.refusal.Refusal.{Refusal}
use Rattle.procedure.specs.declared.refusal.Refusal.TheVariants as is
use Rattle.book.specs.declared.Book.{Book}
use Rattle.stored.specs.Image.{BOOK, words_of}

-- REGISTER, then PLACE, then what the book met
unfoldable pub turned_away : ℕ → ℕ → ℕ
turned_away k met = cond (eqb met REGISTER) REGISTER (cond (one_to BOOKS k) met PLACE)

-- the same of what the book answered
abbrev pub meets_register : {A : Type 0} → Result A Refusal → Bool
meets_register (Err is.Register) = true
meets_register _ = false

unfoldable pub addressed_of : {A : Type 0} → ℕ → Result A Refusal → Result A Refusal
addressed_of k r = cond (meets_register r) r (cond (one_to BOOKS k) r (Err is.Place))

-- the bytes with this book under that number
abbrev pub placed_at : List ℕ → ℕ → Book → List ℕ
placed_at bs k b = pasted bs ((k - 1) * BOOK) (bytes_of (words_of b))
