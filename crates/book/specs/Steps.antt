-- What an act makes of a book by itself: the paper's refusal, and the words of the paper's next book, or the book handed in.
use Rattle.std.specs.Prelude.{ℕ, ◌+◌, ◌*◌, ◌-◌, cond, List, [], ◌∷◌, get_or, eqb, Option, Some, None, Result, Ok, Err}
use Rattle.std.proofs.Math.Option as math
use Rattle.paper.specs.Units.{Place, in_sheet, number, point_of, is_empty, near}
use Rattle.paper.specs.Books as paper
use Rattle.paper.specs.Calls.{Act}
use Rattle.paper.specs.Alone.{refused_alone, next}
use Rattle.rows.specs.Paste.{pasted}
use Rattle.image.specs.Lengths.{triple, terms_of}
use Rattle.image.specs.Places.{spot_at}
use Rattle.changes.specs.Kept.{pushed, popped, more}
use Rattle.procedure.specs.declared.refusal.Refusal.{Refusal}
use Rattle.procedure.specs.declared.refusal.Refusal.TheVariants as is
use Rattle.procedure.specs.Refused.{number_of}
use Rattle.book.specs.declared.Book.{Book}
use Rattle.book.specs.declared.Step.{Step}
use Rattle.book.specs.declared.Aim.{Aim}
use Rattle.book.specs.Meaning.{book_of, book_form, seen}

abbrev pub step : ℕ → Book → Step
step n b = record { refusal = n; book = b }

-- the words of the next book; those handed in where they are not in form
abbrev pub words_or : Book → math.Option (math.Option paper.Book) → Book
words_or b math.none = b
words_or b (math.some o) = book_of o

unfoldable pub step_of : Act → Book → Step
step_of a b = step (refused_alone a (seen b)) (words_or b (next a (seen b)))

-- ---- steps of the code

-- the next book; beside a refusal the one handed in
abbrev pub stepped : Book → Result Book Refusal → Step
stepped b (Ok next) = step 0 next
stepped b (Err r) = step (number_of r) b

-- what any call that needs an open book meets: REGISTER, then CLOSED
unfoldable pub met_of : Book → Result (Unit {0}) Refusal
met_of b = cond (book_form b) (cond (eqb b.opened 0) (Err is.Closed) (Ok tt)) (Err is.Register)

-- the same of a call on a place, with PLACE between the two; or the number of the place
unfoldable pub aim_of : Book → Place → Result ℕ Refusal
aim_of b p = cond (book_form b) (cond (in_sheet p) (cond (eqb b.opened 0) (Err is.Closed) (Ok (number p))) (Err is.Place)) (Err is.Register)

-- what is met, if anything; else the place
abbrev pub unless_met : Option Refusal → ℕ → Result ℕ Refusal
unless_met None q = Ok q
unless_met (Some r) q = Err r

-- the same of a call that is refused by e at an empty place and by f at a filled one
abbrev pub reached_at : Book → Option Refusal → Option Refusal → Result ℕ Refusal → Result ℕ Refusal
reached_at b e f (Ok q) = unless_met (cond (is_empty (spot_at b.cells (q * 3))) e f) q
reached_at b e f (Err r) = Err r

unfoldable pub reached_of : Book → Place → Option Refusal → Option Refusal → Result ℕ Refusal
reached_of b p e f = reached_at b e f (aim_of b p)

-- in numbers: what refuses a call, and the number of the place
abbrev pub aim : ℕ → ℕ → Aim
aim n p = record { refusal = n; place = p }

abbrev pub aimed : Result ℕ Refusal → Aim
aimed (Ok q) = aim 0 q
aimed (Err r) = aim (number_of r) 0

-- refused by e at an empty place and by f at a filled one, whatever numbers they are
abbrev pub met_at : Book → ℕ → ℕ → Aim → Aim
met_at b e f a = cond (eqb a.refusal 0) (aim (cond (is_empty (spot_at b.cells (a.place * 3))) e f) a.place) a

unfoldable pub sought_of : Book → Place → ℕ → ℕ → Aim
sought_of b p e f = met_at b e f (aimed (aim_of b p))

-- three words v at the place p, and what stood there kept
unfoldable pub changed_of : Book → ℕ → List ℕ → Book
changed_of b p v =
    record {
      opened = b.opened;
      terms = b.terms;
      cells = pasted b.cells (p * 3) v;
      kept = more b.kept;
      changes = pushed b.changes p (get_or b.cells (p * 3) 0) (get_or b.cells (p * 3 + 1) 0) (get_or b.cells (p * 3 + 2) 0);
    }

-- the latest kept change taken back
unfoldable pub undone_of : Book → Book
undone_of b =
    record {
      opened = b.opened;
      terms = b.terms;
      cells = pasted b.cells (get_or b.changes 0 0 * 3) (get_or b.changes 1 0 ∷ get_or b.changes 2 0 ∷ get_or b.changes 3 0 ∷ []);
      kept = b.kept - 1;
      changes = popped b.changes;
    }

-- a reading, in words, at a place where it may stand; FAR where it is far
unfoldable pub placed_of : Book → ℕ → ℕ → ℕ → ℕ → Result Book Refusal
placed_of b q x y h = cond (near (terms_of b.terms) (point_of q) (triple x y h)) (Ok (changed_of b q (x ∷ y ∷ h ∷ []))) (Err is.Far)
