-- An act on a book is refused, or done; and the words of an open book in form.
-- Assumes nothing.
use Prim.Native.Nat.{ℕ, suc}
use mathlib.Core.Path.{◌≡◌, sym, ◌∙◌}
use mathlib.Core.Bool.{true, false}
use mathlib.Core.Option.{Option, map}
use lib.ListN.{length}
use Rattle.paper.specs.Procedure.{KEPT}
use Rattle.paper.specs.Units.{in_range}
use Rattle.paper.specs.Books as paper
use Rattle.paper.specs.Calls.{Act, effect, affected}
use Rattle.paper.specs.Refusals.{REGISTER}
use Rattle.paper.specs.TurnedAway.{lowest, rules}
use Rattle.paper.specs.Alone.{refused_alone, next}
use Rattle.paper.specs.Answers.{unless}
use Rattle.paper.proofs.Form.{parts}
use Rattle.image.specs.Lengths.{terms_of}
use Rattle.image.specs.Places.{places_of, cells_of}
use Rattle.image.specs.Changes.{entries, changes_of}
use Rattle.image.proofs.Places.{cells_places}
use Rattle.image.proofs.Changes.{length-entries, changes_entries}
use Rattle.book.specs.declared.Book.{Book}
use Rattle.book.specs.Meaning.{book_of, open_of, meant, book_form}
use Rattle.book.specs.Steps.{step, step_of}
use Rattle.book.proofs.Meaning.{Sized, Sound, form-book, seen_in_lem, seen-out}

-- what the calls see of it
abbrev pub sight_o : Book → Option paper.Sight
sight_o b = map paper.sight (meant b)

-- ---- refused, or done

module _ (b : Book) (a : Act) where
  pub step-unformed : book_form b ≡ false → step REGISTER b ≡ step_of a b
  unfolding step_of refused_alone next
  step-unformed e = rw (seen-out b e)

  step-seen : book_form b ≡ true → step_of a b ≡ step (lowest (rules a (sight_o b))) (book_of (unless (lowest (rules a (sight_o b))) (affected (effect a) (meant b)) (meant b)))
  unfolding step_of refused_alone next
  step-seen e = rw (seen_in_lem b e)

  pub step-refused : (n : ℕ) → Sized b → book_form b ≡ true → lowest (rules a (sight_o b)) ≡ suc n → step (suc n) b ≡ step_of a b
  step-refused n s e r = sym (step-seen e ∙ rw (r, form-book b s e))

  pub step-done : (b' : Book) → book_form b ≡ true → lowest (rules a (sight_o b)) ≡ 0 → b' ≡ book_of (affected (effect a) (meant b)) → step 0 b' ≡ step_of a b
  step-done b' e r w = sym (step-seen e ∙ rw (r, w))

-- ---- the words of an open book in form

module _ (b : Book) (s : Sized b) (o : Sound b) where
  pub kept-words : changes_of KEPT (entries b.kept b.changes) ≡ b.changes
  kept-words = changes_entries KEPT b.kept b.changes s.changes o.few o.rest

  pub cell_words : cells_of (places_of b.cells) ≡ b.cells
  cell_words = cells_places b.cells s.cells

  pub kept-count : length (open_of b).kept ≡ b.kept
  unfolding open_of
  kept-count = length-entries b.kept b.changes

  pub ranged : in_range (terms_of b.terms) ≡ true
  unfolding open_of
  ranged = (parts (open_of b) o.formed).ranged
