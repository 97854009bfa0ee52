-- The ways out of a take-back.
-- Assumes nothing.
use Rattle.std.proofs.Common.{◌≡◌, refl, sym, ◌∙◌, subst, ℕ, ◌+◌, ◌*◌, ◌-◌, ◌<◌, arith, true, List, ◌∷◌, length, get_or, drop, length-drop, drop-drop, ne_eqb}
use Rattle.std.specs.Prelude.{Err}
use Rattle.paper.specs.Procedure.{PLACES, KEPT}
use Rattle.paper.specs.Books as paper
use Rattle.paper.specs.Calls.{take_back, undoes, effect, affected}
use Rattle.paper.specs.Refusals.{NOTHING}
use Rattle.paper.specs.TurnedAway.{nothing_kept, lowest, rules}
use Rattle.paper.proofs.Form.{parts, AllFit}
use Rattle.image.specs.Places.{spot_at, places_of}
use Rattle.image.specs.Changes.{change, entries, changes_of, zeros}
use Rattle.image.proofs.Lengths.{words-terms}
use Rattle.image.proofs.Places.{length-places, cells_set, words-spot}
use Rattle.image.proofs.Changes.{length-entries, entries-cons, changes_entries, changes_pop}
use Rattle.changes.specs.Kept.{popped}
use Rattle.procedure.specs.declared.refusal.Refusal.{Refusal}
use Rattle.procedure.specs.Refused.{number_of}
use Rattle.book.specs.declared.Book.{Book}
use Rattle.book.specs.Meaning.{book_of, open_of, meant}
use Rattle.book.specs.Steps.{step, step_of, met_of, undone_of}
use Rattle.book.proofs.Meaning.{Sized, book-parts, Sound, form-sound, meant-open}
use Rattle.book.proofs.Steps.{step-refused, step-done, cell_words, kept-count}
use Rattle.book.proofs.Opened.{Opened, met_refused}

pub back_refused : (b : Book) → Sized b → (r : Refusal) → Err r ≡ met_of b → step (number_of r) b ≡ step_of take_back b
unfolding rules
back_refused b s = met_refused b take_back _ s refl

module _ (b : Book) (s : Sized b) (o : Opened b) where
  sound_b : Sound b
  sound_b = form-sound b o.form o.opened

  last : paper.Change
  last = change (get_or b.changes 0 0) (spot_at b.changes 1)

  older : List paper.Change
  older = entries (b.kept - 1) (drop 4 b.changes)

  kept_is : 0 < b.kept → (open_of b).kept ≡ last ∷ older
  unfolding open_of last older
  kept_is z = entries-cons b.kept b.changes z

  pub back_small : 0 < b.kept → get_or b.changes 0 0 < PLACES
  unfolding last
  back_small z = (subst (λ (l : List paper.Change). AllFit (open_of b).terms (open_of b).places l) (kept_is z) (parts (open_of b) sound_b.formed).fit).0.reaches

  pub step-nothing : b.kept ≡ 0 → step NOTHING b ≡ step_of take_back b
  unfolding lowest rules nothing_kept paper.sight
  step-nothing z = step-refused b take_back _ s o.form (rw (meant-open b o.opened, kept-count b s sound_b, z))

  rest_words : 0 < b.kept → changes_of (KEPT - 1) older ≡ drop 4 b.changes
  unfolding older
  rest_words z =
      let l : length (drop 4 b.changes) ≡ 4 * (KEPT - 1) = rw length-drop (omega (arith, s.changes)) in
      changes_entries (KEPT - 1) (b.kept - 1) (drop 4 b.changes) l (omega (arith, sound_b.few))
      (rw (drop-drop ((b.kept - 1) * 4) 4 b.changes) (subst (λ (n : ℕ). zeros (drop n b.changes) ≡ true) (swap z) sound_b.rest))
    where
      swap : 0 < b.kept → b.kept * 4 ≡ 4 + (b.kept - 1) * 4
      swap z = omega arith

  older_length : length older ≡ b.kept - 1
  unfolding older
  older_length = length-entries (b.kept - 1) (drop 4 b.changes)

  undone_is : 0 < b.kept → undone_of b ≡ book_of (affected undoes (meant b))
  unfolding undone_of book_of affected paper.undone paper.make open_of popped last
  undone_is z =
      rw (meant-open b o.opened, kept_is z)
      (book-parts _ _ _ _ _ _ _ _ _ _ sound_b.opened
      (sym (words-terms b.terms s.terms))
      (sym (cells_set (places_of b.cells) (get_or b.changes 0 0) (spot_at b.changes 1) (rw (length-places b.cells) (back_small z)) ∙ rw (cell_words b s sound_b, words-spot (get_or b.changes 1 0) (get_or b.changes 2 0) (get_or b.changes 3 0))))
      (sym older_length)
      (rw (← rest_words z) (changes_pop (KEPT - 1) older (omega (arith, older_length, sound_b.few)))))

  pub step-undone : 0 < b.kept → step 0 (undone_of b) ≡ step_of take_back b
  unfolding lowest rules nothing_kept paper.sight effect
  step-undone z = step-done b take_back (undone_of b) o.form (rw (meant-open b o.opened, kept-count b s sound_b, ne_eqb b.kept 0 (λ h. omega arith))) (undone_is z)
