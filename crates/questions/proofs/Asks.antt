-- The ways out of what is asked of a book by itself.
-- Assumes nothing.
use Rattle.std.proofs.Common.{◌≡◌, refl, sym, ℕ, true, false}
use Rattle.std.proofs.Math.Option.{some}
use Rattle.std.specs.Prelude.{Ok, Err}
use Rattle.paper.specs.Units.{zeros, Place, place_at, is_empty}
use Rattle.paper.specs.Books as paper
use Rattle.paper.specs.Calls.{residual, evaluate}
use Rattle.paper.specs.TurnedAway.{some?, short, lowest, evaluating, questioned}
use Rattle.paper.specs.Answers.{lengths, residual_at, given, beside, says}
use Rattle.paper.specs.Alone.{asked_alone}
use Rattle.paper.proofs.Places.{place_back}
use Rattle.image.specs.Places.{places_of}
use Rattle.image.specs.Sights.{sight_of}
use Rattle.procedure.specs.declared.refusal.Refusal.{Refusal}
use Rattle.procedure.specs.declared.refusal.Refusal.TheVariants as is
use Rattle.procedure.specs.Refused.{told}
use Rattle.book.specs.declared.Book.{Book}
use Rattle.book.specs.Meaning.{open_of, book_form, seen}
use Rattle.book.specs.Steps.{met_of, aim_of}
use Rattle.book.proofs.Meaning.{meant-closed, meant-open, seen_in_lem, seen-out}
use Rattle.book.proofs.Opened.{Opened, met_by, words-seen}
use Rattle.book.proofs.Sought.{On, aim_by}
use Rattle.numbers.specs.declared.Reading.{Reading}
use Rattle.readings.specs.Answers.{reading_in}
use Rattle.readings.proofs.Asks.{refused_with, asked-before}
use Rattle.evaluation.specs.Evaluating.{answer_to, evaluation_told}
use Rattle.evaluation.proofs.Asked.{evaluate_asked}

-- ---- evaluation

module _ (b : Book) where
  judged-unformed : book_form b ≡ false → evaluation_told (Err is.Register) ≡ asked_alone evaluate (seen b)
  unfolding asked_alone beside
  judged-unformed e = rw (seen-out b e)

  judged-closed : book_form b ≡ true → b.opened ≡ 0 → evaluation_told (Err is.Closed) ≡ asked_alone evaluate (seen b)
  unfolding asked_alone says lowest questioned evaluating beside
  judged-closed e z = rw (seen_in_lem b e, meant-closed b z)

  pub judged-refused : (r : Refusal) → Err r ≡ met_of b → evaluation_told (Err r) ≡ asked_alone evaluate (seen b)
  judged-refused = met_by b (λ r. evaluation_told (Err r) ≡ asked_alone evaluate (seen b)) judged-unformed judged-closed

  pub judged-open : Opened b → answer_to (sight_of b.terms b.cells) ≡ asked_alone evaluate (seen b)
  unfolding asked_alone
  judged-open o = rw (seen_in_lem b o.form, meant-open b o.opened) (sym (evaluate_asked (λ k. some (paper.sight (open_of b))) 1 _ _ _ refl refl (words-seen b o)))

-- ---- residuals

pub residual_refused : (b : Book) (p : Place) (r : Refusal) → Err r ≡ aim_of b p → refused_with (λ k. residual k p) (lengths zeros) b r
unfolding questioned beside
residual_refused b p = aim_by b p (refused_with (λ k. residual k p) (lengths zeros) b) (asked-before b p (λ k. residual k p) _ refl refl)

module _ (b : Book) (p : Place) (q : ℕ) (o : On b p q) where
  pub on-opened : Opened b
  on-opened = record { form = o.form; opened = o.opened }

  pub residual_short : some? is_empty (places_of b.cells) ≡ true → refused_with (λ k. residual k p) (lengths zeros) b is.Short
  unfolding asked_alone says lowest questioned beside short paper.sight open_of
  residual_short e = rw (seen_in_lem b o.form, meant-open b o.opened, o.in_sheet_lem, e)

  pub residual_full : (v : Reading) → some? is_empty (places_of b.cells) ≡ false
      → reading_in v ≡ lengths (residual_at (place_at q) (some (sight_of b.terms b.cells))) → told reading_in (lengths zeros) (Ok v) ≡ asked_alone (λ k. residual k p) (seen b)
  unfolding asked_alone says lowest questioned given short paper.sight open_of
  residual_full v e w = rw (w, o.at, place_back p o.in_sheet_lem, seen_in_lem b o.form, meant-open b o.opened, o.in_sheet_lem, e)
