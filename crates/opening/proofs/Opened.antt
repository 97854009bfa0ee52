-- The ways out of opening a book and of striking one.
-- Assumes nothing.
use Rattle.std.proofs.Common.{◌≡◌, refl, sym, ap, ◌∙◌, ℕ, Bool, true, false, List, [], length, replicate, eqb, eqb-true}
use Rattle.std.specs.Prelude.{Err}
use Rattle.std.proofs.Math.Option.{none, some}
use Rattle.std.proofs.lemmas.Bool.{eqb-false}
use Rattle.paper.specs.Procedure.{PLACES, KEPT}
use Rattle.paper.specs.Units.{Terms, in_range}
use Rattle.paper.specs.Books as paper
use Rattle.paper.specs.Calls.{begin, strike, effect, affected}
use Rattle.paper.specs.Refusals.{OPEN, TERMS}
use Rattle.paper.specs.TurnedAway.{lowest, rules}
use Rattle.image.specs.Layout.{TERM_WORDS, CELL_WORDS}
use Rattle.image.specs.Lengths.{terms_of, term_words_or}
use Rattle.image.proofs.Lengths.{words-terms, terms-words-or}
use Rattle.image.proofs.Places.{none_cells}
use Rattle.image.proofs.Changes.{none_kept}
use Rattle.image.proofs.Bounds.{terms-short, range_given}
use Rattle.procedure.specs.declared.refusal.Refusal.{Refusal}
use Rattle.procedure.specs.Refused.{number_of}
use Rattle.book.specs.declared.Book.{Book}
use Rattle.book.specs.Meaning.{book_of, book_form}
use Rattle.book.specs.Steps.{step, step_of, met_of}
use Rattle.book.proofs.Meaning.{Sized, meant-closed, meant-open}
use Rattle.book.proofs.Steps.{step-unformed, step-refused, step-done}
use Rattle.book.proofs.Opened.{Opened, met_refused}
use Rattle.making.specs.Filled.{filled_of}

pub strike_refused : (b : Book) → Sized b → (r : Refusal) → Err r ≡ met_of b → step (number_of r) b ≡ step_of strike b
unfolding rules
strike_refused b s = met_refused b strike [] s refl

pub struck : (b b' : Book) → Opened b → b' ≡ book_of none → step 0 b' ≡ step_of strike b
unfolding rules lowest effect affected
struck b b' o w = step-done b strike b' o.form (rw (meant-open b o.opened)) w

module _ (b : Book) (s : Sized b) (e : book_form b ≡ true) where
  module _ (t : Terms) where
    pub begin_open : (b.opened ≡ 0 → ⊥) → step OPEN b ≡ step_of (begin t) b
    unfolding rules lowest
    begin_open f = step-refused b (begin t) _ s e (rw (meant-open b f))

    pub begin_range : b.opened ≡ 0 → in_range t ≡ false → step TERMS b ≡ step_of (begin t) b
    unfolding rules lowest
    begin_range z r = step-refused b (begin t) _ s e (rw (meant-closed b z, r))

    pub begun_with : (b' : Book) → b.opened ≡ 0 → in_range t ≡ true → b' ≡ book_of (some (paper.blank t)) → step 0 b' ≡ step_of (begin t) b
    unfolding rules lowest effect affected
    begun_with b' z r w = step-done b (begin t) b' e (rw (meant-closed b z, r)) w

-- terms of any size are opened as their words are
pub begin_given : (b : Book) (t : Terms) → Sized b → (w : List ℕ) → w ≡ term_words_or t → step_of (begin (terms_of w)) b ≡ step_of (begin t) b
begin_given b t s w e = rw e (go (book_form b) (in_range t) (eqb b.opened 0) refl refl refl)
  where
    u : Terms
    u = terms_of (term_words_or t)

    go : (i r z : Bool) → book_form b ≡ i → in_range t ≡ r → eqb b.opened 0 ≡ z → step_of (begin u) b ≡ step_of (begin t) b
    go false r z e f g = sym (step-unformed b (begin u) e) ∙ step-unformed b (begin t) e
    go true true z e f g = ap (λ (v : Terms). step_of (begin v) b) (terms-words-or t (terms-short t f))
    go true false true e f g =
        let c = eqb-true b.opened 0 g in
        sym (begin_range b s e u c (range_given t ∙ f)) ∙ begin_range b s e t c f
    go true false false e f g =
        let o = eqb-false b.opened 0 g in
        sym (begin_open b s e u o) ∙ begin_open b s e t o

-- the words of a blank book
pub blank-words : (t : List ℕ) → length t ≡ TERM_WORDS → filled_of t (replicate CELL_WORDS 0) ≡ book_of (some (paper.blank (terms_of t)))
unfolding filled_of book_of paper.blank paper.nothing
blank-words t n = rw (words-terms t n, none_cells PLACES, none_kept KEPT)
