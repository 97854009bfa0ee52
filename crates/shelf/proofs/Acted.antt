-- An act on the book of a number: what the three steps of a call leave is what the paper says.
-- Assumes nothing.
use Prim.Native.Nat.{ℕ, zero, suc, ◌-◌, ◌*◌, ◌≤◌}
use native.Mathlib.Omega.{arith}
use mathlib.Core.Path.{◌≡◌, refl, sym, ap, ◌∙◌}
use mathlib.Core.Logic.{◌≢◌}
use mathlib.Core.Bool.{Bool, true, false, cond, not}
use mathlib.Core.Option.{Option, none, some, map}
use mathlib.Core.List.{List}
use lib.ListN.{length}
use borrow.Author.Tests.{ne_eqb}
use Rattle.paper.specs.Procedure.{BOOKS}
use Rattle.paper.specs.Units.{one_to, in_range, in_sheet}
use Rattle.paper.specs.Books as paper
use Rattle.paper.specs.Calls.{Act, begin, strike, enter, correct, withdraw, take_back, on, effect, affected}
use Rattle.paper.specs.Refusals.{REGISTER, PLACE, TERMS, CLOSED}
use Rattle.paper.specs.TurnedAway.{lowest, rules, refusal}
use Rattle.paper.specs.Answers.{unless, says, after}
use Rattle.paper.specs.Alone.{refused_alone, next}
use Rattle.paper.specs.Form.{formed_o, InForm}
use Rattle.paper.proofs.Tests.{among}
use Rattle.paper.proofs.Stays.{formed-next}
use Rattle.rows.specs.Paste.{pasted}
use Rattle.book.specs.declared.Book.{Book}
use Rattle.book.specs.declared.Step.{Step}
use Rattle.book.specs.Meaning.{book_of}
use Rattle.book.specs.Steps.{step, step_of}
use Rattle.book.proofs.Meaning.{seen-image}
use Rattle.stored.specs.Image.{BOOK, book_bytes}
use Rattle.lent.specs.Image.{LENGTH, image, meant_from}
use Rattle.lent.specs.Calls.{shut, call_on, called, Calls}
use Rattle.shelving.specs.Steps.{turned_away, placed_at}
use Rattle.shelf.specs.Steps.{found_of}
use Rattle.rows.proofs.Sizes.{Bytes}
use Rattle.lent.proofs.Image.{form-length, image-set, state_in, state-out, form-image_is, form-state}
use Rattle.shelving.proofs.Ways.{away-among}
use Rattle.shelf.proofs.Ways.{Found, found, elsewhere, Way, within, without, found-way, found-seen, found-meant}

-- outside the sixteen it is 2 (PLACE), but for 1 (REGISTER)
away_outside : (k n : ℕ) → one_to BOOKS k ≡ false → (n ≡ REGISTER → ⊥) → turned_away k n ≡ PLACE
unfolding turned_away
away_outside k n e h = rw (ne_eqb n REGISTER h, e)

not-one : (i : Bool) (m n : ℕ) → m ≢ REGISTER → n ≢ REGISTER → cond (not i) m n ≢ REGISTER
not-one true m n u v = v
not-one false m n u v = u

-- no act on a closed book meets 1
closed_meets : (a : Act) → refused_alone a (some none) ≢ REGISTER
unfolding refused_alone rules lowest
closed_meets (begin t) = not-one (in_range t) TERMS 0 (λ e. omega (arith, e)) (λ e. omega (arith, e))
closed_meets strike = λ e. omega (arith, e)
closed_meets (enter p v) = not-one (in_sheet p) PLACE CLOSED (λ e. omega (arith, e)) (λ e. omega (arith, e))
closed_meets (correct p v) = not-one (in_sheet p) PLACE CLOSED (λ e. omega (arith, e)) (λ e. omega (arith, e))
closed_meets (withdraw p) = not-one (in_sheet p) PLACE CLOSED (λ e. omega (arith, e)) (λ e. omega (arith, e))
closed_meets take_back = λ e. omega (arith, e)

module _ (bs : List ℕ) (k : ℕ) (a : Act) (y : Bytes bs) where
  module _ (b : Book) (f : Found bs k b) where
    abbrev r : paper.Register
    r = meant_from BOOKS bs

    abbrev o : Option paper.Book
    o = paper.book r k

    step_is : step_of a b ≡ step (lowest (rules a (map paper.sight o))) (book_of (unless (lowest (rules a (map paper.sight o))) (affected (effect a) o) o))
    unfolding step_of refused_alone next
    step_is = rw (found-seen bs k b f, found-meant bs k b f)

    refusal_is : refusal k a (paper.sights r k) ≡ lowest (rules a (map paper.sight o))
    unfolding refusal lowest paper.sights
    refusal_is = rw f.among

    put_is : (p : Option paper.Book) → formed_o p ≡ true → placed_at bs k (book_of p) ≡ image (paper.put r k p)
    put_is p g = go k (among BOOKS k f.among)
      where
        v : InForm r
        v = form-state bs f.formed

        go : (j : ℕ) → (1 ≤ j) × (j ≤ BOOKS) → placed_at bs j (book_of p) ≡ image (paper.put r j p)
        go zero h = absurd (omega (arith, h.0))
        go (suc j) h =
            let e : suc j - 1 ≡ j = omega arith in
            rw e (ap (λ (l : List ℕ). pasted l (j * BOOK) (book_bytes p)) (sym (form-image_is bs y f.formed))
            ∙ image-set r j p (omega (arith, h.1, v.sixteen)) v g)

    act-done : (s : Step) (bs' : List ℕ) → s ≡ step_of a b → bs' ≡ unless s.refusal (placed_at bs k s.book) bs → Calls (on k a) bs s.refusal bs'
    unfolding called call_on says after
    act-done s bs' es eb =
        rw (state_in bs f.formed, refusal_is)
        (ap (λ (q : Step). q.refusal) w, eb ∙ ap (λ (q : Step). unless q.refusal (placed_at bs k q.book) bs) w ∙ go (lowest (rules a (map paper.sight o))) refl)
      where
        w : s ≡ step (lowest (rules a (map paper.sight o))) (book_of (unless (lowest (rules a (map paper.sight o))) (affected (effect a) o) o))
        w = es ∙ step_is

        go : (n : ℕ) → lowest (rules a (map paper.sight o)) ≡ n → unless n (placed_at bs k (book_of (unless n (affected (effect a) o) o))) bs ≡ image (unless n (paper.put r k (affected (effect a) o)) r)
        go (suc n) e = sym (form-image_is bs y f.formed)
        go zero e = put_is (affected (effect a) o) (formed-next a o ((form-state bs f.formed).every k) e)

  -- what an act does, by what was found and by what the book did, which was told the same act
  pub acted : (b : Book) (s : Step) (told : Act) (r : ℕ) (bs' : List ℕ) → b ≡ found_of bs k → s ≡ step_of told b → told ≡ a → (r ≡ turned_away k s.refusal) × (bs' ≡ unless (turned_away k s.refusal) (placed_at bs k s.book) bs) → Calls (on k a) bs r bs'
  unfolding called call_on shut says after refusal lowest step_of refused_alone turned_away
  acted b s told r bs' e et same (er, eb) = let d = go (found-way bs k b e) in (er ∙ d.0, d.1)
    where
      es : s ≡ step_of a b
      es = et ∙ rw same

      go : Way bs k b → Calls (on k a) bs (turned_away k s.refusal) bs'
      go (within u (found f)) =
          let z = away-among k s.refusal f.among in
          let d = act-done b f s bs' es (eb ∙ ap (λ (n : ℕ). unless n (placed_at bs k s.book) bs) z) in
          (z ∙ d.0, d.1)
      go (within u (elsewhere v w)) =
          let n : turned_away k s.refusal ≡ PLACE = away_outside k s.refusal v (λ m. closed_meets a (sym (ap (λ (q : Step). q.refusal) es ∙ rw (w, seen-image none refl)) ∙ m)) in
          (n ∙ rw (state_in bs u, v), eb ∙ rw n (rw (state_in bs u, v) (sym (form-image_is bs y u))))
      go (without u v) =
          let n : turned_away k s.refusal ≡ REGISTER = rw (es, v) in
          (n ∙ rw (state-out bs u), eb ∙ rw n (rw (state-out bs u)))

-- an accepted act's register is of the right length
pub accepted_length : (bs : List ℕ) (k : ℕ) (a : Act) (b : Book) (s : Step) → b ≡ found_of bs k → s ≡ step_of a b → s.refusal ≡ 0 → length bs ≡ LENGTH
unfolding step_of refused_alone
accepted_length bs k a b s e es z = go (found-way bs k b e)
  where
    go : Way bs k b → length bs ≡ LENGTH
    go (within u w) = form-length bs u
    go (without u v) = let n : s.refusal ≡ REGISTER = rw (es, v) in absurd (omega (arith, z, n))
