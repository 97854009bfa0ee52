-- The ways to turn a call away and to put a book back.
-- Assumes nothing.
use Rattle.std.proofs.Common.{◌≡◌, refl, sym, ◌∙◌, ℕ, ◌≤◌, arith, Bool, true, false, cond, List, eqb, eqb-true}
use Rattle.std.specs.Prelude.{Result, Ok, Err}
use Rattle.paper.specs.Procedure.{BOOKS}
use Rattle.paper.specs.Units.{one_to}
use Rattle.paper.specs.Refusals.{REGISTER, PLACE}
use Rattle.paper.specs.Answers.{unless, Value}
use Rattle.paper.proofs.Tests.{among}
use Rattle.paper.proofs.Acts.{unless-refused}
use Rattle.procedure.specs.declared.refusal.Refusal.{Refusal}
use Rattle.procedure.specs.declared.refusal.Refusal.TheVariants as is
use Rattle.procedure.specs.Refused.{told}
use Rattle.shelving.specs.Steps.{turned_away, meets_register, addressed_of}

-- ---- turned away

module _ (k : ℕ) where
  pub away-among : (n : ℕ) → one_to BOOKS k ≡ true → turned_away k n ≡ n
  unfolding turned_away
  away-among n e = rw e (go (eqb n REGISTER) refl)
    where
      go : (i : Bool) → eqb n REGISTER ≡ i → cond i REGISTER n ≡ n
      go true i = sym (eqb-true n REGISTER i)
      go false i = refl

  -- a call is accepted where the number is a book's and the book met nothing
  pub away-not : (n r : ℕ) → r ≡ turned_away k n → r ≡ 0 → (1 ≤ k) × (k ≤ BOOKS) × (n ≡ 0)
  unfolding turned_away
  away-not n r e z = go (eqb n REGISTER) (one_to BOOKS k) refl (sym e ∙ z)
    where
      go : (i j : Bool) → one_to BOOKS k ≡ j → cond i REGISTER (cond j n PLACE) ≡ 0 → (1 ≤ k) × (k ≤ BOOKS) × (n ≡ 0)
      go true j v w = absurd (omega (arith, w))
      go false true v w = let h = among BOOKS k v in (h.0, h.1, w)
      go false false v w = absurd (omega (arith, w))

-- ---- an answer

module _ {A : Type 0} (k : ℕ) (r : Result A Refusal) where
  pub addressed-among : one_to BOOKS k ≡ true → addressed_of k r ≡ r
  unfolding addressed_of
  addressed-among e = rw e (go (meets_register r))
    where
      go : (i : Bool) → cond i r r ≡ r
      go true = refl
      go false = refl

  pub addressed-register : meets_register r ≡ true → addressed_of k r ≡ r
  unfolding addressed_of
  addressed-register e = rw e

  pub addressed-outside : meets_register r ≡ false → one_to BOOKS k ≡ false → addressed_of k r ≡ Err is.Place
  unfolding addressed_of
  addressed-outside e f = rw (e, f)

-- REGISTER by its number
pub meets_is : {A : Type 0} (give : A → Value) (x : Value) (r : Result A Refusal) → meets_register r ≡ eqb (told give x r).refused REGISTER
meets_is give x (Ok a) = refl
meets_is give x (Err is.Register) = refl
meets_is give x (Err is.Place) = refl
meets_is give x (Err is.Open) = refl
meets_is give x (Err is.Terms) = refl
meets_is give x (Err is.Closed) = refl
meets_is give x (Err is.Filled) = refl
meets_is give x (Err is.Empty) = refl
meets_is give x (Err is.Far) = refl
meets_is give x (Err is.Nothing) = refl
meets_is give x (Err is.Short) = refl
meets_is give x (Err (is.Suspect s)) = refl
meets_is give x (Err is.Zero) = refl
meets_is give x (Err is.Room) = refl
meets_is give x (Err is.Form) = refl

-- ---- put back

-- nothing is written beside a refusal
pub kept_back : (n r : ℕ) (new old : List ℕ) → r ≡ n → (r ≡ 0 → ⊥) → (r ≡ n) × (old ≡ unless n new old)
kept_back n r new old e h = (e, sym (unless-refused n new old (λ z. h (e ∙ z))))

pub written : (n r : ℕ) (new old bs : List ℕ) → r ≡ n → r ≡ 0 → bs ≡ new → (0 ≡ n) × (bs ≡ unless n new old)
written n r new old bs e z w = let m : n ≡ 0 = sym e ∙ z in (sym m, rw (m, w))
