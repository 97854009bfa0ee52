-- What the shape promises of every call.
-- Assumes nothing.
use Prim.Native.Nat.{ℕ}
use mathlib.Core.Path.{◌≡◌, refl, sym, ap, ◌∙◌, subst}
use mathlib.Core.Bool.{Bool, true, false, cond}
use mathlib.Core.Option.{Option, none, some}
use mathlib.Core.List.{List, ◌∷◌}
use lib.ListN.{length}
use lib.Dec.{eqb}
use Rattle.paper.specs.Procedure.{BOOKS}
use Rattle.paper.specs.Books as paper
use Rattle.paper.specs.Calls.{Question, Call, fresh, on, ask}
use Rattle.paper.specs.Refusals.{REGISTER}
use Rattle.paper.specs.TurnedAway.{Rule, ◌when◌, Lowest, refusal}
use Rattle.paper.specs.Answers.{says, after}
use Rattle.paper.proofs.Acts.{unless-refused}
use Rattle.paper.proofs.Agreement.{rules_of, rules_rise, says-rules, register-lowest}
use Rattle.rows.proofs.Sizes.{Bytes}
use Rattle.lent.specs.Image.{LENGTH, image, meant_from, in_form, state_of}
use Rattle.lent.specs.Calls.{shut, call_on, called, Calls}
use Rattle.lent.proofs.Image.{state_in, state-out, form-image_is}

-- a question changes no byte
pub ask_bytes : (q : Question) (bs : List ℕ) → Bytes bs → (called (ask q) bs).bytes ≡ bs
unfolding called call_on after
ask_bytes q bs y = go (in_form bs) refl
  where
    go : (i : Bool) → in_form bs ≡ i → (call_on (ask q) (state_of bs) bs).bytes ≡ bs
    go true e = rw (state_in bs e) (form-image_is bs y e)
    go false e = rw (state-out bs e)

-- a refusal changes no byte
pub refused-bytes : (c : Call) (bs : List ℕ) → Bytes bs → ((called c bs).answer.refused ≡ 0 → ⊥) → (called c bs).bytes ≡ bs
unfolding called call_on says after
refused-bytes fresh bs y n = go (eqb (length bs) LENGTH) n
  where
    go : (b : Bool) → ((call_on fresh (cond b (some paper.closed) none) bs).answer.refused ≡ 0 → ⊥) → (call_on fresh (cond b (some paper.closed) none) bs).bytes ≡ bs
    go true m = absurd (m refl)
    go false m = refl
refused-bytes (ask q) bs y n = ask_bytes q bs y
refused-bytes (on k a) bs y n = go (in_form bs) refl n
  where
    go : (i : Bool) → in_form bs ≡ i → ((call_on (on k a) (state_of bs) bs).answer.refused ≡ 0 → ⊥) → (call_on (on k a) (state_of bs) bs).bytes ≡ bs
    go false e m = rw (state-out bs e)
    go true e m =
        let m' : refusal k a (paper.sights (meant_from BOOKS bs) k) ≡ 0 → ⊥ = subst (λ (s : Option paper.Register). (call_on (on k a) s bs).answer.refused ≡ 0 → ⊥) (state_in bs e) m in
        rw (state_in bs e) (ap image (unless-refused _ _ (meant_from BOOKS bs) m') ∙ form-image_is bs y e)

-- ---- of the rules that apply the lowest number is given, REGISTER among them

-- the register on which a call is made, if the bytes hold one. A fresh one needs only the length
abbrev pub made-on : Call → List ℕ → Option paper.Register
made-on fresh bs = cond (eqb (length bs) LENGTH) (some paper.closed) none
made-on (on k a) bs = state_of bs
made-on (ask q) bs = state_of bs

abbrev pub rules_on : Call → Option paper.Register → List Rule
rules_on c none = REGISTER when true ∷ rules_of c (λ k. none)
rules_on c (some r) = REGISTER when false ∷ rules_of c (paper.sights r)

shut-refused : (c : Call) → (shut c).refused ≡ REGISTER
unfolding shut
shut-refused fresh = refl
shut-refused (on k a) = refl
shut-refused (ask q) = refl

on-lowest : (c : Call) (o : Option paper.Register) (bs : List ℕ) → Lowest (rules_on c o) (call_on c o bs).answer.refused
unfolding call_on
on-lowest c none bs = rw (shut-refused c) (register-lowest true (rules_of c (λ k. none)) (rules_rise c (λ k. none)))
on-lowest c (some r) bs = rw (says-rules c (paper.sights r)) (register-lowest false (rules_of c (paper.sights r)) (rules_rise c (paper.sights r)))

pub called-lowest : (c : Call) (bs : List ℕ) → Lowest (rules_on c (made-on c bs)) (called c bs).answer.refused
unfolding called
called-lowest fresh bs = on-lowest fresh (made-on fresh bs) bs
called-lowest (on k a) bs = on-lowest (on k a) (state_of bs) bs
called-lowest (ask q) bs = on-lowest (ask q) (state_of bs) bs

-- the statement of a call admits one outcome
pub one_outcome : (c : Call) (bs : List ℕ) (r₁ r₂ : ℕ) (b₁ b₂ : List ℕ) → Calls c bs r₁ b₁ → Calls c bs r₂ b₂ → (r₁ ≡ r₂) × (b₁ ≡ b₂)
one_outcome c bs r₁ r₂ b₁ b₂ e f = (e.0 ∙ sym f.0, e.1 ∙ sym f.1)
