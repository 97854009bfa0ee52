-- DEMAND 3 ON LENT BYTES: begun on the bytes of a fresh register, and on any bytes that hold a register.
-- Assumes nothing.
use Prim.Native.Nat.{ℕ, ◌≤◌}
use native.Mathlib.Omega.{arith}
use mathlib.Core.Path.{◌≡◌, ap, ◌∙◌, subst}
use mathlib.Core.Bool.{Bool, true, false, cond}
use mathlib.Core.Option.{none, some}
use mathlib.Core.List.{List}
use lib.ListN.{length, get_or, replicate}
use lib.Dec.{eqb}
use Rattle.paper.specs.Procedure.{BOOKS}
use Rattle.paper.specs.Units.{Place, in_sheet, number, Places}
use Rattle.paper.specs.Books.{nothing, Register, closed}
use Rattle.paper.specs.Calls.{read, Call, fresh, ask}
use Rattle.paper.specs.Answers.{after}
use Rattle.claims.specs.History.{leaves, Story, history}
use Rattle.claims.specs.Claim.{begun}
use Rattle.paper.proofs.Stays.{fresh_formed}
use Rattle.claims.proofs.History.{from_fresh, from_form}
use Rattle.claims.proofs.Words.{Bare, bare}
use Rattle.lent.specs.Image.{LENGTH, state_of}
use Rattle.lent.specs.Calls.{shut, call_on, called}
use Rattle.rows.proofs.Sizes.{Bytes}
use Rattle.lent.proofs.Image.{state-image, fresh_image}
use Rattle.history.specs.Runs.{answer_on, ran}
use Rattle.history.specs.Claim.{read_as, HoldsOn}
use Rattle.history.proofs.Carried.{holds_on}

-- any bytes in form, with the history that their kept changes hold
pub from_bytes-in_form : (bs : List ℕ) (r : Register) → Bytes bs → state_of bs ≡ some r → HoldsOn bs (begun r)
from_bytes-in_form bs r y e =
    let w = state-image bs r y e in
    subst (λ (l : List ℕ). HoldsOn l (begun r)) w.0 (holds_on r (begun r) w.1 (from_form r w.1))

-- the bytes of a fresh register are zeros
pub from_zeros : HoldsOn (replicate LENGTH 0) (λ k. none)
from_zeros = subst (λ (l : List ℕ). HoldsOn l (λ k. none)) fresh_image (holds_on closed (λ k. none) fresh_formed from_fresh)

-- and those are what an accepted rtk_fresh leaves, whatever was there before
fresh_zeros : (bs : List ℕ) → (answer_on fresh bs).refused ≡ 0 → (called fresh bs).bytes ≡ replicate LENGTH 0
unfolding answer_on called call_on shut after
fresh_zeros bs e = go (eqb (length bs) LENGTH) e
  where
    go : (b : Bool) → (call_on fresh (cond b (some closed) none) bs).answer.refused ≡ 0 → (call_on fresh (cond b (some closed) none) bs).bytes ≡ replicate LENGTH 0
    go true u = fresh_image
    go false u = absurd (omega arith)

pub from_fresh_bytes : (bs : List ℕ) → (answer_on fresh bs).refused ≡ 0 → HoldsOn (called fresh bs).bytes (λ k. none)
from_fresh_bytes bs e = rw (fresh_zeros bs e) from_zeros

-- from a fresh register nothing stood at the places of a book when it was opened
pub reads_from_zeros :
    (cs : List Call) (k : ℕ) (p : Place) (h : Story) →
    1 ≤ k →
    k ≤ BOOKS →
    in_sheet p ≡ true →
    history k none cs ≡ some h →
    answer_on (ask (read k p)) (ran (replicate LENGTH 0) cs) ≡ read_as (get_or (leaves nothing h.remaining) (number p) none)
reads_from_zeros cs k p h lo hi i e =
    from_zeros.reads cs k p h lo hi i e
    ∙ ap (λ (l : Places). read_as (get_or (leaves l h.remaining) (number p) none)) (subst Bare e (bare k cs none tt))
