-- The ways out of the calls on a register as a whole.
-- Assumes nothing.
use Prim.Native.Nat.{ℕ, ◌≤◌, ◌<◌}
use native.Mathlib.Omega.{arith}
use native.Mathlib.Nat.{zero-add}
use mathlib.Core.Path.{◌≡◌, sym, ap, ◌∙◌}
use mathlib.Core.Bool.{true, false}
use mathlib.Core.List.{List, ◌++◌}
use lib.ListN.{length, drop, replicate}
use lib.Dec.{ltb}
use borrow.Author.Tests.{eq-eqb, ne_eqb, lt-ltb, le-ltb}
use Rattle.paper.specs.Procedure.{BOOKS}
use Rattle.paper.specs.Books as paper
use Rattle.paper.specs.Calls.{fresh, ask, pass_list}
use Rattle.paper.specs.Refusals.{REGISTER, ROOM}
use Rattle.paper.specs.TurnedAway.{lowest, questioned, passing}
use Rattle.paper.specs.Answers.{says, after, given, beside}
use Rattle.rows.specs.Paste.{pasted}
use Rattle.readings.specs.Answers.{count_by, count_of}
use Rattle.lent.specs.Image.{LENGTH, meant_from, in_form}
use Rattle.lent.specs.Calls.{shut, call_on, called, Calls}
use Rattle.lent.proofs.Image.{state_in, state-out, fresh_image}
use Rattle.register.specs.Answers.{list_after}

-- ---- the pass list

module _ (bs buffer : List ℕ) where
  pub list_unformed : in_form bs ≡ false
      → (count_by REGISTER 0 ≡ count_of (called (ask (pass_list (length buffer))) bs).answer) × (buffer ≡ list_after (called (ask (pass_list (length buffer))) bs).answer buffer)
  unfolding called call_on shut beside count_of list_after pasted
  list_unformed e = (rw (state-out bs e), rw (state-out bs e))

  module _ (e : in_form bs ≡ true) (l : List ℕ) (m : l ≡ passing (paper.sights (meant_from BOOKS bs))) where
    abbrev p : List ℕ
    p = passing (paper.sights (meant_from BOOKS bs))

    pub list_room : length buffer < length l
        → (count_by ROOM 0 ≡ count_of (called (ask (pass_list (length buffer))) bs).answer) × (buffer ≡ list_after (called (ask (pass_list (length buffer))) bs).answer buffer)
    unfolding called call_on says lowest questioned beside count_of list_after pasted
    list_room h =
        let z : ltb (length buffer) (length p) ≡ true = lt-ltb (length buffer) (length p) (omega (arith, ap length m)) in
        (rw (state_in bs e, z), rw (state_in bs e, z))

    pub list_written : (out : List ℕ) → length l ≤ length buffer → out ≡ l ++ drop (length l) buffer
        → (count_by 0 (length l) ≡ count_of (called (ask (pass_list (length buffer))) bs).answer) × (out ≡ list_after (called (ask (pass_list (length buffer))) bs).answer buffer)
    unfolding called call_on says lowest questioned given count_of list_after pasted
    list_written out h w =
        let z : ltb (length buffer) (length p) ≡ false = le-ltb (length buffer) (length p) (omega (arith, ap length m)) in
        (rw (state_in bs e, z) (ap (λ (q : List ℕ). count_by 0 (length q)) m), rw (state_in bs e, z, zero-add (length p)) (w ∙ ap (λ (q : List ℕ). q ++ drop (length q) buffer) m))

-- ---- a fresh register

pub fresh_refused : (bs : List ℕ) → (length bs ≡ LENGTH → ⊥) → Calls fresh bs REGISTER bs
unfolding called call_on shut
fresh_refused bs f = (rw (ne_eqb (length bs) LENGTH f), rw (ne_eqb (length bs) LENGTH f))

pub fresh_done : (bs bs' : List ℕ) → length bs ≡ LENGTH → bs' ≡ replicate (length bs) 0 → Calls fresh bs 0 bs'
unfolding called call_on says after
fresh_done bs bs' e w = (rw (eq-eqb (length bs) LENGTH e), rw (eq-eqb (length bs) LENGTH e) (w ∙ ap (λ (n : ℕ). replicate n 0) e ∙ sym fresh_image))
