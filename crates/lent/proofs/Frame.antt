-- A call on one book leaves every byte of the others.
-- Assumes nothing.
use Prim.Native.Nat.{ℕ, zero, suc, ◌*◌, ◌<◌}
use native.Mathlib.Omega.{arith}
use mathlib.Core.Path.{◌≡◌, refl, sym, ap, ◌∙◌}
use mathlib.Core.Logic.{◌≢◌}
use mathlib.Core.Bool.{Bool, true, false}
use mathlib.Core.Option.{none}
use mathlib.Core.List.{List}
use lib.ListN.{length, get_or, take, drop}
use lib.Seq.{take_at}
use Rattle.rows.specs.Blocks.{laid}
use Rattle.rows.proofs.Blocks.{laid_from}
use Rattle.rows.proofs.Sizes.{Bytes}
use Rattle.paper.specs.Procedure.{BOOKS}
use Rattle.paper.specs.Books as paper
use Rattle.paper.specs.Calls.{Act, on, effect, affected}
use Rattle.paper.specs.TurnedAway.{refusal}
use Rattle.paper.specs.Answers.{unless, after}
use Rattle.paper.specs.Form.{InForm}
use Rattle.paper.proofs.Acts.{put_other}
use Rattle.paper.proofs.Stays.{formed-after}
use Rattle.stored.specs.Image.{BOOK, book_bytes}
use Rattle.lent.specs.Image.{image, meant_from, in_form, state_of}
use Rattle.lent.specs.Calls.{call_on, called}
use Rattle.lent.proofs.Image.{books-wide, state_in, state-out, form-image_is, form-state}

-- the bytes of book i, counted from 0
abbrev pub bytes_at : List ℕ → ℕ → List ℕ
bytes_at bs i = take BOOK (drop (i * BOOK) bs)

image-book : (r : paper.Register) (i : ℕ) → InForm r → i < length r → bytes_at (image r) i ≡ book_bytes (get_or r i none)
image-book r i v h =
    let w = books-wide r v in
    ap (take BOOK) (laid_from BOOK book_bytes none r i h w) ∙ take_at (book_bytes (get_or r i none)) (laid book_bytes (drop (suc i) r)) BOOK (w i)

after_other : (k i : ℕ) (a : Act) (r : paper.Register) → suc i ≢ k → get_or (after (on k a) r) i none ≡ get_or r i none
unfolding after
after_other k i a r n = go (refusal k a (paper.sights r k))
  where
    go : (m : ℕ) → get_or (unless m (paper.put r k (affected (effect a) (paper.book r k))) r) i none ≡ get_or r i none
    go zero = put_other r k (suc i) (affected (effect a) (paper.book r k)) (λ e. n (sym e))
    go (suc m) = refl

-- LAW: after a call on book k the bytes of every other book are as they were
pub frame : (bs : List ℕ) (k i : ℕ) (a : Act) → Bytes bs → i < BOOKS → suc i ≢ k → bytes_at (called (on k a) bs).bytes i ≡ bytes_at bs i
unfolding called call_on
frame bs k i a y h n = go (in_form bs) refl
  where
    r : paper.Register
    r = meant_from BOOKS bs

    go : (f : Bool) → in_form bs ≡ f → bytes_at (call_on (on k a) (state_of bs) bs).bytes i ≡ bytes_at bs i
    go false e = rw (state-out bs e)
    go true e =
        let v = form-state bs e in
        let w = formed-after (on k a) r v in
        rw (state_in bs e)
        (image-book (after (on k a) r) i w (omega (arith, w.sixteen))
        ∙ ap book_bytes (after_other k i a r n)
        ∙ sym (ap (λ (l : List ℕ). bytes_at l i) (sym (form-image_is bs y e)) ∙ image-book r i v (omega (arith, v.sixteen))))
