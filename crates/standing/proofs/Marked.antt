-- What the marks of places say.
-- Assumes nothing.
use Prim.Native.Nat.{ℕ, ◌≤◌, ◌<◌}
use native.Mathlib.Omega.{arith}
use native.Mathlib.Decide.{ℕ_discrete}
use mathlib.Core.Path.{◌≡◌, sym, ◌∙◌}
use mathlib.Core.Logic.{⊎_elim}
use mathlib.Core.Bool.{Bool, true, false, not, and-true}
use mathlib.Core.Option.{none}
use mathlib.Core.List.{List}
use lib.ListN.{length, get_or, set, length-set}
use lib.Seq.{get_or-set_same, get_or-set_other}
use lib.Dec.{eqb}
use borrow.Author.Tests.{lt-ltb, le-ltb}
use Rattle.integers.specs.Diff.{≤-or-<}
use Rattle.paper.specs.Procedure.{PLACES}
use Rattle.paper.specs.Units.{Terms, Places, is_empty, near, point_of, near_at}
use Rattle.paper.specs.Books.{make}
use Rattle.paper.specs.Form.{fits}
use Rattle.image.specs.Lengths.{triple}
use Rattle.image.specs.Places.{all_zero, spot_of}
use Rattle.image.specs.Changes.{change}
use Rattle.image.proofs.Places.{empty-spot}
use Rattle.places.proofs.Laws.{spot-none, spot_some}
use Rattle.places.specs.Marks.{Marks}
use Rattle.standing.specs.Marked.{fits_marked}

module _ (t : Terms) (m : List ℕ) (p x y h : ℕ) where
  pub marked_outside : PLACES ≤ p → false ≡ fits_marked t m p x y h
  unfolding fits_marked
  marked_outside o = rw (le-ltb p PLACES o)

  module _ {a : Bool} (i : p < PLACES) (none-put : a ≡ all_zero x y h) where
    pub marked_empty : a ≡ true → not (eqb (get_or m p 0) 0) ≡ fits_marked t m p x y h
    unfolding fits_marked
    marked_empty e = let z : all_zero x y h ≡ true = sym none-put ∙ e in rw (lt-ltb p PLACES i, z, sym (spot-none x y h t p z))

    pub marked-filled : a ≡ false → near t (point_of p) (triple x y h) ≡ fits_marked t m p x y h
    unfolding fits_marked
    marked-filled e =
        let z : all_zero x y h ≡ false = sym none-put ∙ e in
        spot_some x y h t p z ∙ rw (lt-ltb p PLACES i, z) (sym (and-true (near_at t p (spot_of x y h))))

  pub fits-marked : (l : Places) → Marks m l → fits_marked t m p x y h ≡ fits t l (change p (spot_of x y h))
  unfolding fits_marked fits
  fits-marked l k =
      ⊎_elim
      (λ (o : PLACES ≤ p). rw (le-ltb p PLACES o))
      (λ (i : p < PLACES). rw (lt-ltb p PLACES i, empty-spot x y h, k.1 p i))
      (≤-or-< p PLACES)

  module _ (l : Places) (v : ℕ) (n : length l ≡ PLACES) (i : p < PLACES) (e : eqb v 0 ≡ all_zero x y h) (k : Marks m l) where
    put-at : (j : ℕ) → j < PLACES → Dec (j ≡ p) → eqb (get_or (set m p v) j 0) 0 ≡ is_empty (get_or (set l p (spot_of x y h)) j none)
    put-at j o (yes z) =
        rw (z, get_or-set_same m p v 0 (omega (arith, k.0)), get_or-set_same l p (spot_of x y h) none (omega (arith, n))) (e ∙ sym (empty-spot x y h))
    put-at j o (no f) = rw (get_or-set_other m p j v 0 f, get_or-set_other l p j (spot_of x y h) none f) (k.1 j o)

    pub marks-put : Marks (set m p v) (make (change p (spot_of x y h)) l)
    unfolding make
    marks-put = (length-set m p v ∙ k.0, λ j o. put-at j o (ℕ_discrete j p))
