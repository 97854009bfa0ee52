-- Laws of pasting.
-- Assumes nothing.
use mathlib.Core.Path.{◌≡◌, refl, sym, ap, ◌∙◌}
use mathlib.Core.List.{List, [], ◌∷◌, ◌++◌, append_assoc}
use Prim.Native.Nat.{ℕ, suc, ◌+◌, ◌≤◌}
use native.Mathlib.Omega.{arith}
use native.Mathlib.Nat.{add-zero, zero-add}
use lib.ListN.{length, take, drop, length-append, take-append-drop}
use lib.Seq.{length-take-le, take_at, drop_at, drop-append-add, drop-drop, sets, sets-eq}
use borrow.Rule.Slice.PartMut.{put_mid}
use Rattle.rows.specs.Paste.{pasted}

pub pasted-nil : (r : List ℕ) (a : ℕ) → pasted r a [] ≡ r
unfolding pasted
pasted-nil r a = rw add-zero (take-append-drop a r)

-- in the place of as many at the start
pub pasted-start : (x y l : List ℕ) → length x ≡ length y → pasted (x ++ l) 0 y ≡ y ++ l
unfolding pasted
pasted-start x y l e = rw (zero-add, ← e) (ap (λ (z : List ℕ). y ++ z) (drop_at x l (length x) refl))

-- behind the first ones
pub pasted-after : (x l : List ℕ) (a : ℕ) (y : List ℕ) → pasted (x ++ l) (length x + a) y ≡ x ++ pasted l a y
unfolding pasted
pasted-after [] l a y = rw zero-add
pasted-after (b ∷ x) l a y =
    let e : suc (length x) + a ≡ suc (length x + a) = omega arith in
    let f : suc (length x + a) + length y ≡ suc (length x + a + length y) = omega arith in
    rw (e, f) (ap (λ (z : List ℕ). b ∷ z) (pasted-after x l a y))

pub pasted-then : (r : List ℕ) (a : ℕ) (xs : List ℕ) (p : ℕ) (ys : List ℕ) → p ≡ a + length xs → p + length ys ≤ length r
    → pasted (pasted r a xs) p ys ≡ pasted r a (xs ++ ys)
unfolding pasted
pasted-then r a xs p ys e h =
    let l : length (take a r ++ xs) ≡ p = rw (length-append, length-take-le a r (omega arith)) (sym e) in
    let f : take a r ++ (xs ++ drop (a + length xs) r) ≡ take a r ++ xs ++ drop p r = rw (append_assoc, ← e) in
    let g : drop (p + length ys) (take a r ++ xs ++ drop p r) ≡ drop (p + length ys) r =
    rw (← l, drop-append-add, drop-drop) in
    let m : p + length ys ≡ a + length (xs ++ ys) = omega (arith, length-append xs ys) in
    rw (f, take_at (take a r ++ xs) (drop p r) p l, g, m, append_assoc, append_assoc)

-- a part of a row written whole, as `copy_from_slice` writes it
pub put_mid-pasted : (a k : ℕ) (r ys zs : List ℕ) → ys ≡ zs → k ≡ length zs → put_mid a k r ys ≡ pasted r a zs
unfolding pasted
put_mid-pasted a k r ys zs e f = rw (e, f, drop-drop (length zs) a r)

-- ---- what stands in a row after a paste

pub drop-pasted : (r : List ℕ) (a : ℕ) (xs : List ℕ) → a ≤ length r → drop a (pasted r a xs) ≡ xs ++ drop (a + length xs) r
unfolding pasted
drop-pasted r a xs h = drop_at (take a r) (xs ++ drop (a + length xs) r) a (length-take-le a r h)

pub next-drop : (r x z : List ℕ) (p n q : ℕ) → drop p r ≡ x ++ z → length x ≡ n → q ≡ p + n → drop q r ≡ z
next-drop r x z p n q e l h = rw (h, ← drop-drop, e) (drop_at x z n l)

-- ---- stores, one after the other

stores_pasted : (vs l : List ℕ) (at : ℕ) → at + length vs ≤ length l → sets l at vs ≡ pasted l at vs
unfolding pasted
stores_pasted vs l at h = sets-eq vs l at h ∙ append_assoc (take at l) vs (drop (at + length vs) l)
