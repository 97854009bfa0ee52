-- How a test of words is one of lengths.
-- Assumes nothing.
use Prim.Native.Nat.{ℕ, suc, ◌+◌, ◌-◌, ◌*◌, ◌%◌, ◌≤◌, ◌<◌}
use native.Mathlib.Omega.{arith}
use mathlib.Core.Path.{◌≡◌, refl, sym, ap, ◌∙◌}
use mathlib.Core.Bool.{Bool, true, false, ◌&&◌}
use mathlib.Core.Logic.{⊎_elim}
use mathlib.Core.List.{List}
use lib.ListN.{get_or}
use lib.Dec.{leb, ltb}
use lib.IntN.{ℤ, ◌-ℤ◌, sub_ℕ}
use borrow.Author.Tests.{lt-ltb, le-ltb, le-leb, lt-leb}
use Rattle.std.specs.Int.{abs_diff}
use Rattle.paper.specs.Procedure.{SPAN, SPREAD, EARTH, NEARBY}
use Rattle.integers.specs.Diff.{sub-ge, sub-lt, ≤-or-<}
use Rattle.paper.specs.Units.{on_earth, in_range, from1_to, up_to, within, near, point_of}
use Rattle.image.specs.Lengths.{ORIGIN, len, triple, triple_at, terms_of}
use Rattle.image.proofs.Lengths.{point_at, len-minus, len_pos}

-- two tests, both made
pub and_same : {a b c d : Bool} → a ≡ b → c ≡ d → a && c ≡ b && d
and_same e f = rw (e, f)

one-no : (n w : ℕ) → w ≤ ORIGIN → false ≡ from1_to n (len w)
unfolding len
one-no n w h =
    ⊎_elim
    (λ (k : ORIGIN ≤ w). let e : w - ORIGIN ≡ 0 = omega arith in rw (sub-ge w ORIGIN k, e))
    (λ (k : w < ORIGIN). rw (sub-lt w ORIGIN k))
    (≤-or-< w ORIGIN)

one-most : (n w : ℕ) → ORIGIN < w → leb w (ORIGIN + n) ≡ from1_to n (len w)
one-most n w h =
    rw (len_pos w (omega arith), le-leb 1 (w - ORIGIN) (omega arith))
    (⊎_elim
    (λ (k : w ≤ ORIGIN + n). rw (le-leb w (ORIGIN + n) k, le-leb (w - ORIGIN) n (omega arith)))
    (λ (k : ORIGIN + n < w). rw (lt-leb w (ORIGIN + n) k, lt-leb (w - ORIGIN) n (omega arith)))
    (≤-or-< (ORIGIN + n) w))

pub one_is : (n w : ℕ) → ltb ORIGIN w && leb w (ORIGIN + n) ≡ from1_to n (len w)
one_is n w =
    ⊎_elim
    (λ (h : w ≤ ORIGIN). rw (le-ltb ORIGIN w h) (one-no n w h))
    (λ (h : ORIGIN < w). rw (lt-ltb ORIGIN w h) (one-most n w h))
    (≤-or-< ORIGIN w)

close_less : (n a b : ℕ) → b < a → leb (a - b) n ≡ up_to n (len b -ℤ len a)
close_less n a b h = let e : suc (a - suc b) ≡ a - b = omega arith in rw (len-minus b a, sub-lt b a h, e)

close_more : (n a b : ℕ) → a ≤ b → leb (b - a) n ≡ up_to n (len b -ℤ len a)
close_more n a b h = rw (len-minus b a, sub-ge b a h)

pub close_is : (n a b : ℕ) → leb (abs_diff a b) n ≡ up_to n (len b -ℤ len a)
close_is n a b =
    ⊎_elim
    (λ (h : a ≤ b). let e : a - b + (b - a) ≡ b - a = omega arith in rw e (close_more n a b h))
    (λ (h : b < a). let e : a - b + (b - a) ≡ a - b = omega arith in rw e (close_less n a b h))
    (≤-or-< b a)

-- from the length 0
length_is : (w : ℕ) → sub_ℕ w ORIGIN ≡ len w
unfolding len
length_is w = refl

pub from_zero : (n w : ℕ) → up_to n (len w -ℤ len ORIGIN) ≡ up_to n (len w)
from_zero n w = ap (up_to n) (len-minus w ORIGIN ∙ length_is w)

pub earth : (x y h : ℕ) → within EARTH (triple ORIGIN ORIGIN ORIGIN) (triple x y h) ≡ on_earth (triple x y h)
unfolding within on_earth
earth x y h = and_same (and_same (from_zero EARTH x) (from_zero EARTH y)) (from_zero EARTH h)

module _ (t : List ℕ) where
  abbrev l : ℕ → ℤ
  l i = len (get_or t i 0)

  and_four : (a b c d : Bool) → a && (b && c && d) ≡ a && b && c && d
  and_four true b c d = refl
  and_four false b c d = refl

  pub range_is : from1_to SPAN (l 0) && up_to SPAN (l 1) && from1_to SPREAD (l 2) && from1_to SPREAD (l 3) && from1_to SPREAD (l 4) && from1_to SPREAD (l 5) && (on_earth (triple_at t 6) && on_earth (triple_at t 9) && within SPAN (triple_at t 6) (triple_at t 9)) ≡ in_range (terms_of t)
  unfolding in_range terms_of triple_at
  range_is = and_four (from1_to SPAN (l 0) && up_to SPAN (l 1) && from1_to SPREAD (l 2) && from1_to SPREAD (l 3) && from1_to SPREAD (l 4) && from1_to SPREAD (l 5)) _ _ _

  pub near-at_point : (x y h p : ℕ) → within NEARBY (triple_at t (6 + p % 2 * 3)) (triple x y h) ≡ near (terms_of t) (point_of p) (triple x y h)
  near-at_point x y h p =
      let k : p % 2 + 1 - 1 ≡ p % 2 = omega arith in
      ap (λ v. within NEARBY v (triple x y h)) (sym (point_at t (p % 2 + 1) (omega arith) (omega arith) ∙ ap (λ (n : ℕ). triple_at t (6 + n * 3)) k))
