-- A full book in form is ready for screening and figures.
-- Assumes nothing.
use Prim.Native.Nat.{ℕ, zero, suc, ◌+◌, ◌-◌, ◌*◌, ◌%◌, ◌≤◌, ◌<◌}
use native.Mathlib.Omega.{arith}
use mathlib.Core.Path.{◌≡◌, sym, ap, ◌∙◌, subst}
use mathlib.Core.Logic.{⊎_elim}
use mathlib.Core.Bool.{true, false}
use mathlib.Core.List.{List}
use lib.ListN.{get_or}
use lib.IntN.{nat_abs, ◌-ℤ◌}
use borrow.Author.Tests.{leb-true}
use Rattle.integers.specs.Diff.{sub-ge, sub-lt, ≤-or-<, abs-sub_range}
use Rattle.paper.specs.Procedure.{PLACES, SPAN, SPREAD, EARTH, NEARBY}
use Rattle.paper.specs.Units.{from1_to, on_earth, within, in_range, is_empty, near_at, all_near, reading, standing}
use Rattle.paper.specs.TurnedAway.{some?}
use Rattle.paper.proofs.Tests.{among, filled_at, along-within}
use Rattle.paper.proofs.Stays.{near_there}
use Rattle.image.specs.Lengths.{ORIGIN, len, triple_at, terms_of}
use Rattle.image.specs.Places.{all_zero, spot_of, spot_at, places_of, axis_of}
use Rattle.image.specs.Ready.{Ready, Between, IsSpread}
use Rattle.image.proofs.Lengths.{len-minus, along-at}
use Rattle.image.proofs.Places.{place_at_lem, length-places, empty-spot}
use Rattle.image.proofs.Bounds.{Ranged, ranged, along-earth}
use Rattle.ranges.proofs.Laws.{near-at_point}
use Rattle.places.proofs.Laws.{spot_some}

-- ---- ranges

up_range : (n a b : ℕ) → nat_abs (len b -ℤ len a) ≤ n → (b ≤ a + n) × (a ≤ b + n)
up_range n a b h = abs-sub_range b a n (rw (len-minus b a) at h)

up_zero : (n w : ℕ) → nat_abs (len w) ≤ n → (w ≤ ORIGIN + n) × (ORIGIN ≤ w + n)
unfolding len
up_zero n w h = abs-sub_range w ORIGIN n h

one_range : (n w : ℕ) → from1_to n (len w) ≡ true → (ORIGIN < w) × (w ≤ ORIGIN + n)
unfolding len
one_range n w e =
    ⊎_elim
    (λ (h : ORIGIN ≤ w). let k = among n (w - ORIGIN) (rw (sub-ge w ORIGIN h) at e) in (omega arith, omega arith))
    (λ (h : w < ORIGIN). let k : false ≡ true = rw (sub-lt w ORIGIN h) at e in let z : ◌≡◌ {A = ℕ} 0 1 = cc in absurd (omega arith))
    (≤-or-< w ORIGIN)

within-at : (n : ℕ) (t l : List ℕ) (k m a : ℕ) → within n (triple_at t k) (triple_at l m) ≡ true → a < 3 → (get_or l (m + a) 0 ≤ get_or t (k + a) 0 + n) × (get_or t (k + a) 0 ≤ get_or l (m + a) 0 + n)
within-at n t l k m a e h = up_range n (get_or t (k + a) 0) (get_or l (m + a) 0) (rw (along-at l m a h, along-at t k a h) at (along-within n (axis_of a) (triple_at t k) (triple_at l m) e))

earth-at : (t : List ℕ) (k a : ℕ) → on_earth (triple_at t k) ≡ true → a < 3 → get_or t (k + a) 0 ≤ ORIGIN + EARTH
earth-at t k a e h = (up_zero EARTH (get_or t (k + a) 0) (rw (along-at t k a h) at (along-earth (axis_of a) (triple_at t k) e))).0

-- ---- places

module _ (t l : List ℕ) (range : in_range (terms_of t) ≡ true) (near : all_near (terms_of t) 0 (places_of l) ≡ true) (full : some? is_empty (places_of l) ≡ false) where
  abbrev x : ℕ → ℕ
  x p = get_or l (p * 3) 0

  abbrev y : ℕ → ℕ
  y p = get_or l (p * 3 + 1) 0

  abbrev h : ℕ → ℕ
  h p = get_or l (p * 3 + 2) 0

  not-zero : (p : ℕ) → p < PLACES → all_zero (x p) (y p) (h p) ≡ false
  not-zero p k = sym (empty-spot (x p) (y p) (h p)) ∙ ap is_empty (sym (place_at_lem l p k) ∙ filled_at (places_of l) p (rw (length-places l) k) full)

  reads : (p : ℕ) → p < PLACES → reading (places_of l) p ≡ triple_at l (p * 3)
  unfolding spot_of triple_at
  reads p k = ap standing (place_at_lem l p k) ∙ rw (not-zero p k)

  near_by : (p : ℕ) → p < PLACES → near_at (terms_of t) p (spot_at l (p * 3)) ≡ true
  near_by p k = subst (λ v. near_at (terms_of t) p v ≡ true) (place_at_lem l p k) (near_there (terms_of t) (places_of l) p near)

  nears : (p a : ℕ) → p < PLACES → a < 3 → (get_or l (p * 3 + a) 0 ≤ get_or t (6 + p % 2 * 3 + a) 0 + NEARBY) × (get_or t (6 + p % 2 * 3 + a) 0 ≤ get_or l (p * 3 + a) 0 + NEARBY)
  unfolding triple_at
  nears p a k g = within-at NEARBY t l (6 + p % 2 * 3) (p * 3) a (near-at_point t (x p) (y p) (h p) p ∙ spot_some (x p) (y p) (h p) (terms_of t) p (not-zero p k) ∙ near_by p k) g

  terms : Ranged (terms_of t)
  terms = ranged (terms_of t) range

  points : (a : ℕ) → a < 6 → get_or t (6 + a) 0 ≤ ORIGIN + EARTH
  unfolding terms_of triple_at
  points a h =
      ⊎_elim
      (λ (g : 3 ≤ a). let j : 9 + (a - 3) ≡ 6 + a = omega arith in subst (λ (k : ℕ). get_or t k 0 ≤ ORIGIN + EARTH) j (earth-at t 9 (a - 3) terms.point2 (omega arith)))
      (λ (g : a < 3). earth-at t 6 a terms.point1 g)
      (≤-or-< a 3)

  sized : (i : ℕ) → 2 ≤ i → i < 6 → IsSpread (get_or t i 0)
  unfolding terms_of
  sized zero h g = absurd (omega arith)
  sized (suc zero) h g = absurd (omega arith)
  sized (suc (suc zero)) h g = one_range SPREAD (get_or t 2 0) terms.screen_xy
  sized (suc (suc (suc zero))) h g = one_range SPREAD (get_or t 3 0) terms.screen_h
  sized (suc (suc (suc (suc zero)))) h g = one_range SPREAD (get_or t 4 0) terms.sigma_xy
  sized (suc (suc (suc (suc (suc zero))))) h g = one_range SPREAD (get_or t 5 0) terms.sigma_h
  sized (suc (suc (suc (suc (suc (suc i)))))) h g = absurd (omega arith)

  heights : Between (ORIGIN - SPAN) (ORIGIN + SPAN) (get_or t 1 0)
  unfolding terms_of
  heights = let k = up_zero SPAN (get_or t 1 0) (leb-true _ SPAN terms.height) in (omega arith, omega arith)

  pub ready : Ready t l
  unfolding terms_of triple_at
  ready = record {
    reads = reads;
    near = nears;
    points = points;
    apart = λ a h. within-at SPAN t t 6 9 a terms.apart h;
    distance = one_range SPAN (get_or t 0 0) terms.distance;
    height = heights;
    scales = sized;
  }
