-- What the words of a set say of its readings.
-- Assumes nothing.
use Rattle.std.proofs.Common.{ℕ, ◌+◌, ◌-◌, ◌*◌, ◌%◌, ◌≤◌, ◌<◌, arith, ◌≡◌, ap, ◌∙◌, Bool, not, List, get_or, ltb, pos, nat_abs, ◌-ℤ◌}
use Rattle.whole.specs.Nearest.{nearest_of}
use Rattle.paper.specs.Procedure.{SERIES, SETS, POINTS, SPREAD}
use Rattle.paper.specs.Units.{in_order}
use Rattle.paper.specs.Screening.{at, q, D, distance_off, height_off, passes, suspicious}
use Rattle.image.specs.Lengths.{ORIGIN, len, triple_at, terms_of}
use Rattle.image.specs.Places.{places_of}
use Rattle.image.specs.Ready.{Ready}
use Rattle.image.proofs.Lengths.{len_pos, len_difference}
use Rattle.limits.specs.Most.{most_passing}
use Rattle.limits.proofs.Limits.{squared, passes-up_to, most-le}
use Rattle.sets.specs.Words.{words_from, Close, q_of, distance, height}

-- q, from the differences
pub q_from_is : (l : List ℕ) (m dx dy : ℕ) → dx ≡ nat_abs (len (get_or l (m + 3) 0) -ℤ len (get_or l m 0)) → dy ≡ nat_abs (len (get_or l (m + 4) 0) -ℤ len (get_or l (m + 1) 0))
    → dx * dx + dy * dy ≡ q_of l m
unfolding q_of triple_at
q_from_is l m dx dy ex ey = let e : m + 3 + 1 ≡ m + 4 = omega arith in rw (e, ex, ey)

-- D* as a number, and the greatest difference that passes
pub most-small : (t l : List ℕ) → Ready t l → (most : ℕ) → most ≡ most_passing (terms_of t).screen_xy → get_or t 0 0 - ORIGIN + most < 1000000
unfolding terms_of
most-small t l r most e =
    let g = r.scales 2 (omega arith) (omega arith) in
    let k : get_or t 2 0 - ORIGIN ≤ SPREAD = omega arith in
    let h : most_passing (len (get_or t 2 0)) ≤ 50000 = most-le (len (get_or t 2 0)) (rw (len_pos (get_or t 2 0) (omega arith)) (omega (arith, squared k))) in
    omega (arith, r.distance)

module _ (t l : List ℕ) (r : Ready t l) (i j : ℕ) (lo : 1 ≤ i) (hi : i ≤ SERIES) (lo' : 1 ≤ j) (hi' : j ≤ SETS) (m : ℕ) (start : m ≡ words_from i j) where
  at_one : at (places_of l) i j 1 ≡ triple_at l m
  unfolding in_order
  at_one = r.reads (((i - 1) * SETS + (j - 1)) * POINTS + 0) (omega arith) ∙ ap (triple_at l) (omega arith)

  at-two : at (places_of l) i j 2 ≡ triple_at l (m + 3)
  unfolding in_order
  at-two = r.reads (((i - 1) * SETS + (j - 1)) * POINTS + 1) (omega arith) ∙ ap (triple_at l) (omega arith)

  pub bounds : (a : ℕ) → a < 3 → Close l m a
  bounds a h =
      let p = ((i - 1) * SETS + (j - 1)) * POINTS in
      let e₁ : p * 3 + a ≡ m + a = omega arith in
      let f₁ : 6 + p % 2 * 3 + a ≡ 6 + a = omega arith in
      let e₂ : (p + 1) * 3 + a ≡ m + (3 + a) = omega arith in
      let f₂ : 6 + (p + 1) % 2 * 3 + a ≡ 9 + a = omega arith in
      let g₂ : 6 + (3 + a) ≡ 9 + a = omega arith in
      let n₁ = rw (e₁, f₁) at (r.near p a (omega arith) h) in
      let n₂ = rw (e₂, f₂) at (r.near (p + 1) a (omega arith) h) in
      let n₃ = r.apart a h in
      let n₄ = rw g₂ at (r.points (3 + a) (omega arith)) in
      (omega arith, omega arith, omega arith)

  pub distance_is : (n most : ℕ) (b : Bool) → n ≡ q_of l m → most ≡ most_passing (terms_of t).screen_xy
      → b ≡ ltb most (nat_abs (pos (nearest_of n) -ℤ pos (get_or t 0 0 - ORIGIN)))
      → b ≡ suspicious (terms_of t) (places_of l) (distance i j)
  unfolding suspicious distance_off D q q_of terms_of
  distance_is n most b en em eb =
      let low : ORIGIN ≤ get_or t 0 0 = omega (arith, r.distance) in
      rw (at_one, at-two, len_pos (get_or t 0 0) low, eb, em, en) (passes-up_to _ _)

  pub height_is : (d : ℕ) (b : Bool) → get_or l (m + 2) 0 ≤ get_or l (m + 5) 0 + ORIGIN
      → d ≡ nat_abs (len (get_or l (m + 5) 0 + ORIGIN - get_or l (m + 2) 0) -ℤ len (get_or t 1 0))
      → b ≡ not (passes (len (get_or t 3 0)) d) → b ≡ suspicious (terms_of t) (places_of l) (height i j)
  unfolding suspicious height_off triple_at terms_of
  height_is d b h ed eb = let e : m + 3 + 2 ≡ m + 5 = omega arith in rw (at_one, at-two, e, eb, ed, len_difference (get_or l (m + 5) 0) (get_or l (m + 2) 0) h)
