-- The offsets of a full book in form, as the code keeps them.
-- Assumes nothing.
use Prim.Native.Nat.{ℕ, ◌+◌, ◌-◌, ◌*◌, ◌%◌, ◌≤◌, ◌<◌}
use native.Mathlib.Omega.{arith}
use mathlib.Core.Path.{◌≡◌, subst}
use mathlib.Core.List.{List}
use lib.ListN.{get_or}
use lib.IntN.{pos, ◌-ℤ◌}
use Rattle.paper.specs.Procedure.{POINTS, ROUNDS, EARTH, NEARBY}
use Rattle.paper.specs.Figures.{offset}
use Rattle.image.specs.Lengths.{ORIGIN, terms_of}
use Rattle.image.specs.Places.{places_of, axis_of}
use Rattle.image.proofs.Lengths.{along-at, point_at, len-offset}
use Rattle.image.specs.Ready.{Ready, raised}

module _ (t l : List ℕ) (r : Ready t l) (k a : ℕ) (one : 1 ≤ k) (two : k ≤ POINTS) (axis : a < 3) where
  abbrev f : ℕ
  f = (k - 1) * 3 + a

  at : (i : ℕ) → i < ROUNDS → (get_or l (i * 6 + f) 0 ≤ get_or t (6 + f) 0 + NEARBY) × (get_or t (6 + f) 0 ≤ get_or l (i * 6 + f) 0 + NEARBY)
  at i h =
      let p = i * POINTS + (k - 1) in
      let e : p * 3 + a ≡ i * 6 + f = omega arith in
      let g : 6 + p % POINTS * 3 + a ≡ 6 + f = omega arith in
      subst (λ (m : ℕ). (get_or l m 0 ≤ get_or t (6 + f) 0 + NEARBY) × (get_or t (6 + f) 0 ≤ get_or l m 0 + NEARBY)) e
      (subst (λ (m : ℕ). (get_or l (p * 3 + a) 0 ≤ get_or t m 0 + NEARBY) × (get_or t m 0 ≤ get_or l (p * 3 + a) 0 + NEARBY)) g
      (r.near p a (omega arith) axis))

  pub raised-fits : (i : ℕ) → i < ROUNDS → get_or t (6 + f) 0 ≤ get_or l (i * 6 + f) 0 + NEARBY
  raised-fits i h = (at i h).1

  pub raised_low : (i : ℕ) → i < ROUNDS → get_or l (i * 6 + f) 0 ≤ ORIGIN + EARTH + NEARBY
  raised_low i h = omega (arith, (at i h).0, r.points f (omega arith))

  pub raised-small : (i : ℕ) → i < ROUNDS → raised t l f i ≤ 2 * NEARBY
  raised-small i h = omega (arith, (at i h).0)

  pub raised-offset : (i : ℕ) → i < ROUNDS → offset (terms_of t) (places_of l) (axis_of a) k i ≡ pos (raised t l f i) -ℤ pos NEARBY
  unfolding offset
  raised-offset i h =
      let p = i * POINTS + (k - 1) in
      let e : p * 3 + a ≡ i * 6 + f = omega arith in
      let g : 6 + (k - 1) * 3 + a ≡ 6 + f = omega arith in
      rw (r.reads p (omega arith), point_at t k one two, along-at l (p * 3) a axis, along-at t (6 + (k - 1) * 3) a axis, e, g)
      (len-offset (get_or l (i * 6 + f) 0) (get_or t (6 + f) 0) (raised-fits i h))
