-- The ranges of document 01, "Units and ranges", at their ends and one past them, computed from the definitions.
-- Assumes nothing.
use Prim.Native.Nat.{ℕ, ◌+◌}
use mathlib.Core.Path.{◌≡◌, refl}
use mathlib.Core.List.{List, [], ◌∷◌, map}
use lib.ListN.{get_or}
use lib.IntN.{ℤ, pos, ◌+ℤ◌, ◌-ℤ◌}
use Rattle.paper.specs.Units.{Triple}
use Rattle.paper.proofs.Inputs.{Input, ranged, reaches, placed, minus, triple, place, Case, ◌⇒◌, computed, marked, no-case, holds}

-- term i, counted from 0: one below its least, its least, its greatest, one above it
ends : ℕ → ℤ → ℤ → Input
ends i least greatest =
    let put : ℤ → List (ℕ × ℤ) = λ z. (i, z) ∷ [] in
    ranged (put (least -ℤ pos 1) ∷ put least ∷ put greatest ∷ put (greatest +ℤ pos 1) ∷ [])

-- of these four
abbrev between : List ℕ
between = 0 ∷ 1 ∷ 1 ∷ 0 ∷ []

-- coordinate i of the two points: both n, then the one or the other m
points : ℕ → ℤ → ℤ → Input
points i n m =
    let put : ℤ → ℤ → List (ℕ × ℤ) = λ u v. (6 + i, u) ∷ (9 + i, v) ∷ [] in
    ranged (put n n ∷ put m n ∷ put n m ∷ [])

-- two points apart by 500,000 on each axis, and a reading of point k that is off it on one axis
reaching : ℕ → (ℤ → Triple) → Input
reaching k off =
    reaches
    ((6, pos 1000000) ∷ (7, pos 2000000) ∷ (8, minus 3000000) ∷ (9, pos 1500000) ∷ (10, pos 2500000) ∷ (11, minus 3500000) ∷ [])
    k
    (off (minus 100001) ∷ off (minus 100000) ∷ off (pos 100000) ∷ off (pos 100001) ∷ [])

unfoldable pub table : List Case
unfolding ends points reaching triple place
table =
    -- D*, h*, s_xy, s_h, sigma_xy, sigma_h
    (ends 0 (pos 1) (pos 500000) ⇒ between)
    ∷ (ends 1 (minus 500000) (pos 500000) ⇒ between)
    ∷ (ends 2 (pos 1) (pos 10000) ⇒ between)
    ∷ (ends 3 (pos 1) (pos 10000) ⇒ between)
    ∷ (ends 4 (pos 1) (pos 10000) ⇒ between)
    ∷ (ends 5 (pos 1) (pos 10000) ⇒ between)
    -- X, Y, H of the two points
    ∷ (points 0 (pos 100000000000) (pos 100000000001) ⇒ 1 ∷ 0 ∷ 0 ∷ [])
    ∷ (points 0 (minus 100000000000) (minus 100000000001) ⇒ 1 ∷ 0 ∷ 0 ∷ [])
    ∷ (points 1 (pos 100000000000) (pos 100000000001) ⇒ 1 ∷ 0 ∷ 0 ∷ [])
    ∷ (points 1 (minus 100000000000) (minus 100000000001) ⇒ 1 ∷ 0 ∷ 0 ∷ [])
    ∷ (points 2 (pos 100000000000) (pos 100000000001) ⇒ 1 ∷ 0 ∷ 0 ∷ [])
    ∷ (points 2 (minus 100000000000) (minus 100000000001) ⇒ 1 ∷ 0 ∷ 0 ∷ [])
    -- on each axis they differ by at most 500,000: point 1 is at 0
    ∷ (ends 9 (minus 500000) (pos 500000) ⇒ between)
    ∷ (ends 10 (minus 500000) (pos 500000) ⇒ between)
    ∷ (ends 11 (minus 500000) (pos 500000) ⇒ between)
    -- each of x, y, h lies within 100,000 of its point's approximate value
    ∷ (reaching 1 (λ z. triple (pos 1000000 +ℤ z) (pos 2000000) (minus 3000000)) ⇒ between)
    ∷ (reaching 1 (λ z. triple (pos 1000000) (pos 2000000 +ℤ z) (minus 3000000)) ⇒ between)
    ∷ (reaching 1 (λ z. triple (pos 1000000) (pos 2000000) (minus 3000000 +ℤ z)) ⇒ between)
    ∷ (reaching 2 (λ z. triple (pos 1500000 +ℤ z) (pos 2500000) (minus 3500000)) ⇒ between)
    ∷ (reaching 2 (λ z. triple (pos 1500000) (pos 2500000 +ℤ z) (minus 3500000)) ⇒ between)
    ∷ (reaching 2 (λ z. triple (pos 1500000) (pos 2500000) (minus 3500000 +ℤ z)) ⇒ between)
    -- series 1..3, set 1..5, point 1..2
    ∷ (placed (place 0 1 1 ∷ place 1 1 1 ∷ place 3 1 1 ∷ place 4 1 1 ∷ []) ⇒ between)
    ∷ (placed (place 1 0 1 ∷ place 1 1 1 ∷ place 1 5 1 ∷ place 1 6 1 ∷ []) ⇒ between)
    ∷ (placed (place 1 1 0 ∷ place 1 1 1 ∷ place 1 1 2 ∷ place 1 1 3 ∷ []) ⇒ between)
    ∷ []

all_right : map computed table ≡ map marked table
unfolding computed marked table
all_right = refl

pub each_range : (k : ℕ) → computed (get_or table k no-case) ≡ (get_or table k no-case).expected
each_range = holds table all_right
