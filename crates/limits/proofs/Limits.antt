-- Differences and their limit: the paper's test, the greatest difference that passes, and the nearest roots that are further away.
-- Assumes nothing.
use Rattle.std.proofs.Common.{ℕ, ◌+◌, ◌-◌, ◌*◌, ◌≤◌, ◌<◌, arith, mul-le-mul, lt_of_not-le, ◌≡◌, refl, sym, ap, ◌∙◌, Bool, true, false, not, ◌⊎◌, inl, inr, leb, ltb, ℤ, pos, nat_abs, ◌-ℤ◌, leb-true, leb-false, le-ltb, lt-ltb, le-leb}
use Rattle.std.proofs.Math.IntN.{sub_ℕ}
use borrow.Author.Tests.{lt-leb}
use Rattle.integers.specs.Diff.{sub-ge, sub-lt, ≤-or-<, minus-sub}
use Rattle.whole.specs.Greatest.{Greatest, greatest_of}
use Rattle.whole.proofs.Greatest.{greatest_of-greatest}
use Rattle.whole.specs.Nearest.{nearest_of}
use Rattle.paper.specs.Screening.{square, passes}
use Rattle.image.specs.Lengths.{ORIGIN, len}
use Rattle.image.proofs.Lengths.{len-minus, len_pos}
use Rattle.limits.specs.Most.{most_passing}

pub squared : {d m : ℕ} → d ≤ m → d * d ≤ m * m
squared h = mul-le-mul h h

-- ---- how far apart two numbers are

gap : (a b : ℕ) → nat_abs (sub_ℕ a b) ≡ a - b + (b - a)
gap a b = go (≤-or-< a b)
  where
    go : (b ≤ a) ⊎ (a < b) → nat_abs (sub_ℕ a b) ≡ a - b + (b - a)
    go (inl h) = rw (sub-ge a b h) (omega arith)
    go (inr h) = rw (sub-lt a b h) (omega arith)

pub words-apart : (a b d : ℕ) → d ≡ a - b + (b - a) → d ≡ nat_abs (len a -ℤ len b)
words-apart a b d e = e ∙ sym (ap nat_abs (len-minus a b) ∙ gap a b)

numbers_apart : (a b : ℕ) → nat_abs (pos a -ℤ pos b) ≡ a - b + (b - a)
numbers_apart a b = ap nat_abs (minus-sub a b) ∙ gap a b

-- ---- the limit

pub limit_is : (s : ℕ) → ORIGIN ≤ s → 25 * ((s - ORIGIN) * (s - ORIGIN)) ≡ 25 * square (len s)
limit_is s low = rw (len_pos s low)

less_not : (a b : ℕ) → ltb a b ≡ not (leb b a)
less_not a b = go (leb b a) refl
  where
    go : (z : Bool) → leb b a ≡ z → ltb a b ≡ not z
    go true e = le-ltb a b (leb-true b a e)
    go false e = lt-ltb a b (leb-false b a e)

pub beyond_is : (s : ℤ) (d n : ℕ) → n ≡ 25 * square s → ltb n (2 * (d * d)) ≡ not (passes s d)
unfolding passes
beyond_is s d n e = rw e (less_not (25 * square s) (2 * (d * d)))

-- ---- the greatest difference that passes

up_to_lem : (n d : ℕ) → leb (2 * (d * d)) n ≡ leb d (greatest_of 2 n)
up_to_lem n d = go (greatest_of 2 n) (greatest_of-greatest 2 n (omega arith)) (leb d (greatest_of 2 n)) refl
  where
    go : (m : ℕ) → Greatest 2 n m → (b : Bool) → leb d m ≡ b → leb (2 * (d * d)) n ≡ b
    go m g true e = le-leb (2 * (d * d)) n (omega (arith, squared (leb-true d m e), g.reaches))
    go m g false e =
        let h : m < d = leb-false d m e in
        lt-leb (2 * (d * d)) n (lt_of_not-le (λ (o : 2 * (d * d) ≤ n). let k : d ≤ m = g.most d (omega arith) in absurd (omega arith)))

-- a difference passes exactly up to it
pub passes-up_to : (s : ℤ) (d : ℕ) → ltb (most_passing s) d ≡ not (passes s d)
unfolding passes most_passing
passes-up_to s d = less_not (greatest_of 2 (25 * square s)) d ∙ ap not (sym (up_to_lem (25 * square s) d))

pub most-le : (s : ℤ) → 25 * square s ≤ 2500000000 → most_passing s ≤ 50000
unfolding most_passing
most-le s h = go (greatest_of 2 (25 * square s)) (greatest_of-greatest 2 (25 * square s) (omega arith)).reaches
  where
    go : (m : ℕ) → m * m * 2 ≤ 25 * square s → m ≤ 50000
    go m r =
        let k : m < 50001 = lt_of_not-le (λ (o : 50001 ≤ m). let p = squared o in absurd (omega arith)) in
        omega arith

-- ---- a nearest root further than most from about

module _ (q about most : ℕ) where
  abbrev n : ℕ
  n = nearest_of q

  pub above_it : leb n (about + most) ≡ false → true ≡ ltb most (nat_abs (pos n -ℤ pos about))
  above_it e = rw (numbers_apart n about) (sym (lt-ltb most (n - about + (about - n)) (omega (arith, leb-false n (about + most) e))))

  pub below_it : leb n (about + most) ≡ true → most < about → leb n (about - most - 1) ≡ ltb most (nat_abs (pos n -ℤ pos about))
  below_it e h = rw (numbers_apart n about) (go (leb n (about - most - 1)) refl)
    where
      go : (b : Bool) → leb n (about - most - 1) ≡ b → b ≡ ltb most (n - about + (about - n))
      go true f = sym (lt-ltb most (n - about + (about - n)) (omega (arith, leb-true n (about - most - 1) f)))
      go false f = sym (le-ltb most (n - about + (about - n)) (omega (arith, leb-true n (about + most) e, leb-false n (about - most - 1) f)))

  pub near_it : leb n (about + most) ≡ true → about ≤ most → false ≡ ltb most (nat_abs (pos n -ℤ pos about))
  near_it e h = rw (numbers_apart n about) (sym (le-ltb most (n - about + (about - n)) (omega (arith, leb-true n (about + most) e))))
