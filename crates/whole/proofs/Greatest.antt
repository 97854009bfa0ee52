-- There is one greatest m, and `greatest_of` is it. Assumes nothing.
use Rattle.std.specs.Prelude.{◌≡◌, refl, Bool, true, false, leb, ℕ, suc, ◌+◌, ◌*◌, ◌/◌, ◌<◌}
use Rattle.std.proofs.Common.{leb-true, leb-false, le_antisymm, lt_of_le_of_lt, le-div_iff_mul-le, arith}
use Rattle.whole.specs.Root.{Root}
use Rattle.whole.proofs.Root.{root-lt, root_of-root}
use Rattle.whole.specs.Greatest.{Greatest, greatest_of}

pub greatest : {a n m : ℕ} → 0 < a → Root (n / a) m → Greatest a n m
greatest {a} {n} {m} p r = record {
  reaches = (le-div_iff_mul-le p).0 r.reaches;
  most = λ k h. let l : k < m + 1 = root-lt (lt_of_le_of_lt ((le-div_iff_mul-le p).1 h) r.next) in omega arith;
}

pub greatest_of-greatest : (a n : ℕ) → 0 < a → Greatest a n (greatest_of a n)
unfolding greatest_of
greatest_of-greatest a n p = greatest p (root_of-root (n / a))

-- the next is too great
pub greatest-next : {a n m : ℕ} → Greatest a n m → n < suc m * suc m * a
greatest-next {a} {n} {m} g = go (leb (suc m * suc m * a) n) refl
  where
    go : (b : Bool) → leb (suc m * suc m * a) n ≡ b → n < suc m * suc m * a
    go true e = absurd (omega (arith, g.most (suc m) (leb-true _ _ e)))
    go false e = leb-false _ _ e

pub one-greatest : {a n r s : ℕ} → Greatest a n r → Greatest a n s → r ≡ s
one-greatest {a} {n} {r} {s} g h = le_antisymm (h.most r g.reaches) (g.most s h.reaches)
