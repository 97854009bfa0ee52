-- `root_of` computes the root of every n, one binary digit at a time: `root_of-root` says that it is right. Assumes nothing.
use Rattle.std.specs.Prelude.{◌≡◌, Bool, true, false, cond, not, ℕ, zero, suc, ◌+◌, ◌*◌, ◌/◌, ◌^◌, ◌≤◌, ◌<◌, T, leb}
use Rattle.std.proofs.Common.{subst, lt_of_le_of_lt, lt_of_lt_of_le, lt_of_not-le, not-le_of_lt, mul-le-mul, arith, leb→le, pow_mono, pow-add}
use Rattle.std.proofs.Math.Nat.{two-pow-succ}
use Rattle.std.proofs.Math.Dec.{nleb→lt}
use Rattle.std.specs.Float.Ieee.{size}
use Rattle.std.specs.Float.Ieee.Digits.{size-lt}
use Rattle.whole.specs.Root.{Root, digits, root_of}

-- of two squares, the smaller has the smaller root
pub root-lt : {k s : ℕ} → k * k < s * s → k < s
root-lt h = lt_of_not-le (λ g. not-le_of_lt h (mul-le-mul g g))

-- there is one root
pub one-root : {n r s : ℕ} → Root n r → Root n s → r ≡ s
one-root {n} {r} {s} a b =
    let h : r < s + 1 = root-lt (lt_of_le_of_lt a.reaches b.next) in
    let k : s < r + 1 = root-lt (lt_of_le_of_lt b.reaches a.next) in
    omega arith

digits-root : (k n r : ℕ) → r * r ≤ n → n < (r + 2 ^ k) * (r + 2 ^ k) → Root n (digits k n r)
unfolding digits
digits-root zero n r lo hi = record { reaches = lo; next = hi }
digits-root (suc k) n r lo hi = go (leb (t * t) n) (leb→le (t * t) n) (nleb→lt (t * t) n) (digits-root k n)
  where
    t : ℕ
    t = r + 2 ^ k

    e : r + 2 ^ suc k ≡ t + 2 ^ k
    e = omega (arith, two-pow-succ k)

    go : (b : Bool) → (T b → t * t ≤ n) → (T (not b) → n < t * t) → ((s : ℕ) → s * s ≤ n → n < (s + 2 ^ k) * (s + 2 ^ k) → Root n (digits k n s))
        → Root n (digits k n (cond b t r))
    go true h g rest = rest t (h tt) (rw e at hi)
    go false h g rest = rest r lo (g tt)

enough : (n : ℕ) → n < (0 + 2 ^ (size n / 2 + 1)) * (0 + 2 ^ (size n / 2 + 1))
enough n = go (size n / 2 + 1) (omega arith)
  where
    go : (k : ℕ) → size n ≤ k + k → n < (0 + 2 ^ k) * (0 + 2 ^ k)
    go k h = let g : n < 2 ^ k * 2 ^ k = subst (λ (x : ℕ). n < x) (pow-add 2 k k) (lt_of_lt_of_le (size-lt n) (pow_mono h)) in omega arith

pub root_of-root : (n : ℕ) → Root n (root_of n)
unfolding root_of
root_of-root n = digits-root (size n / 2 + 1) n 0 (omega arith) (enough n)
