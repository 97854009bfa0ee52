-- There is one nearest root, `nearest_of` is it, and it is at most m exactly when q is at most m² + m. Assumes nothing.
use Rattle.std.specs.Prelude.{◌≡◌, refl, Bool, true, false, cond, ℕ, zero, suc, ◌+◌, ◌*◌, ◌-◌, ◌≤◌, ◌<◌, leb}
use Rattle.std.proofs.Common.{lt_of_not-le, mul-le-mul, arith, leb-true, leb-false, le-leb}
use Rattle.std.proofs.lemmas.Bool.{lt-leb}
use Rattle.whole.specs.Root.{Root, root_of}
use Rattle.whole.proofs.Root.{root_of-root}
use Rattle.whole.specs.Nearest.{Nearest, nearest_of}

-- of two nearest roots neither is below the other
not-below : (q r s d : ℕ) → s + 1 + d ≡ r → 0 < q → Nearest q r → Nearest q s → ⊥
not-below q r s d e p a b =
    let h : r * r < q + r = a.above p in
    let k : q ≤ s * s + s = b.reaches p in
    let h' : (s + 1 + d) * (s + 1 + d) < q + (s + 1 + d) = rw e h in
    omega arith

some_nearest : {q r s : ℕ} → 0 < q → Nearest q r → Nearest q s → r ≡ s
some_nearest {q} {r} {s} p a b =
    let lo : r < s + 1 = lt_of_not-le (λ l. not-below q r s (r - (s + 1)) (omega arith) p a b) in
    let hi : s < r + 1 = lt_of_not-le (λ l. not-below q s r (s - (r + 1)) (omega arith) p b a) in
    omega arith

pub one-nearest : (q r s : ℕ) → Nearest q r → Nearest q s → r ≡ s
one-nearest zero r s a b = let h : r ≡ 0 = a.nothing refl in let k : s ≡ 0 = b.nothing refl in omega arith
one-nearest (suc q) r s a b = some_nearest (omega arith) a b

rounded : (q r : ℕ) → Root q r → Nearest q (cond (leb q (r * r + r)) r (r + 1))
rounded q r t = go (leb q (r * r + r)) refl
  where
    zeroed : (r : ℕ) → r * r ≤ 0 → r ≡ 0
    zeroed zero h = refl
    zeroed (suc r) h = absurd (omega arith)

    positive : (r : ℕ) → 0 < q → q < (r + 1) * (r + 1) → q ≤ r * r + r → 0 < r
    positive zero h k l = absurd (omega arith)
    positive (suc r) h k l = omega arith

    go : (b : Bool) → leb q (r * r + r) ≡ b → Nearest q (cond b r (r + 1))
    go true e =
        let lo : r * r ≤ q = t.reaches in
        let hi : q < (r + 1) * (r + 1) = t.next in
        let near : q ≤ r * r + r = leb-true _ _ e in
        record {
          nothing = λ z. zeroed r (omega arith);
          above = λ h. omega (arith, positive r h hi near);
          reaches = λ h. near;
        }
    go false e =
        let hi : q < (r + 1) * (r + 1) = t.next in
        let far : r * r + r < q = leb-false _ _ e in
        record { nothing = λ z. absurd (omega arith); above = λ h. omega arith; reaches = λ h. omega arith }

pub nearest_of-nearest : (q : ℕ) → Nearest q (nearest_of q)
unfolding nearest_of
nearest_of-nearest q = rounded q (root_of q) (root_of-root q)

-- how far up the nearest root is m
reached : (q n m : ℕ) → Nearest q n → n ≤ m → q ≤ m * m + m
reached zero n m a h = omega arith
reached (suc q) n m a h = let k : suc q ≤ n * n + n = a.reaches (omega arith) in omega (arith, mul-le-mul h h)

past : (q n m : ℕ) → Nearest q n → m < n → m * m + m < q
past zero n m a h = let z : n ≡ 0 = a.nothing refl in absurd (omega arith)
past (suc q) n m a h =
    let k : n * n < suc q + n = a.above (omega arith) in
    let d : n ≡ m + 1 + (n - (m + 1)) = omega arith in
    beyond m (n - (m + 1)) (rw d at k)
  where
    beyond : (m d : ℕ) → (m + 1 + d) * (m + 1 + d) < suc q + (m + 1 + d) → m * m + m < suc q
    beyond m d h = omega arith

-- the nearest root is at most m exactly when q is at most m² + m
pub nearest-most : (q m : ℕ) → leb q (m * m + m) ≡ leb (nearest_of q) m
nearest-most q m = go (leb (nearest_of q) m) refl
  where
    go : (b : Bool) → leb (nearest_of q) m ≡ b → leb q (m * m + m) ≡ b
    go true e = le-leb _ _ (reached q (nearest_of q) m (nearest_of-nearest q) (leb-true _ _ e))
    go false e = lt-leb _ _ (past q (nearest_of q) m (nearest_of-nearest q) (leb-false _ _ e))
