-- The reader of lists takes exactly what is written: what is written is read back (`-back`), and only that is read (`-only`).
-- Assumes nothing.
use Prim.Native.Nat.{ℕ, zero, suc, ◌+◌, ◌-◌, ◌*◌, ◌/◌, ◌%◌, ◌<◌, ◌≤◌}
use mathlib.Core.Path.{◌≡◌, refl, sym, ◌∙◌, ap}
use mathlib.Core.List.{List, [], ◌∷◌, ◌++◌, append_assoc}
use mathlib.Core.Bool.{Bool, true, false, cond}
use native.Mathlib.Omega.{arith}
use borrow.Author.Tests.{lt-ltb, le-ltb, eq-eqb, ne_eqb, ltb-true, ltb-false, leb-false, eqb-true}
use lib.Dec.{ltb, leb, eqb}
use lib.ListN.{length}
use lib.IntN.{ℤ, pos, negsuc, neg_ℤ}
use Rattle.rows.specs.Lists.{All}
use Rattle.decimals.specs.Numbers.{digits_in, digits, numeral, TWELVE_DIGITS, THIRTEEN_DIGITS, Short, AllShort, sep_of, line}
use Rattle.decimals.specs.Reader.{Parsed, got, bad, then, fixed, stops, run, nonzero, below, above, number, field, ahead, numbers}
use Rattle.decimals.proofs.Steps.{then-got, run_on, run_low}

-- ---- digits

digits_in-one : (k n : ℕ) → n < 10 → digits_in (suc k) n ≡ (48 + n) ∷ []
unfolding digits_in
digits_in-one k n h = rw (lt-ltb n 10 h, digits_in)

digits_in-more : (k n : ℕ) → 10 ≤ n → digits_in (suc k) n ≡ digits_in k (n / 10) ++ (48 + n % 10) ∷ []
unfolding digits_in
digits_in-more k n h = rw (le-ltb n 10 h, digits_in)

enough : (j k n : ℕ) → n < j → n < k → digits_in j n ≡ digits_in k n
enough zero k n p q = absurd (omega arith)
enough (suc j) zero n p q = absurd (omega arith)
enough (suc j) (suc k) n p q = go (ltb n 10) refl (λ h. enough j k (n / 10) (omega arith) (omega arith))
  where
    go : (b : Bool) → ltb n 10 ≡ b → (10 ≤ n → digits_in j (n / 10) ≡ digits_in k (n / 10)) → digits_in (suc j) n ≡ digits_in (suc k) n
    go true e ih = digits_in-one j n (ltb-true n 10 e) ∙ sym (digits_in-one k n (ltb-true n 10 e))
    go false e ih =
        digits_in-more j n (ltb-false n 10 e)
        ∙ (ap (λ (l : List ℕ). l ++ (48 + n % 10) ∷ []) (ih (ltb-false n 10 e)) ∙ sym (digits_in-more k n (ltb-false n 10 e)))

pub digits-one : (n : ℕ) → n < 10 → digits n ≡ (48 + n) ∷ []
unfolding digits
digits-one n h = digits_in-one n n h

pub digits_more : (n : ℕ) → 10 ≤ n → digits n ≡ digits (n / 10) ++ (48 + n % 10) ∷ []
unfolding digits
digits_more n h =
    digits_in-more n n h
    ∙ ap (λ (l : List ℕ). l ++ (48 + n % 10) ∷ []) (enough n (suc (n / 10)) (n / 10) (omega arith) (omega arith))

-- the digits of a, and d
digits-snoc : (a d : ℕ) → 0 < a → d < 10 → digits (a * 10 + d) ≡ digits a ++ (48 + d) ∷ []
digits-snoc a d p q =
    let f : (a * 10 + d) / 10 ≡ a = omega arith in
    let g : (a * 10 + d) % 10 ≡ d = omega arith in
    digits_more (a * 10 + d) (omega arith) ∙ rw (f, g)

-- ---- only what is written is read

pub no : {A : Type 0} {B : Type 0} {a : A} {l : List ℕ} → bad ≡ got a l → B
no e = let z : ◌≡◌ {A = ℕ} 0 1 = cc in absurd (omega arith)

pub then-only : {A B : Type 0} (p : Parsed A) (k : A → List ℕ → Parsed B) {b : B} {r : List ℕ}
    → then p k ≡ got b r → (a : A) × (t : List ℕ) × (p ≡ got a t) × (k a t ≡ got b r)
unfolding then
then-only bad k e = no e
then-only (got a t) k e = (a, t, refl, e)

pub fixed-only : (w l : List ℕ) {u : Unit {0}} {r : List ℕ} → fixed w l ≡ got u r → l ≡ w ++ r
unfolding fixed
fixed-only [] l e = cc
fixed-only (a ∷ w) [] e = no e
fixed-only (a ∷ w) (b ∷ l) {u} {r} e = go (eqb b a) refl e (fixed-only w l)
  where
    go : (x : Bool) → eqb b a ≡ x → cond x (fixed w l) bad ≡ got u r → (fixed w l ≡ got u r → l ≡ w ++ r) → b ∷ l ≡ a ∷ w ++ r
    go true p e ih = let f = eqb-true b a p in let g = ih e in cc
    go false p e ih = no e

go_on : (a b : ℕ) → stops a b ≡ false → (48 ≤ b) × (b ≤ 57) × (a < TWELVE_DIGITS)
unfolding stops
go_on a b e = go (ltb b 48) refl (ltb 57 b) refl e
  where
    never : true ≡ false → (48 ≤ b) × (b ≤ 57) × (a < TWELVE_DIGITS)
    never e = let z : ◌≡◌ {A = ℕ} 0 1 = cc in absurd (omega arith)

    go : (x : Bool) → ltb b 48 ≡ x → (y : Bool) → ltb 57 b ≡ y → cond x true (cond y true (leb TWELVE_DIGITS a)) ≡ false → (48 ≤ b) × (b ≤ 57) × (a < TWELVE_DIGITS)
    go true p y q r = never r
    go false p true q r = never r
    go false p false q r = (ltb-false b 48 p, ltb-false 57 b q, leb-false TWELVE_DIGITS a r)

-- the digits that a reader of digits leaves behind it, after those of a
abbrev Ran : (a : ℕ) (l : List ℕ) (v : ℕ) (r : List ℕ) → Type 0
Ran a l v r = (digits a ++ l ≡ digits v ++ r) × (0 < v) × (v < THIRTEEN_DIGITS)

run_only : (l : List ℕ) (a v : ℕ) (r : List ℕ) → 0 < a → a < THIRTEEN_DIGITS → run a l ≡ got v r → Ran a l v r
unfolding run
run_only [] a v r p q e = let f : a ≡ v = cc in (cc, omega arith, omega arith)
run_only (b ∷ l) a v r p q e =
    go (stops a b) refl e (λ h. run_only l (a * 10 + (b - 48)) v r (omega arith) (let k = go_on a b h in omega arith))
  where
    go : (x : Bool) → stops a b ≡ x → cond x (got a (b ∷ l)) (run (a * 10 + (b - 48)) l) ≡ got v r
        → (stops a b ≡ false → run (a * 10 + (b - 48)) l ≡ got v r → Ran (a * 10 + (b - 48)) l v r) → Ran a (b ∷ l) v r
    go true x e ih = let f : a ≡ v = cc in (cc, omega arith, omega arith)
    go false x e ih =
        let k = go_on a b x in
        let i = ih x e in
        let f : 48 + (b - 48) ≡ b = omega arith in
        (rw f at (rw append_assoc at (rw (digits-snoc a (b - 48) p (omega arith)) at i.0)), i.1, i.2)

nonzero-only : (l : List ℕ) (v : ℕ) (r : List ℕ) → nonzero l ≡ got v r → (l ≡ digits v ++ r) × (0 < v) × (v < THIRTEEN_DIGITS)
unfolding nonzero
nonzero-only [] v r e = no e
nonzero-only (b ∷ l) v r e = go (ltb b 49) refl (ltb 57 b) refl e
  where
    go : (x : Bool) → ltb b 49 ≡ x → (y : Bool) → ltb 57 b ≡ y → cond x bad (cond y bad (run 0 (b ∷ l))) ≡ got v r → (b ∷ l ≡ digits v ++ r) × (0 < v) × (v < THIRTEEN_DIGITS)
    go true p y q e = no e
    go false p true q e = no e
    go false p false q e =
        let h = ltb-false b 49 p in
        let k = ltb-false 57 b q in
        let d : 0 * 10 + (b - 48) ≡ b - 48 = omega arith in
        let s = run_on 0 b l (omega arith) k (omega arith) in
        let i = run_only l (b - 48) v r (omega arith) (omega arith) (ap (λ (n : ℕ). run n l) (sym d) ∙ (sym s ∙ e)) in
        let f : 48 + (b - 48) ≡ b = omega arith in
        (rw f at (rw (digits-one (b - 48) (omega arith)) at i.0), i.1, i.2)

numeral-below : (m : ℕ) → 0 < m → numeral (neg_ℤ (pos m)) ≡ 45 ∷ digits m
unfolding numeral
numeral-below zero p = absurd (omega arith)
numeral-below (suc m) p = refl

short-below : (m : ℕ) → m < THIRTEEN_DIGITS → Short (neg_ℤ (pos m))
short-below zero p = omega arith
short-below (suc m) p = p

number-only : (l : List ℕ) {z : ℤ} {r : List ℕ} → number l ≡ got z r → (l ≡ numeral z ++ r) × Short z
unfolding number numeral
number-only [] e = no e
number-only (b ∷ l) {z} {r} e = go (eqb b 48) refl (eqb b 45) refl e
  where
    made : (t : List ℕ) (w : ℤ) (q : List ℕ) → got w q ≡ got z r → (t ≡ numeral w ++ q) → Short w → (t ≡ numeral z ++ r) × Short z
    made t w q e f h =
        let g : w ≡ z = cc in
        let k : q ≡ r = cc in
        (rw (← g, ← k) f, rw (← g) h)

    go : (x : Bool) → eqb b 48 ≡ x → (y : Bool) → eqb b 45 ≡ y → cond x (got (pos 0) l) (cond y (then (nonzero l) below) (then (nonzero (b ∷ l)) above)) ≡ got z r → (b ∷ l ≡ numeral z ++ r) × Short z
    go true p y q e = made (b ∷ l) (pos 0) l e (rw (eqb-true b 48 p) (ap (λ (d : List ℕ). d ++ l) (sym (digits-one 0 (omega arith))))) (omega arith)
    go false p true q e =
        let i = then-only (nonzero l) below e in
        let j = nonzero-only l i.0 i.1 i.2 in
        made (b ∷ l) (neg_ℤ (pos i.0)) i.1 i.3 (rw (numeral-below i.0 j.1, eqb-true b 45 q) (ap (λ (t : List ℕ). 45 ∷ t) j.0)) (short-below i.0 j.2)
    go false p false q e =
        let i = then-only (nonzero (b ∷ l)) above e in
        let j = nonzero-only (b ∷ l) i.0 i.1 i.2 in
        made (b ∷ l) (pos i.0) i.1 i.3 j.0 j.2

pub field-only : (sep : ℕ) (l : List ℕ) {z : ℤ} {r : List ℕ} → field sep l ≡ got z r → (l ≡ numeral z ++ sep ∷ r) × Short z
unfolding field
field-only sep l {z} {r} e =
    let i = then-only (number l) _ e in
    let j = then-only (fixed (sep ∷ []) i.1) _ i.3 in
    let h = number-only l i.2 in
    made i.0 i.1 j.1 j.3 h.0 (fixed-only (sep ∷ []) i.1 j.2) h.1
  where
    made : (v : ℤ) (t q : List ℕ) → got v q ≡ got z r → l ≡ numeral v ++ t → t ≡ sep ∷ q → Short v → (l ≡ numeral z ++ sep ∷ r) × Short z
    made v t q e f g h =
        let m : v ≡ z = cc in
        let n : q ≡ r = cc in
        (rw (← m, ← n) (f ∙ rw g), rw (← m) h)

pub ahead-only : {A : Type 0} (xs : List A) (p : Parsed (List A)) {zs : List A} {r : List ℕ} → ahead xs p ≡ got zs r → (ys : List A) × (p ≡ got ys r) × (zs ≡ xs ++ ys)
unfolding ahead then
ahead-only xs bad e = no e
ahead-only xs (got ys t) e = (ys, cc, cc)

pub numbers-only : (n : ℕ) (l : List ℕ) {zs : List ℤ} {r : List ℕ} → numbers n l ≡ got zs r → (l ≡ line zs ++ r) × (length zs ≡ n) × AllShort zs
unfolding numbers line All
numbers-only zero l {zs} {r} e = let f : [] ≡ zs = cc in let g : l ≡ r = cc in (rw (← f, g), rw (← f), rw (← f) tt)
numbers-only (suc n) l {zs} {r} e =
    let i = then-only (field (sep_of n) l) _ e in
    let j = ahead-only (i.0 ∷ []) (numbers n i.1) i.3 in
    let k = numbers-only n i.1 j.1 in
    let f = field-only (sep_of n) l i.2 in
    (rw (j.2, k.1, append_assoc) (f.0 ∙ ap (λ (t : List ℕ). numeral i.0 ++ sep_of n ∷ t) k.0), rw j.2 (ap suc k.1), rw j.2 (f.1, k.2))

-- ---- what is written is read back

pub fixed_back : (w r : List ℕ) → fixed w (w ++ r) ≡ got tt r
unfolding fixed
fixed_back [] r = refl
fixed_back (a ∷ w) r = rw (eq-eqb a a refl) (fixed_back w r)

-- one digit more
run_digit : (a d : ℕ) (l : List ℕ) → d < 10 → a < TWELVE_DIGITS → run a ((48 + d) ∷ l) ≡ run (a * 10 + d) l
run_digit a d l p q =
    let f : 48 + d - 48 ≡ d = omega arith in
    run_on a (48 + d) l (omega arith) (omega arith) q ∙ ap (λ (n : ℕ). run (a * 10 + n) l) f

run_back : (j v : ℕ) (l : List ℕ) → v < j → v < THIRTEEN_DIGITS → run 0 (digits_in j v ++ l) ≡ run v l
run_back zero v l p q = absurd (omega arith)
run_back (suc j) v l p q = go (ltb v 10) refl (λ h. run_back j (v / 10) ((48 + v % 10) ∷ l) (omega arith) (omega arith))
  where
    go : (x : Bool) → ltb v 10 ≡ x → (10 ≤ v → run 0 (digits_in j (v / 10) ++ (48 + v % 10) ∷ l) ≡ run (v / 10) ((48 + v % 10) ∷ l)) → run 0 (digits_in (suc j) v ++ l) ≡ run v l
    go true e ih =
        let h = ltb-true v 10 e in
        let f : 0 * 10 + v ≡ v = omega arith in
        rw (digits_in-one j v h) (run_digit 0 v l h (omega arith) ∙ ap (λ (n : ℕ). run n l) f)
    go false e ih =
        let h = ltb-false v 10 e in
        let f : v / 10 * 10 + v % 10 ≡ v = omega arith in
        rw (digits_in-more j v h, append_assoc) (ih h ∙ (run_digit (v / 10) (v % 10) l (omega arith) (omega arith) ∙ ap (λ (n : ℕ). run n l) f))

first : (j v : ℕ) → v < j → 0 < v → (b : ℕ) × (t : List ℕ) × (digits_in j v ≡ b ∷ t) × (49 ≤ b) × (b ≤ 57)
first zero v p q = absurd (omega arith)
first (suc j) v p q = go (ltb v 10) refl (λ h. first j (v / 10) (omega arith) (omega arith))
  where
    go : (x : Bool) → ltb v 10 ≡ x → (10 ≤ v → (b : ℕ) × (t : List ℕ) × (digits_in j (v / 10) ≡ b ∷ t) × (49 ≤ b) × (b ≤ 57)) → (b : ℕ) × (t : List ℕ) × (digits_in (suc j) v ≡ b ∷ t) × (49 ≤ b) × (b ≤ 57)
    go true e ih = let h = ltb-true v 10 e in (48 + v, [], digits_in-one j v h, omega arith, omega arith)
    go false e ih =
        let h = ltb-false v 10 e in
        let i = ih h in
        (i.0, i.1 ++ (48 + v % 10) ∷ [], digits_in-more j v h ∙ ap (λ (l : List ℕ). l ++ (48 + v % 10) ∷ []) i.2, i.3, i.4)

-- the digits of a number that is not 0: a first digit that is not 0, and they are read back up to what is no digit
module _ (v : ℕ) (p : 0 < v) where
  first_digit : (b : ℕ) × (t : List ℕ) × (digits v ≡ b ∷ t) × (49 ≤ b) × (b ≤ 57)
  unfolding digits
  first_digit = first (suc v) v (omega arith) p

  nonzero_back : (sep : ℕ) (r : List ℕ) → sep < 48 → v < THIRTEEN_DIGITS → nonzero (digits v ++ sep ∷ r) ≡ got v (sep ∷ r)
  unfolding nonzero digits
  nonzero_back sep r s q =
      let i = first_digit in
      let k : run 0 (digits v ++ sep ∷ r) ≡ got v (sep ∷ r) = run_back (suc v) v (sep ∷ r) (omega arith) q ∙ run_low v sep r s in
      rw (i.2, le-ltb i.0 49 i.3, le-ltb 57 i.0 i.4) (rw i.2 at k)

number_back : (sep : ℕ) (z : ℤ) (r : List ℕ) → sep < 48 → Short z → number (numeral z ++ sep ∷ r) ≡ got z (sep ∷ r)
unfolding number numeral
number_back sep (pos zero) r s h = rw (digits-one 0 (omega arith))
number_back sep (pos (suc m)) r s h =
    let i = first_digit (suc m) (omega arith) in
    let k = nonzero_back (suc m) (omega arith) sep r s h in
    rw (i.2, ne_eqb i.0 48 (omega arith), ne_eqb i.0 45 (omega arith)) (then-got _ (rw i.2 at k))
number_back sep (negsuc m) r s h = then-got _ (nonzero_back (suc m) (omega arith) sep r s h)

pub field_back : (sep : ℕ) (z : ℤ) (r : List ℕ) → sep < 48 → Short z → field sep (numeral z ++ sep ∷ r) ≡ got z r
unfolding field
field_back sep z r s h = then-got _ (number_back sep z r s h) ∙ then-got _ (fixed_back (sep ∷ []) r)

sep_low : (n : ℕ) → sep_of n < 48
unfolding sep_of
sep_low zero = omega arith
sep_low (suc n) = omega arith

pub numbers_back : (zs : List ℤ) (r : List ℕ) → AllShort zs → numbers (length zs) (line zs ++ r) ≡ got zs r
unfolding numbers line All ahead
numbers_back [] r h = refl
numbers_back (z ∷ zs) r h =
    rw append_assoc (then-got _ (field_back (sep_of (length zs)) z (line zs ++ r) (sep_low (length zs)) h.0) ∙ then-got _ (numbers_back zs r h.1))
