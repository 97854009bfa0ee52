-- A list by its elements.
-- Assumes nothing.
use Prim.Native.Nat.{ℕ, zero, suc, ◌+◌, ◌≤◌, ◌<◌}
use native.Mathlib.Omega.{arith}
use mathlib.Core.Path.{◌≡◌, refl, sym, ◌∙◌}
use mathlib.Core.Bool.{Bool, true, false, ◌&&◌, and_assoc}
use mathlib.Core.List.{List, [], ◌∷◌, ◌++◌, map}
use lib.ListN.{length, take, drop, get_or, replicate}
use lib.Seq.{drop-cons, take_all}
use Rattle.rows.specs.Lists.{All, all?}

-- n elements from i on
unfoldable pub elements : {A : Type 0} → (i n : ℕ) → List A → A → List A
elements i zero l d = []
elements i (suc n) l d = get_or l i d ∷ elements (suc i) n l d

pub elements-take : {A : Type 0} (i n : ℕ) (l : List A) (d : A) → i + n ≤ length l → elements i n l d ≡ take n (drop i l)
unfolding elements
elements-take i zero l d h = refl
elements-take i (suc n) l d h = rw (drop-cons l i d (omega arith), elements-take (suc i) n l d (omega arith))

pub elements-all : {A : Type 0} (n : ℕ) (l : List A) (d : A) → length l ≡ n → elements 0 n l d ≡ l
elements-all n l d e = elements-take 0 n l d (omega arith) ∙ take_all n l (omega arith)

-- two facts as one
pub also : {A B : Type 0} → A → B → A × B
also a b = (a, b)

-- ---- told of each element, one by one

module _ {A : Type 0} (P : A → Type 0) where
  pub all_split : (xs ys : List A) → All P (xs ++ ys) → All P xs × All P ys
  unfolding All
  all_split [] ys h = (tt, h)
  all_split (x ∷ xs) ys h = let i = all_split xs ys h.1 in ((h.0, i.0), i.1)

  pub all_join : (xs ys : List A) → All P xs → All P ys → All P (xs ++ ys)
  unfolding All
  all_join [] ys h k = k
  all_join (x ∷ xs) ys h k = (h.0, all_join xs ys h.1 k)

module _ {A : Type 0} (p : A → Bool) where
  pub tests_append : (xs ys : List A) → all? p (xs ++ ys) ≡ all? p xs && all? p ys
  unfolding all?
  tests_append [] ys = refl
  tests_append (x ∷ xs) ys = rw (tests_append xs ys) (sym (and_assoc (p x) (all? p xs) (all? p ys)))

  pub test_at : (l : List A) (k : ℕ) (d : A) → all? p l ≡ true → k < length l → p (get_or l k d) ≡ true
  unfolding all?
  test_at [] k d e h = absurd (omega arith)
  test_at (x ∷ l) zero d e h = go (p x) e
    where
      go : (b : Bool) → b && all? p l ≡ true → b ≡ true
      go true e = refl
      go false e = e
  test_at (x ∷ l) (suc k) d e h = go (p x) (λ e. test_at l k d e (omega arith)) e
    where
      go : (b : Bool) → (all? p l ≡ true → p (get_or l k d) ≡ true) → b && all? p l ≡ true → p (get_or l k d) ≡ true
      go true f e = f e
      go false f e = let z : ◌≡◌ {A = ℕ} 0 1 = cc in absurd (omega arith)

-- ---- what holds of each element, and of the one that stands for none

module _ {A : Type 0} (P : A → Type 0) (d : A) where
  abbrev pub Each : List A → Type 0
  Each l = (i : ℕ) → P (get_or l i d)

  pub all-each : P d → (l : List A) → All P l → Each l
  unfolding All
  all-each h [] a i = h
  all-each h (x ∷ l) a zero = a.0
  all-each h (x ∷ l) a (suc i) = all-each h l a.1 i

  pub each-cons : (x : A) (l : List A) → P x → Each l → Each (x ∷ l)
  each-cons x l h f zero = h
  each-cons x l h f (suc i) = f i

  pub each_append : (xs ys : List A) → Each xs → Each ys → Each (xs ++ ys)
  each_append [] ys f g = g
  each_append (x ∷ xs) ys f g = each-cons x (xs ++ ys) (f 0) (each_append xs ys (λ i. f (suc i)) g)

  pub each-replicate : P d → (n : ℕ) → Each (replicate n d)
  each-replicate h zero = λ i. h
  each-replicate h (suc n) = each-cons d (replicate n d) h (each-replicate h n)

  pub each_map : {B : Type 0} (Q : B → Type 0) (e : B) (f : B → A) → P d → ((b : B) → Q b → P (f b)) → (l : List B) → ((i : ℕ) → Q (get_or l i e)) → Each (map f l)
  each_map Q e f h g [] q = λ i. h
  each_map Q e f h g (b ∷ l) q = each-cons (f b) (map f l) (g b (q 0)) (each_map Q e f h g l (λ i. q (suc i)))
