-- Laws of rows in blocks.
-- Assumes nothing.
use mathlib.Core.Path.{◌≡◌, refl, sym, ap, ◌∙◌}
use mathlib.Core.Bool.{Bool, true}
use mathlib.Core.List.{List, [], ◌∷◌, ◌++◌, append_assoc}
use Prim.Native.Nat.{ℕ, zero, suc, ◌+◌, ◌-◌, ◌*◌, ◌≤◌, ◌<◌}
use native.Mathlib.Omega.{arith}
use native.Mathlib.Nat.{zero-add, suc-add, zero-mul, suc-mul}
use lib.ListN.{set, length, take, drop, get_or, replicate, length-append, replicate-append-replicate}
use lib.Seq.{drop-drop, take-add, drop_at}
use Rattle.std.specs.List.{list_all, range_with_len}
use Rattle.std.specs.Simd.{first_chunks}
use Rattle.rows.specs.Lists.{all?}
use Rattle.rows.specs.Blocks.{blocks, laid}
use Rattle.rows.specs.Paste.{pasted}
use Rattle.rows.proofs.Elements.{Each, each_append}
use Rattle.rows.proofs.Paste.{pasted-start, pasted-after}

-- ---- a row in blocks

module _ {A : Type 0} (w : ℕ) (f : List ℕ → A) where
  pub length-blocks : (n : ℕ) (l : List ℕ) → length (blocks w f n l) ≡ n
  unfolding blocks
  length-blocks zero l = refl
  length-blocks (suc n) l = ap suc (length-blocks n (drop w l))

  pub blocks-add : (n m : ℕ) (l : List ℕ) → blocks w f (n + m) l ≡ blocks w f n l ++ blocks w f m (drop (n * w) l)
  unfolding blocks
  blocks-add zero m l = rw (zero-add, zero-mul w)
  blocks-add (suc n) m l =
      let e : w + n * w ≡ suc n * w = omega (arith, suc-mul n w) in
      rw (suc-add, blocks-add n m (drop w l), drop-drop (n * w) w l, e)

  pub block_at : (n : ℕ) (l : List ℕ) (k : ℕ) (d : A) → k < n → get_or (blocks w f n l) k d ≡ f (drop (k * w) l)
  unfolding blocks
  block_at zero l k d h = absurd (omega arith)
  block_at (suc n) l zero d h = rw (zero-mul w)
  block_at (suc n) l (suc k) d h =
      let e : w + k * w ≡ suc k * w = omega (arith, suc-mul k w) in
      block_at n (drop w l) k d (omega arith) ∙ rw (drop-drop (k * w) w l, e)

  -- the blocks from k on: a turn of a loop over them, and its end
  pub blocks_turn : (n k : ℕ) (l : List ℕ) → k < n
      → blocks w f (n - k) (drop (k * w) l) ≡ f (drop (k * w) l) ∷ blocks w f (n - (k + 1)) (drop ((k + 1) * w) l)
  unfolding blocks
  blocks_turn n k l h =
      let e : n - k ≡ suc (n - (k + 1)) = omega arith in
      let s : k + 1 ≡ suc k = omega arith in
      let m : k * w + w ≡ (k + 1) * w = rw s (omega (arith, suc-mul k w)) in
      rw (e, drop-drop w (k * w) l, m)

  pub blocks_over : (n k : ℕ) (l : List ℕ) → n ≤ k → blocks w f (n - k) l ≡ []
  unfolding blocks
  blocks_over n k l h = let e : n - k ≡ 0 = omega arith in rw e

  pub tests_blocks : (p : A → Bool) (n : ℕ) (l : List ℕ) → ((k : ℕ) → k < n → p (f (drop (k * w) l)) ≡ true) → all? p (blocks w f n l) ≡ true
  unfolding blocks all?
  tests_blocks p zero l h = refl
  tests_blocks p (suc n) l h = rw (first, tests_blocks p n (drop w l) rest)
    where
      first : p (f l) ≡ true
      first = rw (zero-mul w) at (h 0 (omega arith))

      rest : (k : ℕ) → k < n → p (f (drop (k * w) (drop w l))) ≡ true
      rest k m =
          let e : suc k * w ≡ w + k * w = omega (arith, suc-mul k w) in
          rw (drop-drop (k * w) w l) (rw e at (h (suc k) (omega arith)))

  -- the same test, made of each block by its number
  pub tests_by : (p : A → Bool) (n k : ℕ) (l : List ℕ) → list_all (λ i. p (f (drop (i * w) l))) (range_with_len k n) ≡ all? p (blocks w f n (drop (k * w) l))
  unfolding blocks all?
  tests_by p zero k l = refl
  tests_by p (suc n) k l =
      let s : k + 1 ≡ suc k = omega arith in
      let e : k * w + w ≡ (k + 1) * w = rw s (omega (arith, suc-mul k w)) in
      rw (tests_by p n (k + 1) l, drop-drop w (k * w) l, e)

-- std's chunks are blocks
pub chunks_blocks : (w n : ℕ) (l : List ℕ) → first_chunks w n l ≡ blocks w (take w) n l
unfolding blocks
chunks_blocks w zero l = refl
chunks_blocks w (suc n) l = ap (λ (r : List (List ℕ)). take w l ∷ r) (chunks_blocks w n (drop w l))

-- ---- things laid one after another

module _ {A : Type 0} (g : A → List ℕ) where
  pub laid-append : (xs ys : List A) → laid g (xs ++ ys) ≡ laid g xs ++ laid g ys
  unfolding laid
  laid-append [] ys = refl
  laid-append (x ∷ xs) ys = rw (laid-append xs ys, append_assoc)

  pub laid-zeros : (w n : ℕ) (x : A) → g x ≡ replicate w 0 → laid g (replicate n x) ≡ replicate (n * w) 0
  unfolding laid
  laid-zeros w zero x e = rw (zero-mul w)
  laid-zeros w (suc n) x e =
      let m : w + n * w ≡ suc n * w = omega (arith, suc-mul n w) in
      rw (e, laid-zeros w n x e, replicate-append-replicate {A = ℕ} w (n * w) 0, m)

  -- what holds of the row of each of them holds of the whole row
  pub each_laid : (P : ℕ → Type 0) (d : A) → P 0 → (xs : List A) → ((k : ℕ) → Each P 0 (g (get_or xs k d))) → Each P 0 (laid g xs)
  unfolding laid
  each_laid P d h [] f = λ i. h
  each_laid P d h (x ∷ xs) f = each_append P 0 (g x) (laid g xs) (f 0) (each_laid P d h xs (λ k. f (suc k)))

-- where each of them has the same width
module _ {A : Type 0} (w : ℕ) (g : A → List ℕ) (d : A) where
  abbrev pub Wide : List A → Type 0
  Wide xs = (i : ℕ) → length (g (get_or xs i d)) ≡ w

  pub length-laid : (xs : List A) → Wide xs → length (laid g xs) ≡ length xs * w
  unfolding laid
  length-laid [] h = sym (zero-mul w)
  length-laid (x ∷ xs) h = rw (length-append, h 0, length-laid xs (λ i. h (suc i))) (omega (arith, suc-mul (length xs) w))

  pub laid_from : (xs : List A) (k : ℕ) → k < length xs → Wide xs → drop (k * w) (laid g xs) ≡ g (get_or xs k d) ++ laid g (drop (suc k) xs)
  unfolding laid
  laid_from [] k h s = absurd (omega arith)
  laid_from (x ∷ xs) zero h s = rw (zero-mul w)
  laid_from (x ∷ xs) (suc k) h s =
      let e : suc k * w ≡ w + k * w = omega (arith, suc-mul k w) in
      rw (e, ← drop-drop (k * w) w (g x ++ laid g xs), drop_at (g x) (laid g xs) w (s 0))
      (laid_from xs k (omega arith) (λ i. s (suc i)))

  -- one put among them, and its row pasted in
  pub laid-set : (xs : List A) (k : ℕ) (x : A) → k < length xs → Wide xs → length (g x) ≡ w
      → laid g (set xs k x) ≡ pasted (laid g xs) (k * w) (g x)
  unfolding laid
  laid-set [] k x h s n = absurd (omega arith)
  laid-set (y ∷ xs) zero x h s n = rw (zero-mul w) (sym (pasted-start (g y) (g x) (laid g xs) (s 0 ∙ sym n)))
  laid-set (y ∷ xs) (suc k) x h s n =
      let e : suc k * w ≡ length (g y) + k * w = omega (arith, suc-mul k w, s 0) in
      rw (laid-set xs k x (omega arith) (λ i. s (suc i)) n, e) (sym (pasted-after (g y) (laid g xs) (k * w) (g x)))

  -- ---- both ways

  module _ (f : List ℕ → A) where
    -- each is read where it was laid
    pub blocks-laid : (xs : List A) (z : List ℕ) → Wide xs → ((i : ℕ) (l : List ℕ) → f (g (get_or xs i d) ++ l) ≡ get_or xs i d)
        → blocks w f (length xs) (laid g xs ++ z) ≡ xs
    unfolding blocks laid
    blocks-laid [] z s r = refl
    blocks-laid (x ∷ xs) z s r =
        rw (append_assoc (g x) (laid g xs) z, r 0 (laid g xs ++ z), drop_at (g x) (laid g xs ++ z) w (s 0))
        (ap (λ (l : List A). x ∷ l) (blocks-laid xs z (λ i. s (suc i)) (λ i. r (suc i))))

    -- a row each of whose blocks is that of the thing read from it
    pub laid-blocks : (n : ℕ) (l : List ℕ) → ((k : ℕ) → k < n → g (f (drop (k * w) l)) ≡ take w (drop (k * w) l))
        → laid g (blocks w f n l) ≡ take (n * w) l
    unfolding blocks laid
    laid-blocks zero l h = rw (zero-mul w)
    laid-blocks (suc n) l h =
        let e : w + n * w ≡ suc n * w = omega (arith, suc-mul n w) in
        rw (first, laid-blocks n (drop w l) rest, ← take-add w (n * w) l, e)
      where
        first : g (f l) ≡ take w l
        first = rw (zero-mul w) at (h 0 (omega arith))

        rest : (k : ℕ) → k < n → g (f (drop (k * w) (drop w l))) ≡ take w (drop (k * w) (drop w l))
        rest k m =
            let e : suc k * w ≡ w + k * w = omega (arith, suc-mul k w) in
            rw (drop-drop (k * w) w l) (rw e at (h (suc k) (omega arith)))
