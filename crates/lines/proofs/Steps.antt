-- The reader of fixed strings and of lines, step by step.
-- Assumes nothing.
use Rattle.std.proofs.Common.{◌≡◌, ℕ, suc, ◌+◌, ◌-◌, ◌<◌, cond, eqb, List, [], ◌∷◌, ◌++◌, map, length, take, drop, set, Option, Some, None, option_map, refl, sym, ap, ◌∙◌, append_assoc, append-nil, arith}
use Rattle.std.proofs.lemmas.List.{take_more_set}
use Rattle.std.specs.Cmp.Lexicographic.{pointwise}
use Rattle.image.specs.Lengths.{word}
use Rattle.decimals.specs.Numbers.{sep_of}
use Rattle.decimals.specs.Reader.{fixed, field, numbers, then, ahead}
use Rattle.decimals.specs.Given.{read_as, rest_of}
use Rattle.decimals.proofs.Steps.{reading}

-- a fixed string is a prefix
pub fixed_prefix : (w s : List ℕ) → rest_of (fixed w s) ≡ cond (pointwise eqb (take (length w) s) w) (Some (drop (length w) s)) None
unfolding fixed
fixed_prefix [] s = refl
fixed_prefix (a ∷ w) [] = refl
fixed_prefix (a ∷ w) (b ∷ s) = grind (arith, reading, fixed_prefix w s)

-- ---- a line of numbers, as words

-- what was read before goes in front
abbrev pub after : {V : Type 0} → List V → Option (List V × List ℕ) → Option (List V × List ℕ)
after ws r = option_map (λ p. (ws ++ p.0, p.1)) r

pub after_twice : {V : Type 0} (xs ys : List V) (r : Option (List V × List ℕ)) → after xs (after ys r) ≡ after (xs ++ ys) r
after_twice xs ys None = refl
after_twice xs ys (Some p) = rw append_assoc

-- the words of a line of n numbers, and the text that is left
abbrev pub words_of : ℕ → List ℕ → Option (List ℕ × List ℕ)
words_of n l = read_as (map word) (numbers n l)

words_bad : (n : ℕ) (l : List ℕ) → None ≡ read_as word (field (sep_of n) l) → words_of (suc n) l ≡ None
unfolding numbers then ahead
words_bad n l e = grind (arith, reading)

words_on : (n z : ℕ) (l r : List ℕ) → Some (z, r) ≡ read_as word (field (sep_of n) l) → words_of (suc n) l ≡ after (z ∷ []) (words_of n r)
unfolding numbers then ahead
words_on n z l r e = grind (arith, reading)

pub words_end : (n k : ℕ) (l ws : List ℕ) → n ≡ k → length ws ≡ n → Some (ws, l) ≡ after (take k ws) (words_of (n - k) l)
unfolding numbers
words_end n k l ws e h = let z : n - k ≡ 0 = omega arith in let t : take k ws ≡ ws = grind (arith, reading) in rw (z, t, append-nil)

-- after k of n numbers, what stands in the words
module _ (n k : ℕ) (s l ws : List ℕ) (p : k < n) (so_far : words_of n s ≡ after (take k ws) (words_of (n - k) l)) (sep : ℕ) (is : sep ≡ sep_of (n - k - 1)) where
  room : n - k ≡ suc (n - k - 1)
  room = omega arith

  pub line_bad : None ≡ read_as word (field sep l) → None ≡ words_of n s
  line_bad e = sym (so_far ∙ rw (room, words_bad (n - k - 1) l (rw (← is) e)))

  pub line_on : (z : ℕ) (r : List ℕ) → Some (z, r) ≡ read_as word (field sep l) → length ws ≡ n
      → words_of n s ≡ after (take (k + 1) (set ws k z)) (words_of (n - (k + 1)) r)
  line_on z r e h =
      let f : n - (k + 1) ≡ n - k - 1 = omega arith in
      let on : words_of (n - k) l ≡ after (z ∷ []) (words_of (n - k - 1) r) = ap (λ m. words_of m l) room ∙ words_on (n - k - 1) z l r (rw (← is) e) in
      let put : take (k + 1) (set ws k z) ≡ take k ws ++ z ∷ [] = take_more_set ws k z (omega arith) in
      so_far ∙ (ap (after (take k ws)) on ∙ (after_twice (take k ws) (z ∷ []) (words_of (n - k - 1) r) ∙ rw (f, put)))
