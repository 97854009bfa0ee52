-- Laws of lengths and words.
-- Assumes nothing.
use Prim.Native.Nat.{ℕ, zero, suc, ◌+◌, ◌-◌, ◌*◌, ◌^◌, ◌≤◌, ◌<◌}
use native.Mathlib.Omega.{arith}
use mathlib.Core.Path.{◌≡◌, refl, sym, ap, ◌∙◌}
use mathlib.Core.Logic.{⊎_elim}
use mathlib.Core.List.{List, [], ◌∷◌, map}
use lib.ListN.{length, get_or}
use lib.IntN.{ℤ, pos, negsuc, nat_abs, ◌-ℤ◌, sub_ℕ}
use mir.Syntax.{w64}
use mir.Val.{to_z, of_z, SFits}
use mir.ValLaws.{to_z-of_z}
use borrow.Author.Tests.{lt-ltb, le-ltb}
use Rattle.paper.specs.Procedure.{NEARBY}
use Rattle.rows.proofs.Elements.{elements, elements-all}
use Rattle.integers.specs.Ring.{minus_minus}
use Rattle.integers.specs.Diff.{bias_back, bias-le, minus-sub, sub-ge, sub-lt, sub-eq, ≤-or-<}
use Rattle.paper.specs.Units.{Terms, terms_given, term_list, approximate}
use Rattle.paper.specs.Figures.{along}
use Rattle.image.specs.Layout.{TERM_WORDS}
use Rattle.image.specs.Lengths.{ORIGIN, GREATEST, len, word, word_or, triple_at, terms_of, term_words, term_words_or}
use Rattle.image.specs.Places.{axis_of}

-- ---- both ways

pub word_len : (w : ℕ) → word (len w) ≡ w
unfolding word len
word_len w =
    ⊎_elim
    (λ (h : ORIGIN ≤ w). rw (sub-ge w ORIGIN h) (omega arith))
    (λ (h : w < ORIGIN). rw (sub-lt w ORIGIN h) (omega arith))
    (≤-or-< w ORIGIN)

pub len_word : (z : ℤ) → nat_abs z ≤ ORIGIN → len (word z) ≡ z
unfolding word len
len_word z h = sym (bias_back ORIGIN z h)

pub word-not-zero : (z : ℤ) → nat_abs z < ORIGIN → word z ≡ 0 → ⊥
unfolding word
word-not-zero (pos n) h e = omega arith
word-not-zero (negsuc n) h e = omega arith

pub word_small : (z : ℤ) → nat_abs z ≤ ORIGIN → word z < 2 ^ 64
unfolding word
word_small z h = omega (arith, bias-le ORIGIN ORIGIN z h)

-- a word whose length is short is below 2·10^12
pub len_bound : (w : ℕ) → nat_abs (len w) < ORIGIN → w < 2 * ORIGIN
unfolding word
len_bound w h = omega (arith, word_len w, bias-le ORIGIN GREATEST (len w) (omega arith))

-- ---- a number of any size

pub word_or-word : (x : ℤ) → nat_abs x < ORIGIN → word_or x ≡ word x
unfolding word_or
word_or-word x h = rw (lt-ltb _ _ h)

pub word_or-far : (x : ℤ) → ORIGIN ≤ nat_abs x → word_or x ≡ 0
unfolding word_or
word_or-far x h = rw (le-ltb _ _ h)

-- a test that no number of 10^12 or more passes is the same of a number and of its word
pub of_word : {A : Type 0} (f : ℤ → A) (nil : A) → ((z : ℤ) → ORIGIN ≤ nat_abs z → f z ≡ nil) → (x : ℤ) → f (len (word_or x)) ≡ f x
unfolding len
of_word f nil far x =
    ⊎_elim
    (λ (k : ORIGIN ≤ nat_abs x). rw (word_or-far x k) (far (len 0) (omega (arith, zero-len)) ∙ sym (far x k)))
    (λ (k : nat_abs x < ORIGIN). rw (word_or-word x k, len_word x (omega arith)))
    (≤-or-< (nat_abs x) ORIGIN)
  where
    zero-len : nat_abs (len 0) ≡ ORIGIN
    zero-len = refl

-- ---- differences

pub len-minus : (a b : ℕ) → len a -ℤ len b ≡ sub_ℕ a b
unfolding len
len-minus a b =
    rw (← minus-sub a ORIGIN, ← minus-sub b ORIGIN)
    (minus_minus (pos a) (pos b) (pos ORIGIN) ∙ minus-sub a b)

pub len_up : (n : ℕ) → len (n + ORIGIN) ≡ pos n
unfolding len
len_up n = sub-ge (n + ORIGIN) ORIGIN (omega arith) ∙ ap pos (omega arith)

pub len_pos : (w : ℕ) → ORIGIN ≤ w → len w ≡ pos (w - ORIGIN)
unfolding len
len_pos w h = sub-ge w ORIGIN h

-- a difference of two lengths is the length of a word
pub len_difference : (a b : ℕ) → b ≤ a + ORIGIN → len (a + ORIGIN - b) ≡ len a -ℤ len b
unfolding len
len_difference a b h = sub-eq (a + ORIGIN - b) ORIGIN a b (omega arith) ∙ sym (len-minus a b)

-- an offset, kept as a number from 0 to 200,000
pub len-offset : (z Z : ℕ) → Z ≤ z + NEARBY → len z -ℤ len Z ≡ pos (z + NEARBY - Z) -ℤ pos NEARBY
len-offset z Z h = len-minus z Z ∙ sub-eq z Z (z + NEARBY - Z) NEARBY (omega arith) ∙ sym (minus-sub (z + NEARBY - Z) NEARBY)

-- ---- x, y, h together, and the terms

pub along-at : (l : List ℕ) (m a : ℕ) → a < 3 → along (axis_of a) (triple_at l m) ≡ len (get_or l (m + a) 0)
unfolding triple_at
along-at l m zero h = ap (λ (k : ℕ). len (get_or l k 0)) (omega arith)
along-at l m (suc zero) h = refl
along-at l m (suc (suc zero)) h = refl
along-at l m (suc (suc (suc a))) h = absurd (omega arith)

pub point_at : (t : List ℕ) (k : ℕ) → 1 ≤ k → k ≤ 2 → approximate (terms_of t) k ≡ triple_at t (6 + (k - 1) * 3)
unfolding terms_of triple_at
point_at t zero h g = absurd (omega arith)
point_at t (suc zero) h g = refl
point_at t (suc (suc zero)) h g = refl
point_at t (suc (suc (suc k))) h g = absurd (omega arith)

pub length-terms : (t : Terms) → length (term_list t) ≡ TERM_WORDS
unfolding term_list
length-terms t = refl

-- words to terms to words, whatever the words
pub words-terms : (t : List ℕ) → length t ≡ TERM_WORDS → term_words (terms_of t) ≡ t
unfolding term_list terms_of elements
words-terms t n = simp word_len (elements-all TERM_WORDS t 0 n)

-- no term is too great to be a length
abbrev pub ShortTerms : Terms → Type 0
ShortTerms t = (i : ℕ) → nat_abs (get_or (term_list t) i (pos 0)) < ORIGIN

-- terms to words to terms
pub terms-words : (t : Terms) → ShortTerms t → terms_of (term_words t) ≡ t
unfolding terms_of term_list
terms-words t s = rw (
  back t.distance (s 0),
  back t.height (s 1),
  back t.screen_xy (s 2),
  back t.screen_h (s 3),
  back t.sigma_xy (s 4),
  back t.sigma_h (s 5),
  back t.point1.x (s 6),
  back t.point1.y (s 7),
  back t.point1.h (s 8),
  back t.point2.x (s 9),
  back t.point2.y (s 10),
  back t.point2.h (s 11),
)
  where
    back : (z : ℤ) → nat_abs z < ORIGIN → len (word z) ≡ z
    back z h = len_word z (omega arith)

words-or : (zs : List ℤ) → ((i : ℕ) → nat_abs (get_or zs i (pos 0)) < ORIGIN) → map word_or zs ≡ map word zs
words-or [] s = refl
words-or (z ∷ zs) s = rw (word_or-word z (s 0), words-or zs (λ i. s (suc i)))

pub terms-words-or : (t : Terms) → ShortTerms t → terms_of (term_words_or t) ≡ t
terms-words-or t s = rw (words-or (term_list t) s) (terms-words t s)

-- twelve words of twelve numbers
pub twelve_words : (a b c d e f g h i j k l : ℕ) (a' b' c' d' e' f' g' h' i' j' k' l' : ℤ)
    → a ≡ word_or a'
    → b ≡ word_or b'
    → c ≡ word_or c'
    → d ≡ word_or d'
    → e ≡ word_or e'
    → f ≡ word_or f'
    → g ≡ word_or g'
    → h ≡ word_or h'
    → i ≡ word_or i'
    → j ≡ word_or j'
    → k ≡ word_or k'
    → l ≡ word_or l'
    → a ∷ b ∷ c ∷ d ∷ e ∷ f ∷ g ∷ h ∷ i ∷ j ∷ k ∷ l ∷ [] ≡ term_words_or (terms_given a' b' c' d' e' f' g' h' i' j' k' l')
unfolding term_list
twelve_words a b c d e f g h i j k l a' b' c' d' e' f' g' h' i' j' k' l' ea eb ec ed ee ef eg eh ei ej ek el = rw (ea, eb, ec, ed, ee, ef, eg, eh, ei, ej, ek, el)
