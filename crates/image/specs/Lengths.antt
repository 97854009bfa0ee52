-- A length as one word: the length + 10^12; 0 stands for no length. The terms of a book as twelve words.
use Rattle.std.specs.Prelude.{ℕ, ◌+◌, ◌-◌, cond, List, map, get_or, ltb, ℤ, nat_abs}
use Rattle.std.proofs.Math.IntN.{sub_ℕ}
use Rattle.integers.specs.Diff.{bias}
use Rattle.paper.specs.Units.{Triple, coordinates, Terms, terms_by, term_list}

-- the word of the length 0
abbrev pub ORIGIN : ℕ
ORIGIN = 1000000000000

-- the greatest length that has a word
abbrev pub GREATEST : ℕ
GREATEST = ORIGIN - 1

-- the length that a word stands for
unfoldable pub len : ℕ → ℤ
len w = sub_ℕ w ORIGIN

-- the word of a length
unfoldable pub word : ℤ → ℕ
word z = bias ORIGIN z

-- the word of a number of any size: 0 where it is no length
unfoldable pub word_or : ℤ → ℕ
word_or z = cond (ltb (nat_abs z) ORIGIN) (word z) 0

-- ---- x, y, h together

abbrev pub triple : ℕ → ℕ → ℕ → Triple
triple x y h = record { x = len x; y = len y; h = len h }

unfoldable pub triple_at : List ℕ → ℕ → Triple
triple_at l m = triple (get_or l m 0) (get_or l (m + 1) 0) (get_or l (m + 2) 0)

abbrev pub triple_words : Triple → List ℕ
triple_words v = map word (coordinates v)

-- ---- the twelve terms

unfoldable pub terms_of : List ℕ → Terms
terms_of t = terms_by (λ i. len (get_or t i 0))

abbrev pub term_words : Terms → List ℕ
term_words t = map word (term_list t)

-- the same of numbers of any size
abbrev pub term_words_or : Terms → List ℕ
term_words_or t = map word_or (term_list t)
