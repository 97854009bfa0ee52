-- The words of twelve numbers.
-- Assumes nothing.
use Rattle.std.proofs.Common.{◌≡◌, sym, ◌∙◌, ℕ, ◌<◌, arith, List, length, get_or, ℤ, pos}
use Rattle.paper.specs.Units.{terms_from, term_list}
use Rattle.rows.proofs.Elements.{elements, elements-all}
use Rattle.image.specs.Layout.{TERM_WORDS}
use Rattle.image.specs.Lengths.{word_or, term_words_or}

pub words_from : (w : List ℕ) (z : List ℤ) → length w ≡ TERM_WORDS → ((i : ℕ) → i < TERM_WORDS → get_or w i 0 ≡ word_or (get_or z i (pos 0))) → w ≡ term_words_or (terms_from z)
unfolding term_list elements
words_from w z n e =
    sym (elements-all TERM_WORDS w 0 n)
    ∙ rw (e 0 (omega arith), e 1 (omega arith), e 2 (omega arith), e 3 (omega arith), e 4 (omega arith), e 5 (omega arith), e 6 (omega arith), e 7 (omega arith), e 8 (omega arith), e 9 (omega arith), e 10 (omega arith), e 11 (omega arith))
