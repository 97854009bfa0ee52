-- A book and its bytes go together.
-- Assumes nothing.
use Prim.Native.Nat.{ℕ, ◌+◌, ◌*◌, ◌^◌, ◌≤◌, ◌<◌}
use native.Mathlib.Omega.{arith}
use mathlib.Core.Path.{◌≡◌, refl, sym, ap, ◌∙◌, subst}
use mathlib.Core.Bool.{true}
use mathlib.Core.Option.{Option, none, some}
use mathlib.Core.List.{List, [], ◌∷◌, ◌++◌, append_assoc}
use lib.ListN.{length, take, drop, replicate, length-append}
use lib.Seq.{drop-drop}
use Rattle.paper.specs.Procedure.{KEPT}
use Rattle.paper.specs.Books as paper
use Rattle.paper.specs.Form.{formed_o}
use Rattle.paper.proofs.Form.{parts}
use Rattle.rows.specs.Blocks.{blocks}
use Rattle.words.specs.Words.{word_in, words, digits, bytes_of}
use Rattle.rows.proofs.Elements.{each-replicate}
use Rattle.rows.proofs.Blocks.{length-blocks, blocks-add, laid-zeros}
use Rattle.rows.proofs.Sizes.{Bytes, Small}
use Rattle.words.proofs.Words.{length-bytes_of, bytes_of-words}
use Rattle.rows.proofs.Paste.{pasted-start}
use Rattle.image.specs.Layout.{TERM_WORDS, CELL_WORDS, CHANGE_WORDS}
use Rattle.image.proofs.Bounds.{small-terms, small_cells, small_changes, places-short, kept-short}
use Rattle.book.specs.declared.Book.{Book}
use Rattle.book.specs.Meaning.{book_of}
use Rattle.book.proofs.Meaning.{Sized, sized-image}
use Rattle.stored.specs.Image.{TERMS_AT, CELLS_AT, KEPT_AT, CHANGES_AT, BOOK, words_of, book_bytes, book_at}
use Rattle.stored.proofs.Stored.{Fit, read_back}

pub sized-at : (bs : List ℕ) (a : ℕ) → Sized (book_at bs a)
unfolding book_at
sized-at bs a =
    record { terms = length-blocks 8 word_in TERM_WORDS (drop (a + TERMS_AT) bs); cells = length-blocks 8 word_in CELL_WORDS (drop (a + CELLS_AT) bs); changes = length-blocks 8 word_in CHANGE_WORDS (drop (a + CHANGES_AT) bs) }

pub book-drop : (bs : List ℕ) (a : ℕ) → book_at (drop a bs) 0 ≡ book_at bs a
unfolding book_at
book-drop bs a = rw (drop-drop TERMS_AT a bs, drop-drop CELLS_AT a bs, drop-drop KEPT_AT a bs, drop-drop CHANGES_AT a bs)

-- ---- bytes to book to bytes

one : (l : List ℕ) → words 1 l ≡ word_in l ∷ []
unfolding blocks
one l = refl

-- the words of a book, and of what lies behind each part of it
abbrev behind_cells : ℕ
behind_cells = 1 + CHANGE_WORDS

abbrev behind_terms : ℕ
behind_terms = CELL_WORDS + behind_cells

abbrev WORDS : ℕ
WORDS = 1 + (TERM_WORDS + behind_terms)

words-book : (bs : List ℕ) → words_of (book_at bs 0) ≡ words WORDS bs
unfolding words_of book_at
words-book bs =
    let d₁ = next TERM_WORDS behind_terms TERMS_AT CELLS_AT refl in
    let d₂ = next CELL_WORDS behind_cells CELLS_AT KEPT_AT refl in
    let d₃ = next 1 CHANGE_WORDS KEPT_AT CHANGES_AT refl in
    sym (blocks-add 8 word_in 1 (TERM_WORDS + behind_terms) bs ∙ rw (d₁, d₂, d₃, one bs, one (drop KEPT_AT bs)) (simp append_assoc))
  where
    next : (n m at to : ℕ) → at + n * 8 ≡ to → words (n + m) (drop at bs) ≡ words n (drop at bs) ++ words m (drop to bs)
    next n m at to e = blocks-add 8 word_in n m (drop at bs) ∙ ap (λ (l : List ℕ). words n (drop at bs) ++ words m l) (drop-drop (n * 8) at bs ∙ ap (λ (k : ℕ). drop k bs) e)

pub bytes-book : (bs : List ℕ) → BOOK ≤ length bs → Bytes bs → bytes_of (words_of (book_at bs 0)) ≡ take BOOK bs
bytes-book bs h y = ap bytes_of (words-book bs) ∙ bytes_of-words WORDS bs h y

-- ---- book to bytes to book

length-image : (b : Book) → Sized b → length (bytes_of (words_of b)) ≡ BOOK
unfolding words_of
length-image b s =
    let a = s.terms in
    let d = s.cells in
    let e = s.changes in
    rw length-bytes_of (simp length-append (omega arith))

pub length-book : (o : Option paper.Book) → formed_o o ≡ true → length (book_bytes o) ≡ BOOK
length-book o e = length-image (book_of o) (sized-image o e)

zeros : (n : ℕ) → Small (replicate n 0)
zeros n = each-replicate (λ w. w < 2 ^ 64) 0 (omega arith) n

fit-image : (o : Option paper.Book) → formed_o o ≡ true → Fit (book_of o)
unfolding book_of
fit-image none e = record { opened = omega arith; terms = zeros TERM_WORDS; cells = zeros CELL_WORDS; kept = omega arith; changes = zeros CHANGE_WORDS }
fit-image (some a) e =
    let g = parts a e in
    record {
      opened = omega arith;
      terms = small-terms a.terms g.ranged;
      cells = small_cells a.places (places-short a.terms 0 a.places g.ranged g.close);
      kept = omega (arith, g.few);
      changes = small_changes KEPT a.kept (kept-short a.terms a.places a.kept g.ranged g.fit);
    }

pub book_front : (o : Option paper.Book) (l : List ℕ) → formed_o o ≡ true → book_at (book_bytes o ++ l) 0 ≡ book_of o
book_front o l e =
    subst (λ (q : List ℕ). book_at q 0 ≡ book_of o) (pasted-start (book_bytes o) (book_bytes o) l refl)
    (read_back (book_bytes o ++ l) 0 (book_of o) (sized-image o e) (fit-image o e) (omega arith))

-- ---- a closed book

pub closed-bytes : book_bytes none ≡ replicate BOOK 0
unfolding book_of words_of digits
closed-bytes = laid-zeros (digits 8) 8 WORDS 0 refl
