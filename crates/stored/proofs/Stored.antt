-- A book in a row of bytes: stored, and read back.
-- Assumes nothing.
use mathlib.Core.Path.{◌≡◌, refl, sym, ap, ◌∙◌}
use mathlib.Core.List.{List, ◌∷◌, ◌++◌, append_assoc, append-nil}
use Prim.Native.Nat.{ℕ, ◌+◌, ◌*◌, ◌^◌, ◌≤◌, ◌<◌}
use native.Mathlib.Omega.{arith}
use lib.ListN.{length, take, drop, length-append}
use Rattle.rows.specs.Blocks.{laid}
use Rattle.words.specs.Words.{le, digits, words, bytes_of}
use Rattle.rows.specs.Paste.{pasted}
use Rattle.rows.proofs.Blocks.{laid-append}
use Rattle.rows.proofs.Sizes.{Small}
use Rattle.words.proofs.Words.{length_digits, length-bytes_of, words_front, word_front}
use Rattle.rows.proofs.Paste.{pasted-then, drop-pasted, next-drop}
use Rattle.image.specs.Layout.{TERM_WORDS, CELL_WORDS, CHANGE_WORDS}
use Rattle.book.specs.declared.Book.{Book}
use Rattle.book.proofs.Meaning.{Sized}
use Rattle.stored.specs.Image.{TERMS_AT, CELLS_AT, KEPT_AT, CHANGES_AT, BOOK, words_of, book_at}

-- ---- what the code loads and stores

pub book-eq : (bs : List ℕ) (a : ℕ) (o : ℕ) (t ce : List ℕ) (k : ℕ) (ch : List ℕ)
    → o ≡ le (take 8 (drop a bs))
    → t ≡ words TERM_WORDS (drop (a + TERMS_AT) bs)
    → ce ≡ words CELL_WORDS (drop (a + CELLS_AT) bs)
    → k ≡ le (take 8 (drop (a + KEPT_AT) bs))
    → ch ≡ words CHANGE_WORDS (drop (a + CHANGES_AT) bs)
    → ◌≡◌ {A = Book} (record { opened = o; terms = t; cells = ce; kept = k; changes = ch }) (book_at bs a)
unfolding book_at
book-eq bs a o t ce k ch e₀ e₁ e₂ e₃ e₄ = cc

pub both_stored : (r r₁ r₂ : List ℕ) (a w : ℕ) (ws : List ℕ) → a + 8 + 8 * length ws ≤ length r
    → r₁ ≡ pasted r a (digits 8 w)
    → r₂ ≡ pasted r₁ (a + 8) (bytes_of ws)
    → r₂ ≡ pasted r a (bytes_of (w ∷ ws))
unfolding laid
both_stored r r₁ r₂ a w ws h e₁ e₂ =
    let n = length_digits 8 w in
    let m = length-bytes_of ws in
    (rw e₁ at e₂) ∙ pasted-then r a (digits 8 w) (a + 8) (bytes_of ws) (omega arith) (omega arith)

book-bytes : (b : Book) → bytes_of (b.opened ∷ b.terms) ++ bytes_of b.cells ++ bytes_of (b.kept ∷ b.changes) ≡ bytes_of (words_of b)
unfolding words_of laid
book-bytes b = simp (laid-append, append_assoc, append-nil)

pub stored : (r r₁ r₂ r₃ : List ℕ) (a : ℕ) (b : Book) → Sized b → a + BOOK ≤ length r
    → r₁ ≡ pasted r a (bytes_of (b.opened ∷ b.terms))
    → r₂ ≡ pasted r₁ (a + CELLS_AT) (bytes_of b.cells)
    → r₃ ≡ pasted r₂ (a + KEPT_AT) (bytes_of (b.kept ∷ b.changes))
    → r₃ ≡ pasted r a (bytes_of (words_of b))
stored r r₁ r₂ r₃ a b s h e₁ e₂ e₃ =
    let n₁ = length-bytes_of (b.opened ∷ b.terms) in
    let n₂ = length-bytes_of b.cells in
    let n₃ = length-bytes_of (b.kept ∷ b.changes) in
    let x₁ = bytes_of (b.opened ∷ b.terms) in
    let x₂ = x₁ ++ bytes_of b.cells in
    let l₂ = length-append x₁ (bytes_of b.cells) in
    let f₂ : r₂ ≡ pasted r a x₂ = (rw e₁ at e₂) ∙ pasted-then r a _ (a + CELLS_AT) _ (omega arith) (omega arith) in
    (rw f₂ at e₃) ∙ pasted-then r a _ (a + KEPT_AT) _ (omega arith) (omega arith) ∙ ap (pasted r a) (book-bytes b)

-- each word of a book is a word
pub record Fit (b : Book) : Type 0 where
  pub opened : b.opened < 2 ^ 64
  pub terms : Small b.terms
  pub cells : Small b.cells
  pub kept : b.kept < 2 ^ 64
  pub changes : Small b.changes

-- what is stored is read back
pub read_back : (r : List ℕ) (a : ℕ) (b : Book) → Sized b → Fit b → a ≤ length r
    → book_at (pasted r a (bytes_of (words_of b))) a ≡ b
unfolding laid
read_back r a b s f h =
    let x = bytes_of (words_of b) in
    let q = pasted r a x in
    let z = drop (a + length x) r in
    let n₀ = length_digits 8 b.opened in
    let n₁ = length-bytes_of b.terms in
    let n₂ = length-bytes_of b.cells in
    let n₃ = length_digits 8 b.kept in
    let z₃ = bytes_of b.changes ++ z in
    let z₂ = digits 8 b.kept ++ z₃ in
    let z₁ = bytes_of b.cells ++ z₂ in
    let z₀ = bytes_of b.terms ++ z₁ in
    let d₀ : drop a q ≡ digits 8 b.opened ++ z₀ =
    drop-pasted r a x h ∙ ap (λ (l : List ℕ). l ++ z) (sym (book-bytes b)) ∙ simp append_assoc in
    let d₁ : drop (a + TERMS_AT) q ≡ z₀ = next-drop q (digits 8 b.opened) z₀ a 8 (a + TERMS_AT) d₀ n₀ refl in
    let d₂ : drop (a + CELLS_AT) q ≡ z₁ = next-drop q (bytes_of b.terms) z₁ (a + TERMS_AT) (8 * TERM_WORDS) (a + CELLS_AT) d₁ (omega arith) (omega arith) in
    let d₃ : drop (a + KEPT_AT) q ≡ z₂ = next-drop q (bytes_of b.cells) z₂ (a + CELLS_AT) (8 * CELL_WORDS) (a + KEPT_AT) d₂ (omega arith) (omega arith) in
    let d₄ : drop (a + CHANGES_AT) q ≡ z₃ = next-drop q (digits 8 b.kept) z₃ (a + KEPT_AT) 8 (a + CHANGES_AT) d₃ n₃ (omega arith) in
    sym
    (book-eq q a b.opened b.terms b.cells b.kept b.changes
    (rw d₀ (sym (word_front b.opened z₀ f.opened)))
    (rw (d₁, ← s.terms) (sym (words_front b.terms z₁ f.terms)))
    (rw (d₂, ← s.cells) (sym (words_front b.cells z₂ f.cells)))
    (rw d₃ (sym (word_front b.kept z₃ f.kept)))
    (rw (d₄, ← s.changes) (sym (words_front b.changes z f.changes))))
