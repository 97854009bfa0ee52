-- Bytes and registers go together: one state, one image.
-- Assumes nothing.
use Prim.Native.Nat.{ℕ, zero, suc, ◌+◌, ◌-◌, ◌*◌, ◌≤◌, ◌<◌}
use native.Mathlib.Omega.{arith}
use mathlib.Core.Path.{◌≡◌, refl, sym, ap, ◌∙◌, subst}
use mathlib.Core.Logic.{⊎_elim}
use mathlib.Core.Bool.{Bool, true, false, cond, ◌&&◌}
use mathlib.Core.Option.{Option, none, some}
use mathlib.Core.List.{List, [], append-nil}
use lib.ListN.{length, get_or, set, take, drop, replicate, length-drop, get_or-eq_default}
use lib.Seq.{take_all}
use lib.Dec.{eqb}
use borrow.Author.Tests.{eq-eqb, ne_eqb, eqb-true}
use Rattle.paper.specs.Procedure.{BOOKS}
use Rattle.paper.specs.Books as paper
use Rattle.paper.specs.Form.{formed_o, InForm}
use Rattle.integers.specs.Diff.{≤-or-<}
use Rattle.paper.proofs.Tests.{and_left, and_right}
use Rattle.std.specs.List.{list_all, range_with_len}
use Rattle.rows.specs.Lists.{all?}
use Rattle.rows.specs.Blocks.{blocks, laid}
use Rattle.words.specs.Words.{bytes_of}
use Rattle.rows.specs.Paste.{pasted}
use Rattle.rows.proofs.Elements.{tests_append, test_at}
use Rattle.rows.proofs.Blocks.{length-blocks, blocks-add, block_at, blocks_turn, tests_by, tests_blocks, length-laid, laid_from, laid-set, laid-zeros, blocks-laid, laid-blocks}
use Rattle.rows.proofs.Sizes.{Bytes, bytes_drop}
use Rattle.book.specs.declared.Book.{Book}
use Rattle.book.specs.Meaning.{book_of, meant, book_form}
use Rattle.book.proofs.Meaning.{form-book, form-formed, meant-image, form-image}
use Rattle.stored.specs.Image.{BOOK, words_of, book_bytes, book_at}
use Rattle.stored.proofs.Image.{sized-at, book-drop, bytes-book, length-book, book_front, closed-bytes}
use Rattle.lent.specs.Image.{LENGTH, image, book_in, form_from, meant_from, in_form, form_between, state_of}

-- ---- the books of a range in form

module _ (bs : List ℕ) where
  abbrev pub form_left : ℕ → ℕ → Bool
  form_left to k = form_from (to - k) (drop (k * BOOK) bs)

  form_turn : (to k : ℕ) → k < to → form_left to k ≡ book_form (book_at bs (k * BOOK)) && form_left to (k + 1)
  unfolding all?
  form_turn to k h = rw (blocks_turn BOOK book_in to k bs h, book-drop bs (k * BOOK))

  -- each book is looked at by its number
  pub forms_by : (from to : ℕ) → list_all (λ k. book_form (book_at bs (k * BOOK))) (range_with_len from (to - from)) ≡ form_left to from
  forms_by from to = simp (book-drop bs) at (tests_by BOOK book_in book_form (to - from) from bs)

  -- the books before one, that one, and those behind it
  pub form-parts : (k : ℕ) → 1 ≤ k → k ≤ BOOKS
      → form_from BOOKS bs ≡ form_from (k - 1) bs && (book_form (book_at bs ((k - 1) * BOOK)) && form_from (BOOKS - k) (drop (k * BOOK) bs))
  form-parts k lo hi =
      let e : BOOKS ≡ k - 1 + (BOOKS - (k - 1)) = omega arith in
      let f : k - 1 + 1 ≡ k = omega arith in
      let t : form_left BOOKS (k - 1) ≡ book_form (book_at bs ((k - 1) * BOOK)) && form_left BOOKS k = rw f at (form_turn BOOKS (k - 1) (omega arith)) in
      ap (λ (n : ℕ). form_from n bs) e
      ∙ ap (all? book_form) (blocks-add BOOK book_in (k - 1) (BOOKS - (k - 1)) bs)
      ∙ tests_append book_form (blocks BOOK book_in (k - 1) bs) (blocks BOOK book_in (BOOKS - (k - 1)) (drop ((k - 1) * BOOK) bs))
      ∙ ap (λ (b : Bool). form_from (k - 1) bs && b) t

  pub between_off : (from to : ℕ) → (length bs ≡ LENGTH → ⊥) → eqb (length bs) LENGTH ≡ form_between from to bs
  unfolding form_between
  between_off from to f = rw (ne_eqb (length bs) LENGTH f)

  pub between_is : (from to : ℕ) → length bs ≡ LENGTH → form_between from to bs ≡ form_left to from
  unfolding form_between
  between_is from to e = rw (eq-eqb (length bs) LENGTH e)

  pub form-length : in_form bs ≡ true → length bs ≡ LENGTH
  unfolding in_form
  form-length e = eqb-true (length bs) LENGTH (and_left (eqb (length bs) LENGTH) (form_from BOOKS bs) e)

  form-all : in_form bs ≡ true → form_from BOOKS bs ≡ true
  unfolding in_form
  form-all e = and_right (eqb (length bs) LENGTH) (form_from BOOKS bs) e

pub form-at : (bs : List ℕ) (k : ℕ) → in_form bs ≡ true → k < BOOKS → book_form (book_at bs (k * BOOK)) ≡ true
form-at bs k e h =
    subst (λ (b : Book). book_form b ≡ true) (block_at BOOK book_in BOOKS bs k (book_of none) h ∙ book-drop bs (k * BOOK))
    (test_at book_form (blocks BOOK book_in BOOKS bs) k (book_of none) (form-all bs e) (rw (length-blocks BOOK book_in BOOKS bs) h))

-- ---- the books that bytes hold

abbrev meant_in : List ℕ → Option paper.Book
meant_in l = meant (book_in l)

-- the book of a number is what its bytes mean
pub book-at : (bs : List ℕ) (k : ℕ) → 1 ≤ k → k ≤ BOOKS → paper.book (meant_from BOOKS bs) k ≡ meant (book_at bs ((k - 1) * BOOK))
book-at bs zero h g = absurd (omega arith)
book-at bs (suc k) h g =
    let e : suc k - 1 ≡ k = omega arith in
    rw e (block_at BOOK meant_in BOOKS bs k none (omega arith) ∙ ap meant (book-drop bs (k * BOOK)))

pub form-state : (bs : List ℕ) → in_form bs ≡ true → InForm (meant_from BOOKS bs)
form-state bs e = record { sixteen = sixteen; every = every }
  where
    sixteen : length (meant_from BOOKS bs) ≡ BOOKS
    sixteen = length-blocks BOOK meant_in BOOKS bs

    there : (k : ℕ) → k < BOOKS → formed_o (get_or (meant_from BOOKS bs) k none) ≡ true
    there k h = rw (block_at BOOK meant_in BOOKS bs k none h, book-drop bs (k * BOOK)) (form-formed (book_at bs (k * BOOK)) (form-at bs k e h))

    behind : (k : ℕ) → BOOKS ≤ k → formed_o (get_or (meant_from BOOKS bs) k none) ≡ true
    behind k h = let m : length (meant_from BOOKS bs) ≤ k = rw sixteen h in rw (get_or-eq_default (meant_from BOOKS bs) none m)

    every : (k : ℕ) → formed_o (paper.book (meant_from BOOKS bs) k) ≡ true
    every zero = refl
    every (suc k) = ⊎_elim (behind k) (there k) (≤-or-< k BOOKS)

-- bytes to register to bytes
pub form-image_is : (bs : List ℕ) → Bytes bs → in_form bs ≡ true → image (meant_from BOOKS bs) ≡ bs
form-image_is bs y e = laid-blocks BOOK book_bytes none meant_in BOOKS bs back ∙ take_all LENGTH bs (omega (arith, form-length bs e))
  where
    back : (k : ℕ) → k < BOOKS → book_bytes (meant_in (drop (k * BOOK) bs)) ≡ take BOOK (drop (k * BOOK) bs)
    back k h =
        let l = drop (k * BOOK) bs in
        let f : book_form (book_in l) ≡ true = rw (book-drop bs (k * BOOK)) (form-at bs k e h) in
        ap (λ (b : Book). bytes_of (words_of b)) (form-book (book_in l) (sized-at l 0) f)
        ∙ bytes-book l (rw length-drop (omega (arith, form-length bs e))) (bytes_drop (k * BOOK) bs y)

-- ---- the bytes of a register in form

pub books-wide : (r : paper.Register) → InForm r → (i : ℕ) → length (book_bytes (get_or r i none)) ≡ BOOK
books-wide r v i = length-book (get_or r i none) (v.every (suc i))

-- one book put
pub image-set : (r : paper.Register) (k : ℕ) (o : Option paper.Book) → k < length r → InForm r → formed_o o ≡ true
    → pasted (image r) (k * BOOK) (book_bytes o) ≡ image (set r k o)
image-set r k o h v g = sym (laid-set BOOK book_bytes none r k o h (books-wide r v) (length-book o g))

-- ---- ONE STATE, ONE IMAGE

pub length-image : (r : paper.Register) → InForm r → length (image r) ≡ LENGTH
length-image r v = length-laid BOOK book_bytes none r (books-wide r v) ∙ ap (λ (n : ℕ). n * BOOK) v.sixteen

-- LAW: a register in form is what its image holds
pub image-state : (r : paper.Register) → InForm r → state_of (image r) ≡ some r
unfolding state_of in_form
image-state r v =
    rw (eq-eqb (length (image r)) LENGTH (length-image r v), tests_blocks BOOK book_in book_form BOOKS (image r) each-formed, means)
  where
    w : (i : ℕ) → length (book_bytes (get_or r i none)) ≡ BOOK
    w = books-wide r v

    each-formed : (k : ℕ) → k < BOOKS → book_form (book_in (drop (k * BOOK) (image r))) ≡ true
    each-formed k h =
        let f = v.every (suc k) in
        rw (laid_from BOOK book_bytes none r k (omega (arith, v.sixteen)) w, book_front (get_or r k none) (laid book_bytes (drop (suc k) r)) f)
        (form-image (get_or r k none) f)

    means : meant_from BOOKS (image r) ≡ r
    means =
        subst (λ (n : ℕ). meant_from n (image r) ≡ r) v.sixteen
        (subst (λ (l : List ℕ). meant_from (length r) l ≡ r) (append-nil (image r))
        (blocks-laid BOOK book_bytes none meant_in r [] w (λ i l. ap meant (book_front (get_or r i none) l (v.every (suc i))) ∙ meant-image (get_or r i none) (v.every (suc i)))))

pub state_in : (bs : List ℕ) → in_form bs ≡ true → state_of bs ≡ some (meant_from BOOKS bs)
unfolding state_of
state_in bs e = rw e

pub state-out : (bs : List ℕ) → in_form bs ≡ false → state_of bs ≡ none
unfolding state_of
state-out bs e = rw e

-- LAW: bytes that hold a register are its image, and it is in form
pub state-image : (bs : List ℕ) (r : paper.Register) → Bytes bs → state_of bs ≡ some r → (image r ≡ bs) × InForm r
unfolding state_of
state-image bs r y e = go (in_form bs) refl e
  where
    go : (i : Bool) → in_form bs ≡ i → cond i (some (meant_from BOOKS bs)) none ≡ some r → (image r ≡ bs) × InForm r
    go false u w = let z : ◌≡◌ {A = ℕ} 0 1 = cc in absurd (omega arith)
    go true u w =
        let q : meant_from BOOKS bs ≡ r = cc in
        (subst (λ (s : paper.Register). image s ≡ bs) q (form-image_is bs y u), subst (λ (s : paper.Register). InForm s) q (form-state bs u))

-- ---- a fresh register

-- a fresh register's bytes: all zero
pub fresh_image : image paper.closed ≡ replicate LENGTH 0
unfolding paper.closed
fresh_image = laid-zeros book_bytes BOOK BOOKS none closed-bytes
