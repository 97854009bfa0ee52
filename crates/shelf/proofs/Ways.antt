-- The ways to find a book.
-- Assumes nothing.
use Prim.Native.Nat.{ℕ, ◌-◌, ◌*◌, ◌≤◌}
use native.Mathlib.Omega.{arith}
use mathlib.Core.Path.{◌≡◌, refl, sym, ap, ◌∙◌}
use mathlib.Core.Bool.{Bool, true, false, cond, ◌&&◌, and_comm, and_assoc, and-true}
use mathlib.Core.Option.{none, some}
use mathlib.Core.List.{List}
use lib.ListN.{length, drop}
use lib.Dec.{eqb}
use borrow.Author.Tests.{eq-eqb}
use Rattle.paper.specs.Procedure.{BOOKS}
use Rattle.paper.specs.Units.{one_to}
use Rattle.paper.specs.Books as paper
use Rattle.paper.proofs.Tests.{among}
use Rattle.book.specs.declared.Book.{Book}
use Rattle.form.specs.Whole.{words_form}
use Rattle.book.specs.Meaning.{book_of, meant, book_form, seen}
use Rattle.book.proofs.Meaning.{form-image, seen_in_lem, seen-out, seen-image}
use Rattle.stored.specs.Image.{BOOK, book_at}
use Rattle.lent.specs.Image.{LENGTH, form_from, meant_from, in_form, form_between}
use Rattle.shelf.specs.Steps.{picked_of, others_form, unformed, found_of}
use Rattle.lent.proofs.Image.{form-parts, form-length, form-at, book-at}

-- ---- the book of a number

pub record Found (bs : List ℕ) (k : ℕ) (b : Book) : Type 0 where
  pub formed : in_form bs ≡ true
  pub among : one_to BOOKS k ≡ true
  pub there : b ≡ book_at bs ((k - 1) * BOOK)

-- in bytes in form, the book itself, or a closed one where the number is no book's
pub data Within (bs : List ℕ) (k : ℕ) (b : Book) : Type 0 where
  found : Found bs k b → Within bs k b
  elsewhere : one_to BOOKS k ≡ false → b ≡ book_of none → Within bs k b

-- of bytes not in form, a book not in form
pub data Way (bs : List ℕ) (k : ℕ) (b : Book) : Type 0 where
  within : in_form bs ≡ true → Within bs k b → Way bs k b
  without : in_form bs ≡ false → seen b ≡ none → Way bs k b

unformed_is : (b : Book) → book_form (unformed b) ≡ false
unfolding book_form words_form
unformed_is b = refl

module _ (bs : List ℕ) (k : ℕ) where
  abbrev standing : Book
  standing = book_at bs ((k - 1) * BOOK)

  picked_in : in_form bs ≡ true → picked_of bs k ≡ cond (one_to BOOKS k) standing (book_of none)
  unfolding picked_of
  picked_in u = rw (eq-eqb (length bs) LENGTH (form-length bs u))

  pub picked_way : (b : Book) → b ≡ picked_of bs k → in_form bs ≡ true → Within bs k b
  picked_way b e u = go (one_to BOOKS k) refl (e ∙ picked_in u)
    where
      go : (j : Bool) → one_to BOOKS k ≡ j → b ≡ cond j standing (book_of none) → Within bs k b
      go true v w = found (record { formed = u; among = v; there = w })
      go false v w = elsewhere v w

  -- a register is in form where the book of that number is, and every other
  form_split : in_form bs ≡ others_form bs k && book_form (picked_of bs k)
  unfolding in_form others_form form_between picked_of
  form_split = go (eqb (length bs) LENGTH) (one_to BOOKS k) refl
    where
      swapped : (x y z : Bool) → x && (y && z) ≡ x && z && y
      swapped x y z = ap (λ (w : Bool). x && w) (and_comm y z) ∙ sym (and_assoc x z y)

      go : (i j : Bool) → one_to BOOKS k ≡ j
          → i && form_from BOOKS bs
          ≡ cond j (i && form_from (k - 1 - 0) bs && (i && form_from (BOOKS - k) (drop (k * BOOK) bs))) (i && form_from BOOKS bs)
          && book_form (cond (i && j) standing (book_of none))
      go false true v = refl
      go false false v = refl
      go true false v = rw (form-image none refl) (sym (and-true (form_from BOOKS bs)))
      go true true v =
          let h = among BOOKS k v in
          let e : k - 1 - 0 ≡ k - 1 = omega arith in
          rw e (form-parts bs k h.0 h.1 ∙ swapped (form_from (k - 1) bs) (book_form standing) (form_from (BOOKS - k) (drop (k * BOOK) bs)))

  pub found-way : (b : Book) → b ≡ found_of bs k → Way bs k b
  unfolding found_of
  found-way b e = go (others_form bs k) (in_form bs) refl form_split e
    where
      go : (o i : Bool) → in_form bs ≡ i → in_form bs ≡ o && book_form (picked_of bs k) → b ≡ cond o (picked_of bs k) (unformed (picked_of bs k)) → Way bs k b
      go true true u f w = within u (picked_way b w u)
      go true false u f w = without u (seen-out b (ap book_form w ∙ sym f ∙ u))
      go false i u f w = without f (seen-out b (ap book_form w ∙ unformed_is (picked_of bs k)))

  range : (b : Book) → Found bs k b → (1 ≤ k) × (k ≤ BOOKS)
  range b f = among BOOKS k f.among

  found-form : (b : Book) → Found bs k b → book_form b ≡ true
  found-form b f = rw f.there (form-at bs (k - 1) f.formed (omega (arith, (range b f).0, (range b f).1)))

  pub found-seen : (b : Book) → Found bs k b → seen b ≡ some (meant b)
  found-seen b f = seen_in_lem b (found-form b f)

  pub found-meant : (b : Book) → Found bs k b → paper.book (meant_from BOOKS bs) k ≡ meant b
  found-meant b f = book-at bs k (range b f).0 (range b f).1 ∙ ap meant (sym f.there)

pub within-seen : (bs : List ℕ) (k : ℕ) (b : Book) → Within bs k b → seen b ≡ some (meant b)
unfolding meant book_of
within-seen bs k b (found f) = found-seen bs k b f
within-seen bs k b (elsewhere e w) = rw (w, seen-image none refl)
