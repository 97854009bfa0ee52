-- A turn of each loop.
-- Assumes nothing.
use Prim.Native.Nat.{ℕ, suc, ◌+◌, ◌-◌, ◌*◌, ◌<◌}
use native.Mathlib.Omega.{arith}
use native.Mathlib.Numerals.{add-one}
use mathlib.Core.Path.{◌≡◌, refl, sym}
use mathlib.Core.Bool.{true, false, cond}
use mathlib.Core.Option.{none, some, map}
use mathlib.Core.List.{List, [], ◌∷◌, ◌++◌, append-nil}
use lib.ListN.{get_or}
use Rattle.paper.specs.Procedure.{BOOKS}
use Rattle.paper.specs.Books.{sight, sights}
use Rattle.paper.specs.Screening.{each}
use Rattle.paper.specs.TurnedAway.{on_list, lowest, evaluating}
use Rattle.image.specs.Sights.{sight_of}
use Rattle.book.specs.declared.Book.{Book}
use Rattle.book.specs.Meaning.{open_of, meant}
use Rattle.book.proofs.Meaning.{meant-closed, meant-open}
use Rattle.evaluation.proofs.Asked.{list_asked}
use Rattle.stored.specs.Image.{BOOK, book_at}
use Rattle.lent.specs.Image.{meant_from}
use Rattle.lent.proofs.Image.{book-at}

-- the first k books' numbers on the list
abbrev pub listed_by : List ℕ → ℕ → List ℕ
listed_by bs k = each k λ j. cond (on_list (sights (meant_from BOOKS bs) j)) (j ∷ []) []

module _ (bs : List ℕ) (k : ℕ) (h : k < BOOKS) where
  sight_is : on_list (sights (meant_from BOOKS bs) (suc k)) ≡ on_list (map sight (meant (book_at bs (k * BOOK))))
  unfolding sights
  sight_is =
      let e : suc k - 1 ≡ k = omega arith in
      let a : get_or (meant_from BOOKS bs) k none ≡ meant (book_at bs (k * BOOK)) = rw e at (book-at bs (suc k) (omega arith) (omega arith)) in
      rw a

  pub list_more : (l : List ℕ) → l ≡ listed_by bs k → on_list (map sight (meant (book_at bs (k * BOOK)))) ≡ true → l ++ (k + 1) ∷ [] ≡ listed_by bs (k + 1)
  unfolding each
  list_more l e o = rw (e, add-one k, sight_is, o)

  pub list_same : (l : List ℕ) → l ≡ listed_by bs k → on_list (map sight (meant (book_at bs (k * BOOK)))) ≡ false → l ≡ listed_by bs (k + 1)
  unfolding each
  list_same l e o = rw (add-one k, sight_is, o, append-nil) e

-- ---- one book

pub closed-not : (b a : Book) → b ≡ a → b.opened ≡ 0 → false ≡ on_list (map sight (meant a))
unfolding on_list lowest evaluating
closed-not b a e z = rw (← e, meant-closed b z)

pub open-passes : (b a : Book) → b ≡ a → (b.opened ≡ 0 → ⊥) → on_list (some (sight_of b.terms b.cells)) ≡ on_list (map sight (meant a))
unfolding sight open_of
open-passes b a e f = rw (← e, meant-open b f) (sym (list_asked (sight (open_of b)) b.terms b.cells (record { terms = refl; places = refl })))
