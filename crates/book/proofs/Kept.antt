-- What the calls keep: a book in form stays in form.
-- Assumes nothing.
use Prim.Native.Nat.{ℕ, zero, suc}
use mathlib.Core.Path.{◌≡◌, refl}
use mathlib.Core.Bool.{true}
use mathlib.Core.Option.{map}
use Rattle.paper.specs.Books as paper
use Rattle.paper.specs.Calls.{Act, effect, affected}
use Rattle.paper.specs.TurnedAway.{lowest, rules}
use Rattle.paper.specs.Answers.{unless}
use Rattle.paper.specs.Alone.{refused_alone, next}
use Rattle.paper.proofs.Stays.{formed-next}
use Rattle.book.specs.declared.Book.{Book}
use Rattle.book.specs.Meaning.{book_of, meant, book_form}
use Rattle.book.specs.Steps.{step_of}
use Rattle.book.proofs.Meaning.{form-formed, form-image, seen_in_lem}

-- LAW: every call on a book in form gives a book in form
pub step-formed : (a : Act) (b : Book) → book_form b ≡ true → book_form (step_of a b).book ≡ true
unfolding step_of refused_alone next
step-formed a b e = rw (seen_in_lem b e) (go (lowest (rules a (map paper.sight (meant b)))) refl)
  where
    go : (n : ℕ) → lowest (rules a (map paper.sight (meant b))) ≡ n → book_form (book_of (unless n (affected (effect a) (meant b)) (meant b))) ≡ true
    go zero f = form-image (affected (effect a) (meant b)) (formed-next a (meant b) (form-formed b e) f)
    go (suc n) f = form-image (meant b) (form-formed b e)
