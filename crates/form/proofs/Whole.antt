-- A book's form, test by test.
-- Assumes nothing.
use Prim.Native.Nat.{ℕ, ◌*◌, ◌≤◌, ◌<◌}
use mathlib.Core.Path.{◌≡◌, refl, ◌∙◌}
use mathlib.Core.Bool.{Bool, true, false, ◌&&◌}
use mathlib.Core.List.{List}
use lib.ListN.{length, drop}
use lib.Dec.{leb}
use borrow.Author.Tests.{eq-eqb, ne_eqb, le-leb, lt-leb}
use Rattle.paper.specs.Procedure.{PLACES, KEPT}
use Rattle.paper.specs.Units.{in_range, all_near}
use Rattle.paper.specs.Books.{Book}
use Rattle.paper.specs.Form.{formed, takeable}
use Rattle.image.specs.Lengths.{terms_of}
use Rattle.image.specs.Places.{places_of}
use Rattle.image.specs.Changes.{entries, zeros}
use Rattle.image.proofs.Places.{length-places}
use Rattle.image.proofs.Changes.{length-entries}
use Rattle.ranges.proofs.Laws.{and_same}
use Rattle.form.specs.Whole.{bare, sound, words_form}

module _ (t l : List ℕ) (k : ℕ) (ch : List ℕ) where
  abbrev b : Book
  b = record { terms = terms_of t; places = places_of l; kept = entries k ch }

  abbrev Near : Bool
  Near = all_near (terms_of t) 0 (places_of l)

  abbrev Taken : Bool
  Taken = takeable (terms_of t) (places_of l) (entries k ch)

  formed_is : k ≤ KEPT → in_range (terms_of t) && (Near && Taken) ≡ formed b
  unfolding formed
  formed_is h =
      let n : leb (length (entries k ch)) KEPT ≡ true = rw (length-entries k ch) (le-leb k KEPT h) in
      rw (eq-eqb (length (places_of l)) PLACES (length-places l), n)
      (go (in_range (terms_of t)) Near)
    where
      go : (r n : Bool) → r && (n && Taken) ≡ r && true && n && true && Taken
      go true true = refl
      go true false = refl
      go false n = refl

  pub sound-many : KEPT < k → false ≡ sound t l k ch
  unfolding sound
  sound-many h = rw (lt-leb k KEPT h)

  pub sound_is : {u r s : Bool} → k ≤ KEPT → u ≡ zeros (drop (k * 4) ch) → r ≡ in_range (terms_of t) → s ≡ Near && Taken → u && (r && s) ≡ sound t l k ch
  unfolding sound
  sound_is h unused range stand = rw (le-leb k KEPT h) (and_same unused (and_same range stand ∙ formed_is h))

  module _ (o : ℕ) where
    pub form-closed : {r : Bool} → o ≡ 0 → r ≡ bare t l k ch → r ≡ words_form o t l k ch
    unfolding words_form
    form-closed z e = rw (eq-eqb o 0 z) e

    module _ (f : o ≡ 0 → ⊥) where
      pub form-open : {r : Bool} → o ≡ 1 → r ≡ sound t l k ch → r ≡ words_form o t l k ch
      unfolding words_form
      form-open z e = rw (ne_eqb o 0 f, eq-eqb o 1 z) e

      pub form_neither : (o ≡ 1 → ⊥) → false ≡ words_form o t l k ch
      unfolding words_form
      form_neither g = rw (ne_eqb o 0 f, ne_eqb o 1 g)
