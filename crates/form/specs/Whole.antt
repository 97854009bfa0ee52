-- When the words of a book are in form: they are those of a closed book, or of an open one in the paper's form.
use Rattle.std.specs.Prelude.{ℕ, ◌*◌, Bool, cond, ◌&&◌, List, drop, eqb, leb}
use Rattle.paper.specs.Procedure.{KEPT}
use Rattle.paper.specs.Form.{formed}
use Rattle.image.specs.Lengths.{terms_of}
use Rattle.image.specs.Places.{places_of}
use Rattle.image.specs.Changes.{entries, zeros}

-- a closed book is empty
unfoldable pub bare : List ℕ → List ℕ → ℕ → List ℕ → Bool
bare t l k ch = eqb k 0 && (zeros t && (zeros l && zeros ch))

-- an open one is in the paper's form, and words that are not used are 0
unfoldable pub sound : List ℕ → List ℕ → ℕ → List ℕ → Bool
sound t l k ch =
    leb k KEPT
    && (zeros (drop (k * 4) ch) && formed (record { terms = terms_of t; places = places_of l; kept = entries k ch }))

unfoldable pub words_form : ℕ → List ℕ → List ℕ → ℕ → List ℕ → Bool
words_form o t l k ch = cond (eqb o 0) (bare t l k ch) (eqb o 1 && sound t l k ch)
