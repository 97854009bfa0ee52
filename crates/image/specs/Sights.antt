-- The words of an open book, and what the calls see of them.
use Rattle.std.specs.Prelude.{ℕ, ◌≡◌, true, List}
use Rattle.paper.specs.Units.{in_range, all_near}
use Rattle.paper.specs.Books.{Sight}
use Rattle.image.specs.Lengths.{terms_of}
use Rattle.image.specs.Places.{places_of}

-- they are in form
abbrev pub Formed : List ℕ → List ℕ → Type 0
Formed t l = (in_range (terms_of t) ≡ true) × (all_near (terms_of t) 0 (places_of l) ≡ true)

-- as evaluation and comparison see them. Neither asks how many changes can be taken back
abbrev pub sight_of : List ℕ → List ℕ → Sight
sight_of t l = record { terms = terms_of t; places = places_of l; count = 0 }

-- a sight is that of the words
pub record Seen (v : Sight) (t l : List ℕ) : Type 0 where
  pub terms : v.terms ≡ terms_of t
  pub places : v.places ≡ places_of l
