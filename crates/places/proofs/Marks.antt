-- The marks of words, up to a place.
-- Assumes nothing.
use Prim.Native.Nat.{ℕ, ◌+◌, ◌*◌, ◌≤◌, ◌<◌}
use native.Mathlib.Nat.{lt_irrefl}
use native.Mathlib.Omega.{arith}
use mathlib.Core.Path.{◌≡◌, ◌∙◌, subst}
use mathlib.Core.Logic.{⊎_elim}
use mathlib.Core.List.{List}
use lib.ListN.{length, get_or, set, length-set}
use lib.Seq.{get_or-set_same, get_or-set_other}
use lib.Dec.{eqb}
use Rattle.integers.specs.Diff.{≤-or-<}
use Rattle.paper.specs.Procedure.{PLACES}
use Rattle.paper.specs.Units.{is_empty}
use Rattle.image.specs.Places.{spot_at, places_of}
use Rattle.image.proofs.Places.{place_at_lem}
use Rattle.places.specs.Marks.{Marks}

abbrev pub MarksTo : ℕ → List ℕ → List ℕ → Type 0
MarksTo n m cells = (p : ℕ) → p < n → eqb (get_or m p 0) 0 ≡ is_empty (spot_at cells (p * 3))

marks-on : (m cells : List ℕ) (p v : ℕ) → p < length m
    → eqb v 0 ≡ is_empty (spot_at cells (p * 3))
    → MarksTo p m cells → MarksTo (p + 1) (set m p v) cells
marks-on m cells p v i e f k h =
    ⊎_elim
    (λ (o : p ≤ k).
    let z : k ≡ p = omega arith in
    rw (z, get_or-set_same m p v 0 i) e)
    (λ (o : k < p). get_or-set_other_is m p k v o ∙ f k o)
    (≤-or-< k p)
  where
    get_or-set_other_is : (m : List ℕ) (p k v : ℕ) → k < p → eqb (get_or (set m p v) k 0) 0 ≡ eqb (get_or m k 0) 0
    get_or-set_other_is m p k v o = rw (get_or-set_other m p k v 0 (λ q. lt_irrefl p (subst (λ (z : ℕ). z < p) q o)))

-- a turn takes both points of a set
pub marks-set : (m cells : List ℕ) (s v w : ℕ) → s * 2 + 1 < length m
    → eqb v 0 ≡ is_empty (spot_at cells (s * 2 * 3)) → eqb w 0 ≡ is_empty (spot_at cells ((s * 2 + 1) * 3))
    → MarksTo (s * 2) m cells → MarksTo ((s + 1) * 2) (set (set m (s * 2) v) (s * 2 + 1) w) cells
marks-set m cells s v w i first second f =
    let e : s * 2 + 1 + 1 ≡ (s + 1) * 2 = omega arith in
    rw e at (marks-on (set m (s * 2) v) cells (s * 2 + 1) w (rw (length-set m (s * 2) v) i) second (marks-on m cells (s * 2) v (omega arith) first f))

pub marks-all : (m cells : List ℕ) (n : ℕ) → n ≡ PLACES → length m ≡ PLACES → MarksTo n m cells → Marks m (places_of cells)
marks-all m cells n e l f = (l, λ p h. rw (place_at_lem cells p h) (f p (omega arith)))
