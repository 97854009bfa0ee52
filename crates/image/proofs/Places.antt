-- Laws of places and their words.
-- Assumes nothing.
use Prim.Native.Nat.{ℕ, ◌+◌, ◌*◌, ◌≤◌, ◌<◌}
use native.Mathlib.Omega.{arith}
use mathlib.Core.Path.{◌≡◌, refl, ◌∙◌, subst}
use mathlib.Core.Bool.{Bool, true, false, cond, ◌&&◌}
use mathlib.Core.Option.{none, some}
use mathlib.Core.List.{List, [], ◌∷◌, ◌++◌, append-nil}
use lib.ListN.{length, get_or, set, take, drop, replicate, length-drop}
use lib.Seq.{get_or-drop, take_all}
use lib.Dec.{eqb}
use lib.IntN.{nat_abs}
use borrow.Author.Tests.{ne_eqb, eqb-true}
use Rattle.rows.specs.Blocks.{blocks}
use Rattle.rows.specs.Paste.{pasted}
use Rattle.rows.proofs.Elements.{elements, elements-take}
use Rattle.rows.proofs.Blocks.{length-blocks, block_at, blocks-laid, laid-blocks, length-laid, laid-set, laid-zeros}
use Rattle.paper.specs.Procedure.{PLACES}
use Rattle.paper.specs.Units.{Place, in_sheet, number, Spot, Places, is_empty}
use Rattle.paper.proofs.Tests.{below}
use Rattle.image.specs.Layout.{CELL_WORDS}
use Rattle.image.specs.Lengths.{ORIGIN, word, triple}
use Rattle.image.specs.Places.{all_zero, spot_of, spot_at, spot_in, places_of, spot_words, cells_of, place_of}
use Rattle.image.proofs.Lengths.{word_len, len_word, word-not-zero}

-- ---- one place

pub length-spot : (v : Spot) → length (spot_words v) ≡ 3
unfolding spot_words
length-spot none = refl
length-spot (some r) = refl

pub words-spot : (x y h : ℕ) → spot_words (spot_of x y h) ≡ x ∷ y ∷ h ∷ []
unfolding spot_of spot_words
words-spot x y h = go (eqb x 0) (eqb y 0) (eqb h 0) refl refl refl
  where
    full : x ≡ x → spot_words (some (triple x y h)) ≡ x ∷ y ∷ h ∷ []
    full z = rw (word_len x, word_len y, word_len h)

    go : (a b c : Bool) → eqb x 0 ≡ a → eqb y 0 ≡ b → eqb h 0 ≡ c → spot_words (cond (a && (b && c)) none (some (triple x y h))) ≡ x ∷ y ∷ h ∷ []
    go true true true e f g = rw (eqb-true x 0 e, eqb-true y 0 f, eqb-true h 0 g)
    go true true false e f g = full refl
    go true false c e f g = full refl
    go false b c e f g = full refl

-- a reading whose numbers are lengths; the three words of its place are then not all 0
unfoldable pub Short : Spot → Type 0
Short none = Unit {0}
Short (some v) = (nat_abs v.x < ORIGIN) × (nat_abs v.y < ORIGIN) × (nat_abs v.h < ORIGIN)

pub spot-words : (v : Spot) (l : List ℕ) → Short v → spot_at (spot_words v ++ l) 0 ≡ v
unfolding Short spot_of spot_words
spot-words none l f = refl
spot-words (some r) l f =
    rw (
      ne_eqb (word r.x) 0 (word-not-zero r.x f.0),
      len_word r.x (omega (arith, f.0)),
      len_word r.y (omega (arith, f.1)),
      len_word r.h (omega (arith, f.2)),
    )

pub empty-spot : (x y h : ℕ) → is_empty (spot_of x y h) ≡ all_zero x y h
unfolding spot_of
empty-spot x y h = go (all_zero x y h)
  where
    go : (b : Bool) → is_empty (cond b none (some (triple x y h))) ≡ b
    go true = refl
    go false = refl

-- ---- all places

pub length_cells : (l : Places) → length (cells_of l) ≡ 3 * length l
length_cells l = omega (arith, length-laid 3 spot_words none l (λ i. length-spot (get_or l i none)))

pub length-places : (l : List ℕ) → length (places_of l) ≡ PLACES
unfolding places_of
length-places l = length-blocks 3 spot_in PLACES l

words_in : (l : List ℕ) → 3 ≤ length l → spot_words (spot_in l) ≡ take 3 l
unfolding elements
words_in l h = words-spot (get_or l 0 0) (get_or l 1 0) (get_or l 2 0) ∙ elements-take 0 3 l 0 h

-- words to places to words, whatever the words
pub cells_places : (l : List ℕ) → length l ≡ CELL_WORDS → cells_of (places_of l) ≡ l
unfolding places_of
cells_places l e =
    laid-blocks 3 spot_words none spot_in PLACES l (λ k h. words_in (drop (k * 3) l) (rw length-drop (omega arith)))
    ∙ take_all (PLACES * 3) l (omega arith)

pub none_cells : (n : ℕ) → cells_of (replicate n none) ≡ replicate (n * 3) 0
unfolding spot_words
none_cells n = laid-zeros spot_words 3 n none refl

-- each of them short
abbrev pub AllShort : Places → Type 0
AllShort l = (p : ℕ) → Short (get_or l p none)

-- places to words to places
pub places_cells : (l : Places) → length l ≡ PLACES → AllShort l → places_of (cells_of l) ≡ l
unfolding places_of
places_cells l n f =
    subst (λ (k : ℕ). blocks 3 spot_in k (cells_of l) ≡ l) n
    (subst (λ (c : List ℕ). blocks 3 spot_in (length l) c ≡ l) (append-nil (cells_of l))
    (blocks-laid 3 spot_words none spot_in l [] (λ i. length-spot (get_or l i none)) (λ i z. spot-words (get_or l i none) z (f i))))

-- a place read where it starts
pub spot_on : (l : List ℕ) (m : ℕ) → spot_in (drop m l) ≡ spot_at l m
spot_on l m = let z : m + 0 ≡ m = omega arith in rw (get_or-drop m l 0 0, get_or-drop m l 1 0, get_or-drop m l 2 0, z)

pub place_at_lem : (l : List ℕ) (p : ℕ) → p < PLACES → get_or (places_of l) p none ≡ spot_at l (p * 3)
unfolding places_of
place_at_lem l p h = block_at 3 spot_in PLACES l p none h ∙ spot_on l (p * 3)

-- one place put, in places and in their words
pub cells_set : (l : Places) (p : ℕ) (v : Spot) → p < length l → cells_of (set l p v) ≡ pasted (cells_of l) (p * 3) (spot_words v)
cells_set l p v h = laid-set 3 spot_words none l p v h (λ i. length-spot (get_or l i none)) (length-spot v)

-- ---- the number of a place

pub place_out : (p : Place) → PLACES ≤ place_of p → in_sheet p ≡ false
unfolding place_of
place_out p h = go (in_sheet p) refl h
  where
    go : (q : Bool) → in_sheet p ≡ q → PLACES ≤ cond q (number p) PLACES → q ≡ false
    go false e k = refl
    go true e k = absurd (omega (arith, below p e))

pub place_in : (p : Place) → place_of p < PLACES → (in_sheet p ≡ true) × (place_of p ≡ number p)
unfolding place_of
place_in p h = go (in_sheet p) h
  where
    go : (q : Bool) → cond q (number p) PLACES < PLACES → (q ≡ true) × (cond q (number p) PLACES ≡ number p)
    go true k = (refl, refl)
    go false k = absurd (omega arith)
