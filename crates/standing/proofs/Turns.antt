-- What each turn of the loop over the kept changes says.
-- Assumes nothing.
use Prim.Native.Nat.{ℕ, ◌+◌, ◌-◌, ◌*◌, ◌/◌, ◌≤◌, ◌<◌}
use native.Mathlib.Omega.{arith}
use mathlib.Core.Path.{◌≡◌, sym, ap, ◌∙◌}
use mathlib.Core.Bool.{Bool, true, false, ◌&&◌, and-true, and-false}
use mathlib.Core.List.{List, [], ◌∷◌}
use lib.ListN.{length, get_or, set, take, drop, length-set}
use lib.Seq.{get_or-take, length-take-le}
use lib.Dec.{eqb}
use Rattle.std.specs.Simd.{first_chunks}
use Rattle.rows.proofs.Blocks.{block_at, blocks_turn, blocks_over, chunks_blocks}
use Rattle.paper.specs.Procedure.{PLACES, KEPT}
use Rattle.paper.specs.Units.{Terms, Places}
use Rattle.paper.specs.Books.{Change, make}
use Rattle.paper.specs.Form.{fits, takeable}
use Rattle.paper.proofs.Form.{fit_reaches}
use Rattle.image.specs.Layout.{CHANGE_WORDS}
use Rattle.image.specs.Places.{all_zero, spot_of, places_of}
use Rattle.image.specs.Changes.{change, change_in, entries}
use Rattle.image.proofs.Places.{length-places}
use Rattle.places.specs.Marks.{Marks}
use Rattle.standing.specs.Marked.{fits_marked}
use Rattle.standing.proofs.Marked.{fits-marked, marks-put}

-- ---- the kept changes from j on, where l is what stands at the places then, and w is what std's chunk of the words is

-- the first n of the chunks
module _ {cs : List (List ℕ)} (ch : List ℕ) (n j : ℕ) (e : cs ≡ first_chunks 4 (length ch / 4) ch) (l : length cs ≡ length ch / 4) (z : length ch ≡ CHANGE_WORDS) (h : n ≤ KEPT) where
  many : length (take n cs) ≡ n
  many = length-take-le n cs (omega arith)

  pub chunk_at : j < length (take n cs) → (j < n) × (get_or (take n cs) j [] ≡ take 4 (drop (j * 4) ch))
  chunk_at t =
      let i : j < n = omega (arith, many) in
      let m = length ch / 4 in
      let k : j < length ch / 4 = omega arith in
      (i, rw (e, get_or-take n (first_chunks 4 m ch) j [] i, chunks_blocks 4 m ch) (block_at 4 (take 4) m ch j [] k))

  pub chunk_end : length (take n cs) ≤ j → n ≤ j
  chunk_end t = omega (arith, many)

module _ (t : Terms) (ch : List ℕ) (n : ℕ) where
  abbrev takeable_from : Places → ℕ → Bool
  takeable_from l j = takeable t l (entries (n - j) (drop (j * 4) ch))

  takeable-start : (l : Places) → takeable t l (entries n ch) ≡ takeable_from l 0
  takeable-start l = let e : n - 0 ≡ n = omega arith in rw e

  takeable_end : (l : Places) (j : ℕ) → n ≤ j → takeable_from l j ≡ true
  unfolding takeable
  takeable_end l j h = rw (blocks_over 4 change_in n j (drop (j * 4) ch) h)

  module _ (w : List ℕ) where
    abbrev put : Change
    put = change (get_or w 0 0) (spot_of (get_or w 1 0) (get_or w 2 0) (get_or w 3 0))

    module _ (l : Places) (j : ℕ) (h : j < n) (e : w ≡ take 4 (drop (j * 4) ch)) where
      put_is : change_in (drop (j * 4) ch) ≡ put
      put_is =
          let r = drop (j * 4) ch in
          rw (e, get_or-take 4 r 0 0 (omega arith), get_or-take 4 r 1 0 (omega arith), get_or-take 4 r 2 0 (omega arith), get_or-take 4 r 3 0 (omega arith))

      entries_turn : entries (n - j) (drop (j * 4) ch) ≡ put ∷ entries (n - (j + 1)) (drop ((j + 1) * 4) ch)
      entries_turn = blocks_turn 4 change_in n j ch h ∙ ap (λ (c : Change). c ∷ entries (n - (j + 1)) (drop ((j + 1) * 4) ch)) put_is

      takeable-on : fits t l put ≡ true → takeable_from l j ≡ takeable_from (make put l) (j + 1)
      unfolding takeable
      takeable-on f = rw (entries_turn, f)

      takeable_stop : fits t l put ≡ false → takeable_from l j ≡ false
      unfolding takeable
      takeable_stop f = rw (entries_turn, f)

-- ---- the same, where no more is known of the places than their marks

abbrev pub Stands : Terms → Places → List ℕ → ℕ → List ℕ → ℕ → Type 0
Stands t before ch n m j = (l : Places) × (length l ≡ PLACES) × Marks m l × (takeable t before (entries n ch) ≡ takeable_from t ch n l j)

pub stands-start : (t : Terms) (cells ch : List ℕ) (n : ℕ) (m : List ℕ) → Marks m (places_of cells) → Stands t (places_of cells) ch n m 0
stands-start t cells ch n m k = (places_of cells, length-places cells, k, takeable-start t ch n (places_of cells))

module _ (t : Terms) (before : Places) (ch : List ℕ) (n : ℕ) (m : List ℕ) (j : ℕ) (s : Stands t before ch n m j) where
  module _ (w : List ℕ) where
    abbrev Found : Bool → Type 0
    Found a = a ≡ fits_marked t m (get_or w 0 0) (get_or w 1 0) (get_or w 2 0) (get_or w 3 0)

    fits_is : {a b : Bool} → Found a → a ≡ b → fits t s.0 (put t ch n w) ≡ b
    fits_is found e = sym (fits-marked t m (get_or w 0 0) (get_or w 1 0) (get_or w 2 0) (get_or w 3 0) s.0 s.2) ∙ sym found ∙ e

    pub stands_reaches : {a : Bool} → Found a → a ≡ true → get_or w 0 0 < PLACES
    stands_reaches found e = fit_reaches t s.0 (put t ch n w) (fits_is found e)

    module _ (h : j < n) (e : w ≡ take 4 (drop (j * 4) ch)) where
      pub stands_on : {a : Bool} (v : ℕ) → Found a → a ≡ true → eqb v 0 ≡ all_zero (get_or w 1 0) (get_or w 2 0) (get_or w 3 0)
          → Stands t before ch n (set m (get_or w 0 0) v) (j + 1)
      unfolding make
      stands_on v found f k = (
        make (put t ch n w) s.0,
        length-set s.0 (get_or w 0 0) _ ∙ s.1,
        marks-put t m (get_or w 0 0) (get_or w 1 0) (get_or w 2 0) (get_or w 3 0) s.0 v s.1 (stands_reaches found f) k s.2,
        s.3 ∙ takeable-on t ch n w s.0 j h e (fits_is found f),
      )

      pub stands_stop : (near : Bool) {a : Bool} → Found a → a ≡ false → false ≡ near && takeable t before (entries n ch)
      stands_stop near found f = sym (rw (s.3 ∙ takeable_stop t ch n w s.0 j h e (fits_is found f)) (and-false near))

  pub stands_end : (near : Bool) {r : Bool} → n ≤ j → r ≡ near → r ≡ near && takeable t before (entries n ch)
  stands_end near h e = e ∙ sym (rw (s.3 ∙ takeable_end t ch n s.0 j h) (and-true near))
