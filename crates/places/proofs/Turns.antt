-- What each turn of the loops over the places says.
-- Assumes nothing.
use Prim.Native.Nat.{ℕ, zero, suc, ◌+◌, ◌-◌, ◌*◌, ◌<◌}
use native.Mathlib.Omega.{arith}
use mathlib.Core.Path.{◌≡◌, refl, sym, ap, ◌∙◌}
use mathlib.Core.Bool.{Bool, true, false, ◌&&◌, and-true}
use mathlib.Core.List.{List, [], ◌∷◌}
use lib.ListN.{drop}
use lib.Seq.{drop-drop}
use Rattle.std.specs.List.{list_any, range_with_len}
use Rattle.rows.specs.Blocks.{blocks}
use Rattle.rows.proofs.Blocks.{blocks_turn, blocks_over}
use Rattle.paper.specs.Procedure.{ROUNDS, PLACES}
use Rattle.paper.specs.Units.{Terms, Spot, Places, is_empty, near_at, all_near}
use Rattle.paper.specs.TurnedAway.{some?}
use Rattle.image.specs.Places.{spot_at, spot_in, places_of}
use Rattle.image.proofs.Places.{spot_on}

three-first : (n a b c : Bool) → (n && a && b) && c ≡ n && (a && (b && c))
three-first true true b c = refl
three-first true false b c = refl
three-first false a b c = refl

-- the places from p on

module _ (cells : List ℕ) where
  abbrev from : ℕ → Places
  from p = blocks 3 spot_in (PLACES - p) (drop (p * 3) cells)

  start : places_of cells ≡ from 0
  unfolding places_of
  start = refl

  turn : (p : ℕ) → p < PLACES → from p ≡ spot_at cells (p * 3) ∷ from (p + 1)
  turn p h = blocks_turn 3 spot_in PLACES p cells h ∙ ap (λ (v : Spot). v ∷ from (p + 1)) (spot_on cells (p * 3))

  over : (p : ℕ) → p ≡ PLACES → from p ≡ []
  over p e = blocks_over 3 spot_in PLACES p (drop (p * 3) cells) (omega arith)

  abbrev pub near_from : Terms → ℕ → Bool
  near_from t p = all_near t p (from p)

  module _ (t : Terms) where
    pub near-start : all_near t 0 (places_of cells) ≡ near_from t 0
    near-start = ap (all_near t 0) start

    abbrev near : ℕ → Bool
    near p = near_at t p (spot_at cells (p * 3))

    near_turn : (p : ℕ) → p < PLACES → near_from t p ≡ near p && near_from t (p + 1)
    unfolding all_near
    near_turn p h = let f : suc p ≡ p + 1 = omega arith in rw (turn p h, f)

    -- a turn takes both points of a set
    pub near-set : (n : Bool) {a b : Bool} (set : ℕ) → set < ROUNDS → a ≡ near (set * 2) → b ≡ near (set * 2 + 1)
        → (n && a && b) && near_from t ((set + 1) * 2) ≡ n && near_from t (set * 2)
    near-set n {a = a} {b = b} set h first second =
        let f : set * 2 + 1 + 1 ≡ (set + 1) * 2 = omega arith in
        rw (near_turn (set * 2) (omega arith), near_turn (set * 2 + 1) (omega arith), f, sym first, sym second)
        (three-first n a b (near_from t ((set + 1) * 2)))

    pub near_end : (n : Bool) {v : Bool} (set : ℕ) → set ≡ ROUNDS → n && near_from t (set * 2) ≡ v → n ≡ v
    unfolding all_near
    near_end n set e f = let g : set * 2 ≡ PLACES = omega arith in sym (and-true n) ∙ rw (over (set * 2) g) at f

  -- a place is looked at by its number
  abbrev pub empty : ℕ → Bool
  empty p = is_empty (spot_at cells (p * 3))

  empties : (n p : ℕ) → list_any empty (range_with_len p n) ≡ some? is_empty (blocks 3 spot_in n (drop (p * 3) cells))
  unfolding blocks
  empties zero p = refl
  empties (suc n) p =
      let e : p * 3 + 3 ≡ (p + 1) * 3 = omega arith in
      rw (empties n (p + 1), spot_on cells (p * 3), drop-drop 3 (p * 3) cells, e)

  pub empties_all : list_any empty (range_with_len 0 PLACES) ≡ some? is_empty (places_of cells)
  unfolding places_of
  empties_all = empties PLACES 0
