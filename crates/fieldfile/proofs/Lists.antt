-- Lists that are taken apart and put together again.
-- Assumes nothing.
use Prim.Native.Nat.{ℕ, ◌+◌, ◌-◌, ◌*◌, ◌≤◌}
use mathlib.Core.Path.{◌≡◌, sym, ◌∙◌, ap}
use mathlib.Core.Option.{none, some}
use mathlib.Core.List.{List, [], ◌∷◌, ◌++◌}
use native.Mathlib.Omega.{arith}
use lib.ListN.{length, take, drop, take-append-drop, length-drop}
use lib.Seq.{take_all, length-take-le, take_at, drop_at, drop-drop}
use Rattle.rows.proofs.Elements.{elements, elements-all, all_split, all_join}
use lib.IntN.{ℤ, pos}
use Rattle.paper.specs.Procedure.{IN_SERIES, PLACES}
use Rattle.paper.specs.Units.{terms_from, term_list, Places, in_order}
use Rattle.fieldfile.specs.Form.{of_series, lines, ShortSpot, ShortSpots}
use Rattle.fieldfile.specs.Reader.{triple_from}

-- ---- terms and readings from their numbers

pub terms_from_lem : (zs : List ℤ) → length zs ≡ 12 → term_list (terms_from zs) ≡ zs
unfolding elements term_list
terms_from_lem zs e = elements-all 12 zs (pos 0) e

pub triple_from_lem : (zs : List ℤ) → length zs ≡ 3 → (triple_from zs).x ∷ (triple_from zs).y ∷ (triple_from zs).h ∷ [] ≡ zs
unfolding elements
triple_from_lem zs e = elements-all 3 zs (pos 0) e

-- ---- the places of the three series

module _ (l : Places) (n : length l ≡ PLACES) where
  pub length-series : (i : ℕ) → 1 ≤ i → i ≤ 3 → length (of_series i l) ≡ IN_SERIES
  unfolding of_series in_order
  length-series i p q = length-take-le IN_SERIES (drop (((i - 1) * 5 + 0) * 2 + 0) l) (rw length-drop (omega arith))

  pub all-series : l ≡ of_series 1 l ++ (of_series 2 l ++ of_series 3 l)
  unfolding of_series in_order
  all-series =
      let a : take IN_SERIES (drop (2 * IN_SERIES) l) ≡ drop (2 * IN_SERIES) l = take_all IN_SERIES (drop (2 * IN_SERIES) l) (rw length-drop (omega arith)) in
      let b : drop IN_SERIES (drop IN_SERIES l) ≡ drop (2 * IN_SERIES) l = drop-drop IN_SERIES IN_SERIES l in
      rw (a, ← b, take-append-drop IN_SERIES (drop IN_SERIES l)) (sym (take-append-drop IN_SERIES l))

-- and of three series of ten, each is one
module _ (xs ys zs : Places) (p : length xs ≡ IN_SERIES) (q : length ys ≡ IN_SERIES) (s : length zs ≡ IN_SERIES) where
  pub first-series : of_series 1 (xs ++ (ys ++ zs)) ≡ xs
  unfolding of_series in_order
  first-series = take_at xs (ys ++ zs) IN_SERIES p

  pub second_series : of_series 2 (xs ++ (ys ++ zs)) ≡ ys
  unfolding of_series in_order
  second_series = ap (take IN_SERIES) (drop_at xs (ys ++ zs) IN_SERIES p) ∙ take_at ys zs IN_SERIES q

  pub third_series : of_series 3 (xs ++ (ys ++ zs)) ≡ zs
  unfolding of_series in_order
  third_series =
      let d : drop (2 * IN_SERIES) (xs ++ (ys ++ zs)) ≡ zs = sym (drop-drop IN_SERIES IN_SERIES (xs ++ (ys ++ zs))) ∙ (ap (drop IN_SERIES) (drop_at xs (ys ++ zs) IN_SERIES p) ∙ drop_at ys zs IN_SERIES q) in
      ap (take IN_SERIES) d ∙ take_all IN_SERIES zs (omega arith)

pub short-split3 : (xs ys zs : Places) → ShortSpots (xs ++ (ys ++ zs)) → ShortSpots xs × ShortSpots ys × ShortSpots zs
short-split3 xs ys zs h =
    let i = all_split ShortSpot xs (ys ++ zs) h in
    let j = all_split ShortSpot ys zs i.1 in
    (i.0, j.0, j.1)

pub short_join3 : (xs ys zs : Places) → ShortSpots xs → ShortSpots ys → ShortSpots zs → ShortSpots (xs ++ (ys ++ zs))
short_join3 xs ys zs h k m = all_join ShortSpot xs (ys ++ zs) h (all_join ShortSpot ys zs k m)

pub lines-most : (l : Places) → lines l ≤ length l
unfolding lines
lines-most [] = omega arith
lines-most (none ∷ l) = omega (arith, lines-most l)
lines-most (some v ∷ l) = omega (arith, lines-most l)
