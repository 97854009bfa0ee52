-- What stands at a place.
-- Assumes nothing.
use Prim.Native.Nat.{ℕ}
use mathlib.Core.Path.{◌≡◌, refl}
use mathlib.Core.Bool.{Bool, true, false, cond, ◌||◌}
use mathlib.Core.Option.{none, some}
use Rattle.paper.specs.Units.{Terms, is_empty, near, point_of, near_at}
use Rattle.image.specs.Lengths.{triple}
use Rattle.image.specs.Places.{all_zero, spot_of}

module _ (x y h : ℕ) where
  pub spot-none : (t : Terms) (p : ℕ) → all_zero x y h ≡ true → true ≡ near_at t p (spot_of x y h)
  unfolding spot_of
  spot-none t p e = rw e

  pub spot_some : (t : Terms) (p : ℕ) → all_zero x y h ≡ false → near t (point_of p) (triple x y h) ≡ near_at t p (spot_of x y h)
  unfolding spot_of
  spot_some t p e = rw e

  pub spot-near : {a b : Bool} (t : Terms) (p : ℕ) → a ≡ is_empty (spot_of x y h) → b ≡ near t (point_of p) (triple x y h) → a || b ≡ near_at t p (spot_of x y h)
  unfolding spot_of
  spot-near t p empty near_by = rw (empty, near_by) (go (all_zero x y h))
    where
      go : (z : Bool) → is_empty (cond z none (some (triple x y h))) || near t (point_of p) (triple x y h) ≡ near_at t p (cond z none (some (triple x y h)))
      go true = refl
      go false = refl
