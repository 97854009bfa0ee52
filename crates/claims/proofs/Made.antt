-- What the form asks of a kept change is what an accepted change leaves, and no less: on the book from before it there is an enter, a
-- correct or a withdraw that is accepted, leaves what stands now, and keeps just this.
-- Assumes nothing.
use Prim.Native.Nat.{ℕ}
use native.Mathlib.Omega.{arith}
use mathlib.Core.Path.{◌≡◌, refl}
use mathlib.Core.Bool.{true, false, ◌&&◌}
use mathlib.Core.Option.{none, some}
use lib.ListN.{length, get_or}
use Rattle.paper.specs.Procedure.{PLACES}
use Rattle.paper.specs.Units.{Terms, within, Place, number, place_at, Spot, is_empty, Places, near_at, all_near}
use Rattle.paper.specs.Books.{Change, make, inverse, Sight}
use Rattle.paper.specs.Calls.{Act, enter, correct, withdraw, makes, effect}
use Rattle.paper.specs.TurnedAway.{empty, far, lowest, rules}
use Rattle.paper.proofs.Places.{number_back, in_sheet_lem}
use Rattle.paper.proofs.Form.{Fits}
use Rattle.paper.proofs.Acts.{make-inverse, inverse-inverse, put_there}
use Rattle.paper.proofs.Stays.{near_there}

-- the book from before the change that keeps c, with n changes kept
abbrev before : Terms → Places → Change → ℕ → Sight
before t l c n = record { terms = t; places = make c l; count = n }

pub record Made (t : Terms) (l : Places) (c : Change) : Type 0 where
  pub act : Act
  pub accepted : (n : ℕ) → lowest (rules act (some (before t l c n))) ≡ 0
  pub does : effect act ≡ makes (inverse c l)
  pub leaves : make (inverse c l) (make c l) ≡ l
  pub keeps : inverse (inverse c l) (make c l) ≡ c

module _ (t : Terms) (l : Places) (c : Change) (thirty : length l ≡ PLACES) (close : all_near t 0 l ≡ true) (fit : Fits t l c) where
  p : Place
  p = place_at c.place

  stood : get_or (make c l) (number p) none ≡ c.put
  unfolding p
  stood = rw (number_back c.place) (put_there c l fit.reaches thirty)

  stands-near : near_at t c.place (get_or l c.place none) ≡ true
  stands-near = near_there t l c.place close

  chosen : (now was : Spot) → Act
  unfolding p
  chosen none was = withdraw p
  chosen (some v) none = enter p v
  chosen (some v) (some w) = correct p v

  chosen_does : (now was : Spot) → effect (chosen now was) ≡ makes (record { place = c.place; put = now })
  unfolding chosen effect p
  chosen_does none was = rw (number_back c.place)
  chosen_does (some v) none = rw (number_back c.place)
  chosen_does (some v) (some w) = rw (number_back c.place)

  chosen_accepted : (n : ℕ) (now was : Spot) → c.put ≡ was → is_empty was && is_empty now ≡ false → near_at t c.place now ≡ true → lowest (rules (chosen now was) (some (before t l c n))) ≡ 0
  unfolding chosen rules lowest empty far p within place_at
  chosen_accepted n none none e r h = let z : ◌≡◌ {A = ℕ} 0 1 = cc in absurd (omega arith)
  chosen_accepted n none (some w) e r h = rw (in_sheet_lem c.place fit.reaches, stood, e)
  chosen_accepted n (some v) none e r h = rw (in_sheet_lem c.place fit.reaches, stood, e, h)
  chosen_accepted n (some v) (some w) e r h = rw (in_sheet_lem c.place fit.reaches, stood, e, h)

  pub kept-made : Made t l c
  unfolding inverse
  kept-made = record {
    act = chosen (get_or l c.place none) c.put;
    accepted = λ n. chosen_accepted n (get_or l c.place none) c.put refl fit.real stands-near;
    does = chosen_does (get_or l c.place none) c.put;
    leaves = make-inverse c l;
    keeps = inverse-inverse c l fit.reaches thirty;
  }
