-- What screening and figures need of the words of a full book in form: each word in its range, and each place a reading.
use Rattle.std.specs.Prelude.{ℕ, ◌+◌, ◌-◌, ◌*◌, ◌%◌, ◌≤◌, ◌<◌, ◌≡◌, List, get_or}
use Rattle.paper.specs.Procedure.{POINTS, PLACES, SPAN, SPREAD, EARTH, NEARBY}
use Rattle.paper.specs.Units.{reading}
use Rattle.image.specs.Lengths.{ORIGIN, triple_at}
use Rattle.image.specs.Places.{places_of}

abbrev pub Between : ℕ → ℕ → ℕ → Type 0
Between lo hi w = (lo ≤ w) × (w ≤ hi)

-- the word of a screening or a stated deviation
abbrev pub IsSpread : ℕ → Type 0
IsSpread w = Between (ORIGIN + 1) (ORIGIN + SPREAD) w

pub record Ready (t l : List ℕ) : Type 0 where
  pub reads : (p : ℕ) → p < PLACES → reading (places_of l) p ≡ triple_at l (p * 3)
  pub near : (p a : ℕ) → p < PLACES → a < 3 → (get_or l (p * 3 + a) 0 ≤ get_or t (6 + p % POINTS * 3 + a) 0 + NEARBY) × (get_or t (6 + p % POINTS * 3 + a) 0 ≤ get_or l (p * 3 + a) 0 + NEARBY)
  pub points : (a : ℕ) → a < 6 → get_or t (6 + a) 0 ≤ ORIGIN + EARTH
  pub apart : (a : ℕ) → a < 3 → (get_or t (9 + a) 0 ≤ get_or t (6 + a) 0 + SPAN) × (get_or t (6 + a) 0 ≤ get_or t (9 + a) 0 + SPAN)
  pub distance : Between (ORIGIN + 1) (ORIGIN + SPAN) (get_or t 0 0)
  pub height : Between (ORIGIN - SPAN) (ORIGIN + SPAN) (get_or t 1 0)
  pub scales : (i : ℕ) → 2 ≤ i → i < 6 → IsSpread (get_or t i 0)

-- the offset of reading i of a point and an axis, f = (point - 1) * 3 + axis, raised by NEARBY so that it is not negative
abbrev pub raised : List ℕ → List ℕ → ℕ → ℕ → ℕ
raised t l f i = get_or l (i * 6 + f) 0 + NEARBY - get_or t (6 + f) 0
