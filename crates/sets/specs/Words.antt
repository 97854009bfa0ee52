-- The words of a set, its q and its two quantities.
use Rattle.std.specs.Prelude.{ℕ, ◌+◌, ◌-◌, ◌*◌, ◌≤◌, List, get_or, ◌-ℤ◌}
use Rattle.paper.specs.Procedure.{SETS, POINTS, SPAN, EARTH, NEARBY}
use Rattle.paper.specs.Screening.{square, Suspect}
use Rattle.image.specs.Lengths.{ORIGIN, triple_at}

-- where the words of a set start
abbrev pub words_from : ℕ → ℕ → ℕ
words_from i j = ((i - 1) * SETS + (j - 1)) * POINTS * 3

-- the two readings of a set are so far apart at most: each is near its point
abbrev pub APART : ℕ
APART = SPAN + 2 * NEARBY

-- so it is of the words of one axis (0 x, 1 y, 2 h), and the second is no greater than that of a reading can be
abbrev pub Close : List ℕ → ℕ → ℕ → Type 0
Close l m a = (get_or l (m + (3 + a)) 0 ≤ get_or l (m + a) 0 + APART) × (get_or l (m + a) 0 ≤ get_or l (m + (3 + a)) 0 + APART) × (get_or l (m + (3 + a)) 0 ≤ ORIGIN + (EARTH + NEARBY))

-- q of the set whose words start at m
unfoldable pub q_of : List ℕ → ℕ → ℕ
q_of l m = square ((triple_at l (m + 3)).x -ℤ (triple_at l m).x) + square ((triple_at l (m + 3)).y -ℤ (triple_at l m).y)

abbrev pub distance : ℕ → ℕ → Suspect
distance i j = record { series = i; set = j; quantity = 1 }

abbrev pub height : ℕ → ℕ → Suspect
height i j = record { series = i; set = j; quantity = 2 }
