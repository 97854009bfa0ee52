-- The number of lines of a body, from the word of a number.
-- Assumes nothing.
use Rattle.std.proofs.Common.{◌≡◌, ℕ, ◌+◌, ◌-◌, ◌<◌, ◌≤◌, List, ℤ, pos, negsuc, Some, None, refl, arith}
use Rattle.paper.specs.Procedure.{IN_SERIES}
use Rattle.image.specs.Lengths.{ORIGIN, word}
use Rattle.decimals.specs.Given.{read_as}
use Rattle.decimals.proofs.Steps.{reading}
use Rattle.fieldfile.specs.Reader.{line_count}

pub count_low : (v : ℤ) (r : List ℕ) → word v < ORIGIN → read_as (λ n. n) (line_count v r) ≡ None
unfolding line_count word
count_low (pos n) r h = absurd (omega arith)
count_low (negsuc n) r h = refl

pub count_high : (v : ℤ) (r : List ℕ) → ORIGIN + IN_SERIES < word v → read_as (λ n. n) (line_count v r) ≡ None
unfolding line_count word
count_high (pos n) r h = grind (arith, reading)
count_high (negsuc n) r h = refl

pub count_is : (v : ℤ) (r : List ℕ) → ORIGIN ≤ word v → word v ≤ ORIGIN + IN_SERIES → read_as (λ n. n) (line_count v r) ≡ Some (word v - ORIGIN, r)
unfolding line_count word
count_is (pos n) r h k = grind (arith, reading)
count_is (negsuc n) r h k = absurd (omega arith)

-- what the reader of a line of the table takes
pub ruleset counting = (reading, count_low, count_high, count_is)
