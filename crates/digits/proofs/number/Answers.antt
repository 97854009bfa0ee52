-- `digits::number`: a number with no sign begins with 1 to 9.
-- Assumes nothing.
use Rattle.std.proofs.Common.{ℕ, List, ◌≡◌, ◌+◌, Some, arith}
use Rattle.image.specs.Lengths.{ORIGIN, word}
use Rattle.decimals.specs.Reader.{number, nonzero, then}
use Rattle.decimals.specs.Given.{read_as}
use Rattle.decimals.proofs.Steps.{reading}
use Rattle.digits.proofs.number.Goals as goal

plain : (s rest : List ℕ) (m : ℕ) → Some (m, rest) ≡ read_as (λ n. n) (nonzero s) → Some (ORIGIN + m, rest) ≡ read_as word (number s)
unfolding nonzero number then
plain s rest m e = grind (arith, reading)

pub returns-in_ok-value-in_default : goal.returns-in_ok-value-in_default
returns-in_ok-value-in_default c = plain _ _ _ c.in_ok-value-in_default.ensures.value
