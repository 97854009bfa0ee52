-- `digits::digits`: what is left to read gives what the whole gives.
-- Assumes nothing.
use Rattle.std.proofs.Common.{◌≡◌, ◌<◌, length}
use Rattle.decimals.specs.Numbers.{THIRTEEN_DIGITS}
use Rattle.decimals.specs.Reader.{run}
use Rattle.digits.proofs.digits.Given as goal

abbrev pub invariant-loop-rest : goal.invariant-loop-rest
invariant-loop-rest l = (run 0 l.s ≡ run l.value l.rest) × (l.value < THIRTEEN_DIGITS)

abbrev pub decreases-loop-rest : goal.decreases-loop-rest
decreases-loop-rest l = length l.rest
