-- `bodies::series`: the places read so far stand in front of those that are left to read.
-- Assumes nothing.
use Rattle.std.proofs.Common.{◌≡◌, ◌-◌, length, take}
use Rattle.paper.specs.Procedure.{IN_SERIES}
use Rattle.lines.proofs.Steps.{after}
use Rattle.bodies.proofs.Steps.{words_of}
use Rattle.bodies.proofs.series.Given as goal

abbrev pub invariant-loop-k : goal.invariant-loop-k
invariant-loop-k l =
    (length l.place-items ≡ IN_SERIES) × (words_of IN_SERIES 0 l.count l.s ≡ after (take l.k l.place-items) (words_of (IN_SERIES - l.k) l.k l.left l.rest))
