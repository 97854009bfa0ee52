-- `spots::spot`: a line of the place is its reading.
-- Assumes nothing.
use Rattle.spots.proofs.Steps.{spot_line}
use Rattle.spots.proofs.spot.Goals as goal

pub returns : goal.returns
returns c = spot_line _ _ _ _ _ _ c.if-left-eq0.false c.in-Some.ensures c.in_ok-words.ensures
