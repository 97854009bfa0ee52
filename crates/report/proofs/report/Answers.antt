-- `report::report`: the text, held.
-- Assumes nothing.
use Rattle.report.proofs.Pieces.{held_is}
use Rattle.report.proofs.report.Goals as goal

pub returns : goal.returns
returns c = held_is _ c.text-out.ensures (rw c.as_slice.ensures.value at c.padded.ensures) c.len.ensures.value
