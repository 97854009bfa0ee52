-- `listing::listed`: the numbers gathered, at the front of the row.
-- Assumes nothing.
use Rattle.std.proofs.Common.{◌∙◌}
use lib.Seq.{take-append_seam}
use Rattle.listing.proofs.listed.Goals as goal

pub returns : goal.returns
returns c = (rw (c.padded.ensures, c.as_slice.ensures.value, c.len.ensures.value) (take-append_seam _ _ ∙ c.gathered-roll.ensures.0), rw c.len.ensures.value c.gathered-roll.ensures.1)
