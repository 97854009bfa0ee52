-- `changes::keep`: the change, and all but the last behind it.
-- Assumes nothing.
use Rattle.changes.proofs.Pushed.{pushed-eq}
use Rattle.changes.proofs.keep.Goals as goal

pub returns : goal.returns
returns c = rw c.copy_from_slice-2.ensures.after (pushed-eq c.args.old _ _ _ _ _ c.copy_from_slice.ensures.after)
