-- `placing::put`: three words written are three words pasted.
-- Assumes nothing.
use native.Mathlib.Omega.{arith}
use Rattle.rows.proofs.Paste.{put_mid-pasted}
use Rattle.placing.proofs.put.Goals as goal

pub returns : goal.returns
returns c = put_mid-pasted _ _ _ _ _ c.copy_from_slice.ensures.after (omega arith)
