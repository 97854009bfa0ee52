-- `words::paste_word`: the eight bytes as std writes them.
-- Assumes nothing.
use native.Mathlib.Omega.{arith}
use mathlib.Core.Path.{◌∙◌}
use Rattle.rows.proofs.Paste.{put_mid-pasted}
use Rattle.words.proofs.Words.{length_digits, digits-written}
use Rattle.words.proofs.paste_word.Goals as goal

pub returns : goal.returns
returns c = put_mid-pasted _ _ _ _ _ (c.copy_from_slice.ensures.after ∙ c.to_le_bytes.ensures ∙ digits-written _) (rw length_digits (omega arith))
