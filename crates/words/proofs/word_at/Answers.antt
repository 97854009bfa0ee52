-- `words::word_at`: the eight bytes as std reads them.
-- Assumes nothing.
use Prim.Native.Nat.{◌+◌, ◌-◌}
use native.Mathlib.Omega.{arith}
use mathlib.Core.Path.{◌≡◌, ◌∙◌}
use lib.ListN.{length, take, drop, length-drop}
use lib.Seq.{length-take-le}
use Rattle.words.proofs.Words.{le-read}
use Rattle.words.proofs.word_at.Goals as goal

pub returns : goal.returns
returns c = let n : c.args.at + 8 - c.args.at ≡ 8 = omega arith in
    let l : length (take 8 (drop c.args.at c.args.bytes.now)) ≡ 8 = length-take-le 8 _ (simp length-drop (omega arith)) in
    c.from_le_bytes.ensures ∙ rw (c.copy_from_slice.ensures.after, n) (le-read _ l)
