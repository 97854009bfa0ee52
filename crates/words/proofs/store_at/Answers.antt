-- `words::store_at`: the words before this one are stored.
-- Assumes nothing.
use Prim.Native.Nat.{◌<◌}
use mathlib.Core.Path.{sym, ◌∙◌}
use native.Mathlib.Omega.{arith}
use lib.ListN.{length}
use Rattle.rows.specs.Blocks.{laid}
use Rattle.rows.proofs.Paste.{pasted-nil}
use Rattle.words.proofs.Words.{store_at_turn}
use Rattle.words.proofs.store_at.Goals as goal

pub loop-i-init : goal.loop-i-init
unfolding laid
loop-i-init c = sym (pasted-nil _ _)

pub loop-i-preserved : goal.loop-i-preserved
loop-i-preserved c = let h : c.loop-i.i < length c.args.from.now = omega arith in
    c.paste_word.ensures ∙ rw c.loop-i.invariant (store_at_turn _ c.args.from.now _ _ h c.requires)
