-- `words::load_at`: the words before this one are loaded.
-- Assumes nothing.
use Prim.Native.Nat.{◌<◌}
use mathlib.Core.Path.{refl}
use native.Mathlib.Omega.{arith}
use lib.ListN.{length}
use Rattle.rows.specs.Blocks.{blocks}
use Rattle.words.proofs.Words.{load_at_turn}
use Rattle.words.proofs.load_at.Goals as goal

pub loop-i-init : goal.loop-i-init
unfolding blocks
loop-i-init c = refl

pub loop-i-preserved : goal.loop-i-preserved
loop-i-preserved c = let h : c.loop-i.i < length c.args.out.now = omega arith in
    rw (c.loop-i.invariant, c.word_at.ensures) (load_at_turn c.args.bytes.now c.args.out.now c.args.at c.loop-i.i h)
