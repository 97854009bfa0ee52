-- `changes::pop`: all but the first change, and zeros behind them.
-- Assumes nothing.
use Prim.Native.Nat.{◌-◌, ◌≤◌}
use native.Mathlib.Omega.{arith}
use lib.ListN.{length, drop, length-drop}
use lib.Seq.{take_all}
use Rattle.image.specs.Layout.{CHANGE_WORDS}
use Rattle.changes.specs.Kept.{popped}
use Rattle.changes.proofs.pop.Goals as goal

pub returns : goal.returns
unfolding popped
returns c = let l : length (drop 4 c.args.old) ≤ (CHANGE_WORDS - 4) = simp length-drop (omega (arith, c)) in
    simp (c.copy_from_slice.ensures.after, take_all (CHANGE_WORDS - 4) (drop 4 c.args.old) l)
