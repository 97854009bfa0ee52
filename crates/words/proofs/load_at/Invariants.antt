-- `words::load_at`: the words before this one are loaded.
-- Assumes nothing.
use mathlib.Core.Path.{◌≡◌}
use mathlib.Core.List.{◌++◌}
use lib.ListN.{drop}
use Rattle.words.specs.Words.{words}
use Rattle.words.proofs.load_at.Given as goal

abbrev pub invariant-loop-i : goal.invariant-loop-i
invariant-loop-i l = l.out ≡ words l.i (drop l.at l.bytes) ++ drop l.i l.initial.out
