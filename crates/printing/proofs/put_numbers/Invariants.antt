-- `printing::put_numbers`: what is written, ahead of what is left to write, is the whole line.
-- Assumes nothing.
use Rattle.std.proofs.Common.{◌≡◌, ◌++◌, drop}
use Rattle.decimals.specs.Numbers.{line}
use Rattle.printing.proofs.put_numbers.Given as goal

abbrev pub invariant-loop-i : goal.invariant-loop-i
invariant-loop-i g l = l.out.items ++ line (drop l.i l.numbers) ≡ l.initial.out.items ++ line l.numbers
