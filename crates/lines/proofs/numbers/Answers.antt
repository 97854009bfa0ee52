-- `lines::numbers`: the words read so far stand in front of those that are left to read.
-- Assumes nothing.
use Rattle.std.proofs.Common.{sym, ◌∙◌, arith, rules}
use Rattle.std.proofs.lemmas.Grind.{common_steps}
use Rattle.lines.proofs.Steps.{line_bad, line_on, words_end}
use Rattle.lines.proofs.numbers.Goals as goal

pub returns-in_err-number : goal.returns-in_err-number
returns-in_err-number g c = let bad = line_bad _ _ _ _ _ c.loop-k-test.true c.loop-k.invariant.1 _ c.sep_of.ensures c.in_err-number.ensures in search rules

pub loop-k-preserved : goal.loop-k-preserved
loop-k-preserved g c =
    let i = c.loop-k.invariant in
    (grind (arith, common_steps), line_on _ _ _ _ _ c.loop-k-test.true i.1 _ c.sep_of.ensures _ _ c.in_ok-number.ensures i.0)

pub returns : goal.returns
returns g c = let i = c.loop-k.invariant in words_end _ _ _ _ (omega arith) i.0 ∙ sym i.1
