-- `bodies::bodies`: three series, one after another.
-- Assumes nothing.
use Rattle.std.proofs.Common.{arith}
use Rattle.std.proofs.lemmas.Grind.{common_steps}
use Rattle.bodies.proofs.Steps.{three_series}
use Rattle.bodies.proofs.bodies.Goals as goal

pub returns : goal.returns
returns c =
    let all = three_series _ _ _ _ _ _ _ _ _ _ c.in_ok-first.ensures c.in_ok-second.ensures c.in_ok-third.ensures in
    grind (arith, common_steps)
