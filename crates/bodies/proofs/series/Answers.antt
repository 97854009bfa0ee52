-- `bodies::series`: the places read so far stand in front of those that are left to read.
-- Assumes nothing.
use Rattle.std.proofs.Common.{arith, rules}
use Rattle.std.proofs.lemmas.Grind.{common_steps}
use Rattle.bodies.proofs.Steps.{place_bad, place_on, places_end, places_more}
use Rattle.bodies.proofs.series.Goals as goal

pub returns-in_err-words : goal.returns-in_err-words
returns-in_err-words c = let bad = place_bad _ _ _ _ _ _ c.loop-k.invariant.1 c.loop-k-test.true c.in_err-words.ensures in search rules

pub loop-k-preserved : goal.loop-k-preserved
loop-k-preserved c =
    let i = c.loop-k.invariant in
    (grind (arith, common_steps), place_on _ _ _ _ _ _ i.1 c.loop-k-test.true _ _ _ c.in_ok-words.ensures i.0)

pub returns : goal.returns
returns c =
    let i = c.loop-k.invariant in
    let end = places_end _ _ _ _ _ _ i.1 (omega arith) i.0 in
    let more = places_more _ _ _ _ _ _ i.1 (omega arith) i.0 in
    search rules
