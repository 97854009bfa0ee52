-- The record of an answer: what stands beside a refusal is the paper's. Assumes nothing.
use Rattle.paper.specs.TurnedAway.{evaluated}
use Rattle.doubles.proofs.EvaluationFromResultEvaluatedRefusal.from.Goals as goal

pub returns-in-Err : goal.returns-in-Err
unfolding evaluated
returns-in-Err c = simp (c.plain-in-Err.ensures, c.in-Err.is, c.number.ensures, c.names.ensures, c.in_millimetres.ensures)
