-- The record of an answer to a comparison. Assumes nothing.
use Rattle.judges.specs.Answers.{comparison_of}
use Rattle.judges.proofs.ComparisonFromResultBoolRefusal.from.Goals as goal

pub returns-in-Ok : goal.returns-in-Ok
unfolding comparison_of
returns-in-Ok c = simp (c.plain.ensures, c.in-Ok.is)

pub returns-in-Err : goal.returns-in-Err
unfolding comparison_of
returns-in-Err c = simp (c.plain-in-Err.ensures, c.in-Err.is, c.number.ensures, c.names.ensures)
