-- `doubles::in_millimetres`: each part by itself. Assumes nothing.
use Rattle.doubles.specs.Doubles.{doubled}
use Rattle.doubles.proofs.in_millimetres.Goals as goal

pub returns : goal.returns
unfolding doubled
returns c = simp (c.sheet_of.ensures, c.verdict.ensures, c.verdict-2.ensures)
