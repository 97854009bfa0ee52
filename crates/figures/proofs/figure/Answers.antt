-- `figures::figure` meets its contract. Assumes nothing.
use Rattle.paper.specs.Figures.{shown}
use Rattle.figures.proofs.figure.Goals as goal

pub returns : goal.returns
unfolding shown
returns c = c.greatest.ensures
