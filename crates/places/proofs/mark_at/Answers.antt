-- `places::mark_at`: the mark of whether it is empty.
-- Assumes nothing.
use mathlib.Core.Path.{◌∙◌}
use Rattle.places.proofs.mark_at.Goals as goal

pub returns : goal.returns
returns c = c.mark.ensures ∙ c.empty_at.ensures
