-- `lent::formed`: every book, from the first to the last.
-- Assumes nothing.
use Rattle.lent.specs.Image.{in_form, form_between}
use Rattle.lent.proofs.formed.Goals as goal

pub returns : goal.returns
unfolding in_form form_between
returns c = c.formed_from.ensures
