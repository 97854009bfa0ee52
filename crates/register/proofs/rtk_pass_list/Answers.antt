-- `register::rtk_pass_list`: the record for C.
-- Assumes nothing.
use Rattle.std.proofs.Common.{◌∙◌}
use Rattle.register.proofs.rtk_pass_list.Goals as goal

pub returns : goal.returns
returns c = (c.from.ensures ∙ c.passed.ensures.0, c.passed.ensures.1)
