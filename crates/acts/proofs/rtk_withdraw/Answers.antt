-- `acts::rtk_withdraw`: the book found, the reading withdrawn, and the book put back.
-- Assumes nothing.
use Rattle.shelf.proofs.Acted.{accepted_length, acted}
use Rattle.std.proofs.Common.{rules}
use Rattle.acts.proofs.rtk_withdraw.Goals as goal

pub put_back-requires : goal.put_back-requires
put_back-requires c = search (accepted_length, rules)

pub returns : goal.returns
returns c = acted _ _ _ (search rules) _ _ _ _ _ c.found-b.ensures c.withdraw-withdrawn.ensures (search rules) c.put_back.ensures
