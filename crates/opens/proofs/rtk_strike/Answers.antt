-- `opens::rtk_strike`: the book found, struck, and put back.
-- Assumes nothing.
use Rattle.shelf.proofs.Acted.{accepted_length, acted}
use Rattle.std.proofs.Common.{rules}
use Rattle.opens.proofs.rtk_strike.Goals as goal

pub put_back-requires : goal.put_back-requires
put_back-requires c = search (accepted_length, rules)

pub returns : goal.returns
returns c = acted _ _ _ (search rules) _ _ _ _ _ c.found-b.ensures c.strike-struck.ensures (search rules) c.put_back.ensures
