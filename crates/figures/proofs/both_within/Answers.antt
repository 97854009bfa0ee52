-- `figures::both_within` meets its contract. Assumes nothing.
use Rattle.std.proofs.Common.{arith}
use Rattle.image.specs.Lengths.{terms_of}
use Rattle.figures.proofs.Judging.{both_is}
use Rattle.figures.proofs.both_within.Goals as goal

pub within_by-requires : goal.within_by-requires
within_by-requires c = (c.sums-s.ensures.1.p, c.args.book.ready.scales 4 (omega arith) (omega arith))

pub within_by-requires-2 : goal.within_by-requires-2
within_by-requires-2 c = (c.sums-s.ensures.1.qh, c.args.book.ready.scales 5 (omega arith) (omega arith))

pub returns : goal.returns
unfolding terms_of
returns c = both_is _ _ _ _ _ c.sums-s.ensures.0 c.within_by.ensures c.within_by-2.ensures
