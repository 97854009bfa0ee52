-- `sets::distance_suspect` meets its contract. Assumes nothing.
use Rattle.std.proofs.Common.{arith, rules}
use Rattle.sets.proofs.Sets.{bounds, most-small, distance_is}
use Rattle.sets.proofs.distance_suspect.Goals as goal

pub q_from-q-requires : goal.q_from-q-requires
q_from-q-requires c = search (bounds, rules)

pub further-requires : goal.further-requires
further-requires c = omega (arith, most-small _ _ c.args.book.ready c.args.most c.requires.4)

pub returns : goal.returns
returns c = search (distance_is, rules)
