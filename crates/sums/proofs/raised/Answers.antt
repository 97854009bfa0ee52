-- `sums::raised` meets its contract. Assumes nothing.
use Rattle.std.proofs.Common.{◌<◌, arith, rules}
use Rattle.image.proofs.Ready.{raised-fits, raised_low, raised-small}
use Rattle.sums.proofs.Laws.{index-small}
use Rattle.sums.proofs.raised.Goals as goal

pub overflow_add-result-2 : goal.overflow_add-result-2
overflow_add-result-2 c = let axis : c.index.result < 3 = omega (arith, c.index.ensures, index-small c.args.axis) in
    omega (arith, raised_low _ _ c.args.book.ready _ _ c.requires.0 c.requires.1 axis _ c.requires.2)

pub overflow_sub-result : goal.overflow_sub-result
overflow_sub-result c = let axis : c.index.result < 3 = omega (arith, c.index.ensures, index-small c.args.axis) in
    search (raised-fits, rules)

pub returns : goal.returns
returns c = rw (c.index.ensures) (search (raised-small, index-small, rules))
