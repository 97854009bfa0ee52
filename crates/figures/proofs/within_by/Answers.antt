-- `figures::within_by` meets its contract. Assumes nothing.
use Rattle.std.proofs.Common.{◌≤◌, arith, mul-le-mul}
use Rattle.image.specs.Lengths.{ORIGIN}
use Rattle.figures.proofs.Judging.{sigma², within_by_is}
use Rattle.figures.proofs.within_by.Goals as goal

pub overflow_mul-tested : goal.overflow_mul-tested
overflow_mul-tested c = omega (arith, mul-le-mul c.args.test.small.0 c.requires.0)

pub overflow_mul-limit : goal.overflow_mul-limit
overflow_mul-limit c = omega (arith, sigma² c.requires.1.1)

pub overflow_mul-limit-2 : goal.overflow_mul-limit-2
overflow_mul-limit-2 c = omega (arith, mul-le-mul c.args.test.small.1 (sigma² c.requires.1.1))

pub returns : goal.returns
returns c = let low : ORIGIN ≤ c.args.sigma = omega arith in within_by_is _ _ _ _ low
