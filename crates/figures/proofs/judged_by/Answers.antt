-- `figures::judged_by` meets its contract. Assumes nothing.
use Rattle.std.proofs.Common.{◌≤◌, arith, mul-le-mul}
use Rattle.image.specs.Lengths.{ORIGIN}
use Rattle.figures.proofs.Judging.{sigma², judged_is}
use Rattle.figures.proofs.judged_by.Goals as goal

pub overflow_mul-s : goal.overflow_mul-s
overflow_mul-s c = omega (arith, sigma² c.requires.3.1)

pub overflow_mul-s-2 : goal.overflow_mul-s-2
overflow_mul-s-2 c = omega (arith, mul-le-mul (sigma² c.requires.3.1) c.args.test.small.3)

pub overflow_mul-s-3 : goal.overflow_mul-s-3
overflow_mul-s-3 c = omega (arith, mul-le-mul (sigma² c.requires.3.1) c.args.test.small.3)

pub returns : goal.returns
returns c = let low : ORIGIN ≤ c.args.sigma = omega arith in (
  judged_is _ _ _ _ _ _ _ _ _ low c.within_by-within.ensures c.requires.1 c.greatest-b.ensures.0,
  record { m = c.requires.2; b = c.greatest-b.ensures.1 },
)
