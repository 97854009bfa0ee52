-- `comparison::alike` meets its contract. Assumes nothing.
use Rattle.std.proofs.Common.{arith, mul-le-mul}
use Rattle.comparison.proofs.alike.Goals as goal

pub overflow_mul-least : goal.overflow_mul-least
overflow_mul-least c = omega (arith, mul-le-mul c.requires.0 c.requires.3)

pub overflow_mul-most : goal.overflow_mul-most
overflow_mul-most c = omega (arith, mul-le-mul c.requires.1 c.requires.3)
