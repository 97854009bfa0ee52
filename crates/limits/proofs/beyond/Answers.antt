-- `limits::beyond` meets its contract. Assumes nothing.
use Rattle.std.proofs.Common.{arith, rules}
use Rattle.limits.proofs.Limits.{squared, beyond_is}
use Rattle.limits.proofs.beyond.Goals as goal

pub overflow_mul-result : goal.overflow_mul-result
overflow_mul-result c = omega (arith, squared c.requires.1)

pub overflow_mul-result-2 : goal.overflow_mul-result-2
overflow_mul-result-2 c = omega (arith, squared c.requires.1)

pub returns : goal.returns
returns c = search (beyond_is, rules)
