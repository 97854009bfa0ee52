-- `limits::limit` meets its contract. Assumes nothing.
use Rattle.std.proofs.Common.{◌-◌, ◌≤◌, arith}
use Rattle.paper.specs.Procedure.{SPREAD}
use Rattle.image.specs.Lengths.{ORIGIN}
use Rattle.limits.proofs.Limits.{squared, limit_is}
use Rattle.limits.proofs.limit.Goals as goal
use Rattle.limits.proofs.limit.Goals.{Start}

-- a screening length is at most 10,000
least : (c : Start) → c.args.s - ORIGIN ≤ SPREAD
least c = omega (arith, c.requires)

pub overflow_mul-result : goal.overflow_mul-result
overflow_mul-result c = omega (arith, squared (least c))

pub overflow_mul-result-2 : goal.overflow_mul-result-2
overflow_mul-result-2 c = omega (arith, squared (least c))

pub returns : goal.returns
returns c = let low : ORIGIN ≤ c.args.s = omega arith in
    (limit_is _ low, omega (arith, squared (least c)))
