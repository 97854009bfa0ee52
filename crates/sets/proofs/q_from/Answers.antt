-- `sets::q_from` meets its contract. Assumes nothing.
use Rattle.std.proofs.Common.{◌+◌, ◌≤◌, arith, ◌≡◌, rules}
use Rattle.limits.proofs.Limits.{squared}
use Rattle.sets.specs.Words.{APART}
use Rattle.sets.proofs.Sets.{q_from_is}
use Rattle.sets.proofs.q_from.Goals as goal
use Rattle.sets.proofs.q_from.Goals.{After-apart-dy, Start}

-- the two differences
module _ (c : After-apart-dy) where
  dx-le : c.apart-dx.result ≤ APART
  dx-le =
      let e : c.args.m + 0 ≡ c.args.m = omega arith in
      let n = rw e at c.requires.1 in
      omega (arith, n, c.apart-dx.ensures.1)

  dy-le : c.apart-dy.result ≤ APART
  dy-le = omega (arith, c.requires.2, c.apart-dy.ensures.1)

pub overflow_mul-result : goal.overflow_mul-result
overflow_mul-result c = omega (arith, squared (dx-le c))

pub overflow_mul-result-2 : goal.overflow_mul-result-2
overflow_mul-result-2 c = omega (arith, squared (dy-le c))

pub overflow_add-result : goal.overflow_add-result
overflow_add-result c = omega (arith, squared (dx-le c), squared (dy-le c))

pub returns : goal.returns
returns c = search (q_from_is, rules)
