-- `sums::added_up` meets its contract. The invariant: both sums of what was passed, each with its bound. Assumes nothing.
use Rattle.std.proofs.Common.{ℕ, ◌*◌, arith, ap}
use Rattle.integers.specs.Sigma.{ΣN}
use Rattle.sums.proofs.Laws.{sq_step, sum-next, sum-all}
use Rattle.sums.proofs.added_up.Goals as goal

pub loop-i-init : goal.loop-i-init
unfolding ΣN
loop-i-init c = omega arith

pub overflow_mul-q : goal.overflow_mul-q
overflow_mul-q c = omega (arith, sq_step _ c.raised-u.ensures.1)

pub overflow_add-q : goal.overflow_add-q
overflow_add-q c = omega (arith, sq_step _ c.raised-u.ensures.1)

pub loop-i-preserved : goal.loop-i-preserved
loop-i-preserved c = let v = c.loop-i.invariant in
    let e = c.raised-u.ensures in (
      omega arith,
      sum-next _ _ _ _ v.1 e.0,
      sum-next _ _ _ _ v.2 (ap (λ (u : ℕ). u * u) e.0),
      omega (arith, e.1),
      omega (arith, sq_step _ e.1),
    )

pub returns : goal.returns
returns c = let v = c.loop-i.invariant in
    record { s = sum-all _ _ _ (omega arith) v.0 v.1; q = sum-all _ _ _ (omega arith) v.0 v.2; s-most = omega arith; q-most = v.4 }
