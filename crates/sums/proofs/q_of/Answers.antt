-- `sums::q_of` meets its contract. Assumes nothing.
use Rattle.std.proofs.Common.{arith, mul-le-mul}
use Rattle.integers.specs.Sigma.{Q-raised-le}
use Rattle.paper.specs.Procedure.{ROUNDS}
use Rattle.sums.proofs.Laws.{index-small, most, Q-words}
use Rattle.sums.proofs.q_of.Goals as goal

pub overflow_mul-result-2 : goal.overflow_mul-result-2
overflow_mul-result-2 c = let e = c.added_up-sums.ensures in
    omega (arith, mul-le-mul e.s-most e.s-most)

pub overflow_sub-result : goal.overflow_sub-result
overflow_sub-result c = let e = c.added_up-sums.ensures in
    Q-raised-le ROUNDS _ _ _ e.s e.q

pub returns : goal.returns
returns c = let e = c.added_up-sums.ensures in (
  Q-words _ _ c.args.book.ready _ _ c.requires.0 c.requires.1 (index-small _) _ _ e.s e.q,
  most _ _ e.q-most e.s-most,
)
