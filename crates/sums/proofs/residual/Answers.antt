-- `sums::residual` meets its contract. Assumes nothing.
use Rattle.std.proofs.Common.{◌*◌, ◌<◌, arith, ◌∙◌}
use Rattle.paper.specs.Procedure.{ROUNDS}
use Rattle.integers.specs.Machine.{minus-fits, minus-reads}
use Rattle.sums.proofs.Laws.{index-small, residual_words}
use Rattle.sums.proofs.residual.Goals as goal

pub overflow_sub-result : goal.overflow_sub-result
overflow_sub-result c = let sums = c.added_up-sums in
    let u = c.raised-u in
    let small : sums.result.s < 9223372036854775808 = omega (arith, sums.ensures.s-most) in
    let small' : ROUNDS * u.result < 9223372036854775808 = omega (arith, u.ensures.1) in
    minus-fits _ _ small small'

pub returns : goal.returns
returns c = let sums = c.added_up-sums in
    let u = c.raised-u in
    let small : sums.result.s < 9223372036854775808 = omega (arith, sums.ensures.s-most) in
    let small' : ROUNDS * u.result < 9223372036854775808 = omega (arith, u.ensures.1) in
    minus-reads _ _ small small'
    ∙ residual_words _ _ c.args.book.ready _ _ c.requires (index-small _) _ _ sums.ensures.s u.ensures.0
