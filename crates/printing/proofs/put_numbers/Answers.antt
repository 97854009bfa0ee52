-- `printing::put_numbers`: what is written, ahead of what is left to write, is the whole line.
-- Assumes nothing.
use Rattle.std.proofs.Common.{get_or, pos, FitsSigned, rules}
use Rattle.std.specs.Int.{w128}
use Rattle.printing.proofs.Numbers.{room_for, written_on, line_done}
use Rattle.printing.proofs.put_numbers.Goals as goal

pub put_field-requires : goal.put_field-requires
put_field-requires g c =
    let fits : FitsSigned w128 (get_or c.args.numbers.now c.loop-i.i (pos 0)) = search rules in
    (search rules, room_for _ _ c.loop-i.out.items c.args.out.now.items c.loop-i.invariant _ c.loop-i-test.true fits c.sep_of.ensures _ c.requires)

pub loop-i-preserved : goal.loop-i-preserved
loop-i-preserved g c =
    let fits : FitsSigned w128 (get_or c.args.numbers.now c.loop-i.i (pos 0)) = search rules in
    written_on _ _ c.loop-i.out.items c.args.out.now.items c.loop-i.invariant _ c.loop-i-test.true fits c.sep_of.ensures _ c.put_field.ensures

pub returns : goal.returns
returns g c = line_done _ _ c.loop-i.out.items c.args.out.now.items c.loop-i.invariant c.loop-i-test.false
