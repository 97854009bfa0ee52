-- `register::passed`: by the form, and by whether the list has room.
-- Assumes nothing.
use Rattle.std.proofs.Common.{sym, arith}
use lib.Seq.{length-take-le}
use Rattle.readings.specs.Answers.{count_of}
use Rattle.register.proofs.Ways.{list_unformed, list_room, list_written}
use Rattle.register.proofs.passed.Goals as goal

pub returns-then-not-formed : goal.returns-then-not-formed
unfolding count_of
returns-then-not-formed c = list_unformed _ _ (sym c.if-not-formed.ensures)

pub returns-then-list-roll : goal.returns-then-list-roll
unfolding count_of
returns-then-list-roll c = let roll = c.listed-roll.result in
    let n = length-take-le roll.count roll.numbers (omega (arith, c.listed-roll.ensures.1, c)) in
    list_room _ _ (sym c.if-not-formed.ensures) _ c.listed-roll.ensures.0 (omega (arith, n, c.if-list-roll.true))

pub returns : goal.returns
unfolding count_of
returns c = let roll = c.listed-roll.result in
    let n = length-take-le roll.count roll.numbers (omega (arith, c.listed-roll.ensures.1, c)) in
    rw n at (list_written _ _ (sym c.if-not-formed.ensures) _ c.listed-roll.ensures.0 _ (omega (arith, n, c.if-list-roll.false)) c.write.ensures)
