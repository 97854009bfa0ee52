-- `report::put_refusal`: two pieces, the numbers by the refusal.
-- Assumes nothing.
use Rattle.std.proofs.Common.{rules}
use Rattle.decimals.specs.Ascii.{ascii}
use Rattle.decimals.specs.Numbers.{line}
use Rattle.printing.proofs.Numbers as number
use Rattle.printing.proofs.Pieces.{room_first, room_second, both}
use Rattle.procedure.specs.Refused.{number_of, named_by}
use Rattle.report.specs.Text.{REFUSED, refusal_numbers, refusal_text}
use Rattle.report.proofs.Pieces.{named-suspect, named_other}
use Rattle.report.proofs.put_refusal.Goals as goal

pub put_fixed-requires : goal.put_fixed-requires
unfolding refusal_text ascii
put_fixed-requires g c = let r = c.args.refusal in
    (search rules, room_first _ REFUSED (line (refusal_numbers (number_of r) (named_by r))) _ c.requires)

pub put_numbers-requires : goal.put_numbers-requires
unfolding refusal_text ascii
put_numbers-requires g c = let r = c.args.refusal in
    let room = room_second _ REFUSED (line (refusal_numbers (number_of r) (named_by r))) _ c.requires _ c.put_fixed.ensures in
    let n = c.names-named.result in
    (search rules, rw (number.number_of c.from.result c.number.result (search rules) c.from.ensures, number.number_of c.from-2.result n.series (search rules) c.from-2.ensures, number.number_of c.from-3.result n.set (search rules) c.from-3.ensures, number.number_of c.from-4.result n.quantity (search rules) c.from-4.ensures, c.number.ensures, c.names-named.ensures, ← named-suspect r _ c.in-Suspect.is) room)

pub put_numbers-requires-in_default : goal.put_numbers-requires-in_default
unfolding refusal_text ascii
put_numbers-requires-in_default g c = let r = c.args.refusal in
    let room = room_second _ REFUSED (line (refusal_numbers (number_of r) (named_by r))) _ c.requires _ c.put_fixed.ensures in
    (search rules, rw (number.number_of c.from.result c.number.result (search rules) c.from.ensures, c.number.ensures, ← named_other r c.in_default.not-Suspect) room)

pub returns-in-Suspect : goal.returns-in-Suspect
unfolding refusal_text ascii
returns-in-Suspect g c = let r = c.args.refusal in
    let n = c.names-named.result in
    both _ REFUSED (line (refusal_numbers (number_of r) (named_by r))) _ c.requires _ c.put_fixed.ensures _ (rw (number.number_of c.from.result c.number.result (search rules) c.from.ensures, number.number_of c.from-2.result n.series (search rules) c.from-2.ensures, number.number_of c.from-3.result n.set (search rules) c.from-3.ensures, number.number_of c.from-4.result n.quantity (search rules) c.from-4.ensures, c.number.ensures, c.names-named.ensures, ← named-suspect r _ c.in-Suspect.is) at c.put_numbers.ensures)

pub returns-in_default : goal.returns-in_default
unfolding refusal_text ascii
returns-in_default g c = let r = c.args.refusal in
    both _ REFUSED (line (refusal_numbers (number_of r) (named_by r))) _ c.requires _ c.put_fixed.ensures _ (rw (number.number_of c.from.result c.number.result (search rules) c.from.ensures, c.number.ensures, ← named_other r c.in_default.not-Suspect) at c.put_numbers-in_default.ensures)
