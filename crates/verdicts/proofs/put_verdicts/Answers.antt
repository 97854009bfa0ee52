-- `verdicts::put_verdicts`: two lines, and the last by both flags.
-- Assumes nothing.
use Rattle.std.proofs.Common.{◌++◌, cond, rules}
use Rattle.paper.specs.Verdicts.{both_within}
use Rattle.decimals.specs.Ascii.{ascii}
use Rattle.printing.proofs.Pieces.{room_first, room_second, both}
use Rattle.axes.specs.Text.{axis_line}
use Rattle.verdicts.specs.Text.{XY, H, PASS, FAIL, verdict_text}
use Rattle.verdicts.proofs.put_verdicts.Goals as goal

pub put_axis-requires : goal.put_axis-requires
unfolding verdict_text ascii
put_axis-requires g c = let a = c.args in
    let x = axis_line XY a.xy in
    let y = axis_line H a.h in
    (search rules, room_first _ x y _ (room_first _ (x ++ y) (cond (both_within a.xy a.h) PASS FAIL) _ c.requires))

pub put_axis-requires-2 : goal.put_axis-requires-2
unfolding verdict_text ascii
put_axis-requires-2 g c = let a = c.args in
    let x = axis_line XY a.xy in
    let y = axis_line H a.h in
    (search rules, room_second _ x y _ (room_first _ (x ++ y) (cond (both_within a.xy a.h) PASS FAIL) _ c.requires) _ c.put_axis.ensures)

pub put_either-requires : goal.put_either-requires
unfolding verdict_text ascii
put_either-requires g c = let a = c.args in
    let x = axis_line XY a.xy in
    let y = axis_line H a.h in
    let z = cond (both_within a.xy a.h) PASS FAIL in
    (search rules, room_second _ (x ++ y) z _ c.requires _ (both _ x y _ (room_first _ (x ++ y) z _ c.requires) _ c.put_axis.ensures _ c.put_axis-2.ensures))

pub returns : goal.returns
unfolding verdict_text ascii
returns g c = let a = c.args in
    let x = axis_line XY a.xy in
    let y = axis_line H a.h in
    let z = cond (both_within a.xy a.h) PASS FAIL in
    both _ (x ++ y) z _ c.requires _ (both _ x y _ (room_first _ (x ++ y) z _ c.requires) _ c.put_axis.ensures _ c.put_axis-2.ensures) _ c.put_either.ensures
