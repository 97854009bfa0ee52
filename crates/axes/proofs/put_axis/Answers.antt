-- `axes::put_axis`: three pieces, one after another.
-- Assumes nothing.
use Rattle.std.proofs.Common.{[], ◌∷◌, ◌++◌, cond, pos, rules}
use Rattle.decimals.specs.Ascii.{ascii}
use Rattle.decimals.specs.Numbers.{line}
use Rattle.printing.proofs.Numbers.{number_of}
use Rattle.printing.proofs.Pieces.{room_first, room_second, both}
use Rattle.axes.specs.Text.{WITHIN, BEYOND, axis_line}
use Rattle.axes.proofs.put_axis.Goals as goal

pub put_fixed-requires : goal.put_fixed-requires
unfolding axis_line ascii
put_fixed-requires g c = let j = c.args.axis in
    let word = cond j.within WITHIN BEYOND in
    (search rules, room_first _ c.args.name.now word _ (room_first _ (c.args.name.now ++ word) (line (pos j.m ∷ pos j.b ∷ [])) _ c.requires))

pub put_either-requires : goal.put_either-requires
unfolding axis_line ascii
put_either-requires g c = let j = c.args.axis in
    let word = cond j.within WITHIN BEYOND in
    (search rules, room_second _ c.args.name.now word _ (room_first _ (c.args.name.now ++ word) (line (pos j.m ∷ pos j.b ∷ [])) _ c.requires) _ c.put_fixed.ensures)

pub put_numbers-requires : goal.put_numbers-requires
unfolding axis_line ascii
put_numbers-requires g c = let j = c.args.axis in
    let word = cond j.within WITHIN BEYOND in
    let figures = line (pos j.m ∷ pos j.b ∷ []) in
    let mid = both _ c.args.name.now word _ (room_first _ (c.args.name.now ++ word) figures _ c.requires) _ c.put_fixed.ensures _ c.put_either.ensures in
    (search rules, rw (number_of c.from.result j.m (search rules) c.from.ensures, number_of c.from-2.result j.b (search rules) c.from-2.ensures) (room_second _ (c.args.name.now ++ word) figures _ c.requires _ mid))

pub returns : goal.returns
unfolding axis_line ascii
returns g c = let j = c.args.axis in
    let word = cond j.within WITHIN BEYOND in
    let figures = line (pos j.m ∷ pos j.b ∷ []) in
    let mid = both _ c.args.name.now word _ (room_first _ (c.args.name.now ++ word) figures _ c.requires) _ c.put_fixed.ensures _ c.put_either.ensures in
    both _ (c.args.name.now ++ word) figures _ c.requires _ mid _ (rw (number_of c.from.result j.m (search rules) c.from.ensures, number_of c.from-2.result j.b (search rules) c.from-2.ensures) at c.put_numbers.ensures)
