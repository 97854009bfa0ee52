-- `sets::height_suspect` meets its contract. Assumes nothing.
use Rattle.std.proofs.Common.{◌+◌, ◌≤◌, arith, get_or}
use Rattle.image.specs.Lengths.{ORIGIN}
use Rattle.sets.specs.Words.{Close}
use Rattle.sets.proofs.Sets.{bounds, height_is}
use Rattle.sets.proofs.height_suspect.Goals as goal
use Rattle.sets.proofs.height_suspect.Goals.{After-words_from-m}

-- the heights of the set
close : (c : After-words_from-m) → Close c.args.book.cells.now c.words_from-m.result 2
close c =
    bounds c.args.book.terms.now c.args.book.cells.now c.args.book.ready c.args.series c.args.set c.requires.0 c.requires.1 c.requires.2 c.requires.3 c.words_from-m.result c.words_from-m.ensures 2 (omega arith)

pub overflow_add-rise-2 : goal.overflow_add-rise-2
overflow_add-rise-2 c = omega (arith, close (goal.at.overflow_add-rise-2 c).After-words_from-m)

pub overflow_sub-rise : goal.overflow_sub-rise
overflow_sub-rise c = omega (arith, close (goal.at.overflow_sub-rise c).After-words_from-m)

pub beyond-requires : goal.beyond-requires
beyond-requires c = let r = c.args.book.ready in
    (r.scales 3 (omega arith) (omega arith), omega (arith, close (goal.at.beyond-requires c).After-words_from-m, r.height, c.apart-d.ensures.1))

pub returns : goal.returns
returns c = let m = c.words_from-m.result in
    let h : get_or c.args.book.cells.now (m + 2) 0 ≤ get_or c.args.book.cells.now (m + 5) 0 + ORIGIN = omega (arith, close (goal.at.returns c).After-words_from-m) in
    height_is _ _ c.args.book.ready _ _ c.requires.0 c.requires.1 c.requires.2 c.requires.3 m c.words_from-m.ensures _ _ h c.apart-d.ensures.0 c.beyond.ensures
