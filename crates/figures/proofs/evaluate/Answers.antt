-- `figures::evaluate` meets its contract. Assumes nothing.
use Rattle.std.proofs.Common.{arith}
use Rattle.image.specs.Lengths.{terms_of}
use Rattle.figures.proofs.Judging.{shown-xy, shown-h, evaluation_is}
use Rattle.figures.proofs.evaluate.Goals as goal

pub judged_by-xy-requires : goal.judged_by-xy-requires
judged_by-xy-requires c = let s = c.sums-s in
    let f = c.shown_of-sheet in
    (s.ensures.1.p, shown-xy _ _ f.ensures.0, f.ensures.1.sxy, c.args.book.ready.scales 4 (omega arith) (omega arith))

pub judged_by-h-requires : goal.judged_by-h-requires
judged_by-h-requires c = let f = c.shown_of-sheet in
    (c.sums-s.ensures.1.qh, shown-h _ _ f.ensures.0, f.ensures.1.sh, c.args.book.ready.scales 5 (omega arith) (omega arith))

pub returns : goal.returns
unfolding terms_of
returns c = (
  evaluation_is _ _ _ _ _ _ c.sums-s.ensures.0 c.shown_of-sheet.ensures.0 c.judged_by-xy.ensures.0 c.judged_by-h.ensures.0,
  record { sheet = c.shown_of-sheet.ensures.1; xy = c.judged_by-xy.ensures.1; h = c.judged_by-h.ensures.1 },
)
