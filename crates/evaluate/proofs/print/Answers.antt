-- `evaluate::print`: the report lies within the bytes that hold it.
-- Assumes nothing.
use mathlib.Core.Path.{sym}
use lib.Seq.{length-take-le}
use Rattle.report.proofs.Pieces.{held-room}
use Rattle.evaluate.proofs.print.Goals as goal

pub slice_bounds-text-end : goal.slice_bounds-text-end
slice_bounds-text-end g c = held-room _ _ c.report_file-printed.ensures

pub slice_bounds-write_all-end : goal.slice_bounds-write_all-end
slice_bounds-write_all-end g c = sym (length-take-le _ _ (held-room _ _ c.report_file-printed.ensures))
