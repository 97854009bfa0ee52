-- `contents::read`: of the form exactly if nothing is left.
-- Assumes nothing.
use Rattle.std.proofs.Common.{rules}
use Rattle.contents.proofs.Steps.{file_end, file_more}
use Rattle.contents.proofs.read.Goals as goal

pub returns : goal.returns
returns c =
    let end = file_end _ _ _ _ _ _ c.if-file-gt-LONGEST.false c.in_ok-counts.ensures c.in_ok-terms.ensures _ c.in_ok-cells.ensures in
    let more = file_more _ _ _ _ _ _ c.if-file-gt-LONGEST.false c.in_ok-counts.ensures c.in_ok-terms.ensures _ c.in_ok-cells.ensures in
    search rules
