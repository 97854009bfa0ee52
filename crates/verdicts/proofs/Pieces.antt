-- How long the text of two verdicts is.
-- Assumes nothing.
use Rattle.std.proofs.Common.{◌≤◌, refl, length, length-append, arith}
use Rattle.paper.specs.Verdicts.{both_within}
use Rattle.paper.specs.declared.Judged.{Judged}
use Rattle.decimals.specs.Ascii.{ascii}
use Rattle.axes.specs.Given.{Fits}
use Rattle.axes.proofs.Pieces.{long_cond, long_axis}
use Rattle.verdicts.specs.Text.{XY, H, PASS, FAIL, verdict_text}

pub long_verdicts : (xy h : Judged) → Fits xy.m → Fits xy.b → Fits h.m → Fits h.b → length (verdict_text xy h) ≤ 80
unfolding verdict_text ascii
long_verdicts xy h p q r s =
    simp length-append
    (omega (arith, long_axis XY xy p q, long_axis H h r s, long_cond (both_within xy h) PASS FAIL 5 refl refl))
