-- Document 01, "The field file": what the program prints of two verdicts.
use Rattle.std.specs.Prelude.{ℕ, cond, List, ◌++◌}
use Rattle.paper.specs.Verdicts.{both_within}
use Rattle.paper.specs.declared.Judged.{Judged}
use Rattle.decimals.specs.Ascii.{ascii}
use Rattle.axes.specs.Text.{axis_line}

abbrev pub XY : List ℕ
XY = ascii "XY "

abbrev pub H : List ℕ
H = ascii "H "

abbrev pub PASS : List ℕ
PASS = ascii "PASS\n"

abbrev pub FAIL : List ℕ
FAIL = ascii "FAIL\n"

-- for xy and h in turn; then PASS if both are within, else FAIL
unfoldable pub verdict_text : Judged → Judged → List ℕ
verdict_text xy h = axis_line XY xy ++ axis_line H h ++ cond (both_within xy h) PASS FAIL
