-- Document 01, "The field file": what the program prints of the verdict on an axis.
use Rattle.std.specs.Prelude.{ℕ, cond, List, [], ◌∷◌, ◌++◌, pos}
use Rattle.paper.specs.declared.Judged.{Judged}
use Rattle.decimals.specs.Ascii.{ascii}
use Rattle.decimals.specs.Numbers.{line}

abbrev pub WITHIN : List ℕ
WITHIN = ascii "WITHIN "

abbrev pub BEYOND : List ℕ
BEYOND = ascii "BEYOND "

-- axis, verdict, m and b
unfoldable pub axis_line : List ℕ → Judged → List ℕ
axis_line axis j = axis ++ cond j.within WITHIN BEYOND ++ line (pos j.m ∷ pos j.b ∷ [])
