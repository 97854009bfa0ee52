-- The numbers that a line can hold.
use Rattle.std.specs.Prelude.{ℕ, pos}
use Rattle.paper.specs.declared.Judged.{Judged}
use Rattle.decimals.specs.Numbers.{Short}

abbrev pub Fits : ℕ → Type 0
Fits n = Short (pos n)

abbrev pub FitsAxis : Judged → Type 0
FitsAxis j = Fits j.m × Fits j.b
