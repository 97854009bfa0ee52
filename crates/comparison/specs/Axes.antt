-- The number of an axis in a call.
use Rattle.std.specs.Prelude.{ℕ}
use Rattle.comparison.specs.declared.axis.Axis.{Axis}
use Rattle.comparison.specs.declared.axis.Axis.TheVariants.{Xy, H}

-- 1 is xy, 2 is h
abbrev pub axis_number : Axis → ℕ
axis_number Xy = 1
axis_number H = 2
