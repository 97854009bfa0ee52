-- Where the words of x, y and h stand in a reading.
use Rattle.std.specs.Prelude.{ℕ}
use Rattle.sums.specs.declared.coordinate.Coordinate.{Coordinate}
use Rattle.sums.specs.declared.coordinate.Coordinate.TheVariants.{X, Y, H}

abbrev pub index_of : Coordinate → ℕ
index_of X = 0
index_of Y = 1
index_of H = 2
