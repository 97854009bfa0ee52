-- The numbers of the procedure and of the ranges as `constants` gives them.
use Rattle.paper.specs.Procedure.{SERIES, SETS, POINTS, ROUNDS, IN_SERIES, PLACES, DEGREES_H, DEGREES_XY, BOOKS, KEPT, SPAN, SPREAD, EARTH, NEARBY}
use Rattle.procedure.specs.declared.Numbers.{Numbers}

abbrev pub numbers : Numbers
numbers = record {
  series = SERIES;
  sets = SETS;
  points = POINTS;
  rounds = ROUNDS;
  in_series = IN_SERIES;
  places = PLACES;
  degrees_h = DEGREES_H;
  degrees_xy = DEGREES_XY;
  books = BOOKS;
  kept = KEPT;
  span = SPAN;
  spread = SPREAD;
  earth = EARTH;
  nearby = NEARBY;
}
