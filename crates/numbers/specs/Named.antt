-- A place and a reading of the code as the paper's.
use Rattle.paper.specs.Units as paper
use Rattle.numbers.specs.declared.Place.{Place}
use Rattle.numbers.specs.declared.Reading.{Reading}

abbrev pub place_named : Place → paper.Place
place_named p = record { series = p.series; set = p.set; point = p.point }

abbrev pub triple_of : Reading → paper.Triple
triple_of v = record { x = v.x; y = v.y; h = v.h }
