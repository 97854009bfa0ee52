-- `screen::first_suspect` meets its contract. The invariant: nothing is found, and the series and sets before are clear. Assumes nothing.
use Rattle.std.proofs.Common.{◌+◌, ◌-◌, ◌≤◌, ◌≡◌, None}
use Rattle.paper.specs.Procedure.{SERIES, SETS}
use Rattle.image.specs.Lengths.{terms_of}
use Rattle.image.specs.Places.{places_of}
use Rattle.screen.proofs.Order.{SeriesClear, SetsClear}
use Rattle.screen.proofs.first_suspect.Given as goal

abbrev pub invariant-loop-set : goal.invariant-loop-set
invariant-loop-set l = (l.found ≡ None) × (1 ≤ l.series) × (l.series ≤ SERIES) × (1 ≤ l.set) × (l.set ≤ SETS + 1) × SeriesClear (terms_of l.book.terms.now) (places_of l.book.cells.now) l.series × SetsClear (terms_of l.book.terms.now) (places_of l.book.cells.now) l.series l.set

abbrev pub decreases-loop-set : goal.decreases-loop-set
decreases-loop-set l = SETS + 1 - l.set

abbrev pub invariant-search : goal.invariant-search
invariant-search l = (l.found ≡ None) × (1 ≤ l.series) × (l.series ≤ SERIES + 1) × SeriesClear (terms_of l.book.terms.now) (places_of l.book.cells.now) l.series

abbrev pub decreases-search : goal.decreases-search
decreases-search l = SERIES + 1 - l.series
