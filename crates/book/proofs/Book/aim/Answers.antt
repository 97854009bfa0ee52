-- `book::Book::aim`: by the form, the place, and whether the book is open.
-- Assumes nothing.
use Rattle.std.proofs.Common.{arith}
use Rattle.image.proofs.Places.{place_out, place_in}
use Rattle.numbers.specs.Named.{place_named}
use Rattle.book.specs.Steps.{aim_of}
use Rattle.book.proofs.Book.aim.Goals as goal

pub returns-then-place-ge-PLACES-clause-goes : goal.returns-then-place-ge-PLACES-clause-goes
unfolding aim_of
returns-then-place-ge-PLACES-clause-goes c = let at = place_named c.args.at in
    grind (arith, place_out at (omega (arith, c.place_of-place.ensures)))

pub returns-then-self-eq0-clause-goes : goal.returns-then-self-eq0-clause-goes
unfolding aim_of
returns-then-self-eq0-clause-goes c = let at = place_named c.args.at in
    let p = place_in at (omega (arith, c.place_of-place.ensures)) in
    grind (arith, p.0)

pub returns-else-self-eq0-clause-goes : goal.returns-else-self-eq0-clause-goes
unfolding aim_of
returns-else-self-eq0-clause-goes c = let at = place_named c.args.at in
    let p = place_in at (omega (arith, c.place_of-place.ensures)) in
    grind (arith, p.0, p.1)
