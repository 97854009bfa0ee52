-- `readings::read`: by what the call met; else the three lengths that stand there.
-- Assumes nothing.
use Rattle.std.proofs.Common.{rules}
use Rattle.std.proofs.lemmas.Result.{err_from_is_err_and}
use Rattle.book.proofs.Meaning.{sized}
use Rattle.readings.proofs.Asks.{read-refused, read_bound, read-done}
use Rattle.readings.proofs.read.Goals as goal

pub returns-in_err-place : goal.returns-in_err-place
returns-in_err-place c = let p = err_from_is_err_and c.from_residual.result c.from_residual.ensures.1 in
    rw (p.1, p.2) (read-refused _ _ (search (sized, rules)) _ c.in_err-place.ensures.goes)

pub length_of-requires : goal.length_of-requires
length_of-requires c = (read_bound _ (search (sized, rules)) _ _ c.in_ok-place.ensures.goes).0

pub length_of-requires-2 : goal.length_of-requires-2
length_of-requires-2 c = (read_bound _ (search (sized, rules)) _ _ c.in_ok-place.ensures.goes).1

pub length_of-requires-3 : goal.length_of-requires-3
length_of-requires-3 c = (read_bound _ (search (sized, rules)) _ _ c.in_ok-place.ensures.goes).2

pub returns : goal.returns
returns c = read-done _ (search (sized, rules)) _ _ c.in_ok-place.ensures.goes _ _ _ (search rules) (search rules) (search rules)
