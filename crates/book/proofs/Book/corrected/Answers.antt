-- `book::Book::corrected`: the place sought; what refuses it, or the change.
-- Assumes nothing.
use Rattle.std.proofs.Common.{rules}
use Rattle.std.proofs.lemmas.Result.{err_from_is_err_and}
use Rattle.book.proofs.Meaning.{sized}
use Rattle.book.proofs.Changed.{corrected, correct_refused}
use Rattle.book.proofs.Book.corrected.Goals as goal

pub returns-in_err-place : goal.returns-in_err-place
returns-in_err-place c = let p = err_from_is_err_and c.from_residual.result c.from_residual.ensures.1 in
    rw (p.1, p.2) (correct_refused _ (search (sized, rules)) _ _ _ c.in_err-place.ensures.goes)

pub returns : goal.returns
returns c = search (corrected, sized, rules)
