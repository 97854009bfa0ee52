-- `book::Book::entered`: the place sought; what refuses it, or the change.
-- Assumes nothing.
use Rattle.std.proofs.Common.{rules}
use Rattle.std.proofs.lemmas.Result.{err_from_is_err_and}
use Rattle.book.proofs.Meaning.{sized}
use Rattle.book.proofs.Changed.{entered, enter_refused}
use Rattle.book.proofs.Book.entered.Goals as goal

pub returns-in_err-place : goal.returns-in_err-place
returns-in_err-place c = let p = err_from_is_err_and c.from_residual.result c.from_residual.ensures.1 in
    rw (p.1, p.2) (enter_refused _ (search (sized, rules)) _ _ _ c.in_err-place.ensures.goes)

pub returns : goal.returns
returns c = search (entered, sized, rules)
