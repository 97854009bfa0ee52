-- `book::Book::taken_back`: by what the book meets, and the count.
-- Assumes nothing.
use Rattle.std.proofs.Common.{◌<◌, arith, rules}
use Rattle.std.proofs.lemmas.Result.{err_from_is_err_and}
use Rattle.book.proofs.Meaning.{sized}
use Rattle.book.proofs.Opened.{met_open}
use Rattle.book.proofs.Back.{back_refused, step-nothing, back_small, step-undone}
use Rattle.book.proofs.Book.taken_back.Goals as goal

pub returns-in_err-met : goal.returns-in_err-met
returns-in_err-met c = let p = err_from_is_err_and c.from_residual.result c.from_residual.ensures.1 in
    rw (p.1, p.2) (back_refused _ (search (sized, rules)) _ c.in_err-met.ensures)

pub returns-then-self-eq0 : goal.returns-then-self-eq0
returns-then-self-eq0 c = search (step-nothing, sized, met_open, rules)

pub undone-requires : goal.undone-requires
undone-requires c = search (back_small, sized, met_open, rules)

pub returns : goal.returns
returns c = let o = met_open _ c.in_ok-met.ensures in
    let z : 0 < c.args.self.now.kept = omega arith in
    rw c.undone.ensures (step-undone _ (search (sized, rules)) o z)
