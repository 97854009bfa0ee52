-- `shelf::others_formed`: the books before it and those behind it; all where it is none.
-- Assumes nothing.
use native.Mathlib.Omega.{arith}
use Rattle.paper.specs.Procedure.{BOOKS}
use Rattle.paper.proofs.Tests.{among, known}
use Rattle.shelf.specs.Steps.{others_form}
use Rattle.shelf.proofs.others_formed.Goals as goal

pub overflow_sub-k : goal.overflow_sub-k
overflow_sub-k c = (among BOOKS _ (known c.is_book.ensures c.if-is_book.true)).0

pub formed_from-requires : goal.formed_from-requires
formed_from-requires c = let h = among BOOKS c.args.book (known c.is_book.ensures c.if-is_book.true) in
    (omega arith, omega (arith, h.1))

pub formed_from-requires-then-is_book : goal.formed_from-requires-then-is_book
formed_from-requires-then-is_book c = let h = among BOOKS _ (known c.is_book.ensures c.if-is_book.true) in
    (h.1, omega arith)

pub returns-then-is_book : goal.returns-then-is_book
unfolding others_form
returns-then-is_book c = rw (known c.is_book.ensures c.if-is_book.true, c.formed_from.ensures, c.formed_from-then-is_book.ensures)

pub returns : goal.returns
unfolding others_form
returns c = rw (known c.is_book.ensures c.if-is_book.false) c.formed.ensures
