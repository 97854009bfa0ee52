-- `shelf::picked`: by the length, and whether the number is a book's.
-- Assumes nothing.
use native.Mathlib.Omega.{arith}
use borrow.Author.Tests.{eq-eqb, ne_eqb}
use Rattle.paper.specs.Procedure.{BOOKS}
use Rattle.paper.proofs.Tests.{among, known}
use Rattle.shelf.specs.Steps.{picked_of}
use borrow.Author.Rules.{rules}
use Rattle.shelf.proofs.picked.Goals as goal

pub returns-then-length-ne-REGISTER : goal.returns-then-length-ne-REGISTER
unfolding picked_of
returns-then-length-ne-REGISTER c = simp (ne_eqb _ _ c.if-length-ne-REGISTER.true, c.closed.ensures)

pub overflow_sub-a : goal.overflow_sub-a
overflow_sub-a c = (among BOOKS _ (known c.is_book.ensures c.if-is_book.true)).0

pub overflow_mul-a : goal.overflow_mul-a
overflow_mul-a c = let h = among BOOKS c.args.book (known c.is_book.ensures c.if-is_book.true) in
    search (rules, h)

pub load-requires : goal.load-requires
load-requires c = let h = among BOOKS c.args.book (known c.is_book.ensures c.if-is_book.true) in
    omega (arith, h.0, h.1, c.if-length-ne-REGISTER.false)

pub returns-then-is_book : goal.returns-then-is_book
unfolding picked_of
returns-then-is_book c = simp (eq-eqb _ _ c.if-length-ne-REGISTER.false, known c.is_book.ensures c.if-is_book.true, c.load.ensures)

pub returns : goal.returns
unfolding picked_of
returns c = simp (eq-eqb _ _ c.if-length-ne-REGISTER.false, known c.is_book.ensures c.if-is_book.false, c.closed-2.ensures)
