-- `lent::formed_from`: by the length, then what `all` says of the numbers of the books.
-- Assumes nothing.
use Prim.Native.Nat.{◌-◌, ◌*◌}
use mathlib.Core.Path.{refl, sym, ◌∙◌}
use borrow.Author.Rules.{rules}
use borrow.Author.Tests.{tests}
use Rattle.std.proofs.lemmas.Iterator.{YieldsList-from_range}
use Rattle.std.proofs.lemmas.Iterator.Search.{all_from_yields_List}
use Rattle.book.specs.Meaning.{book_form}
use Rattle.stored.specs.Image.{BOOK, book_at}
use Rattle.lent.proofs.Image.{forms_by, between_off, between_is}
use Rattle.lent.proofs.formed_from.Goals as goal

pub returns-then-register-eq-REGISTER : goal.returns-then-register-eq-REGISTER
returns-then-register-eq-REGISTER c = let a = c.args in
    all_from_yields_List (λ k. book_form (book_at a.register.now (k * BOOK))) _ _ _ c.all.ensures.ran (YieldsList-from_range a.from a.to (a.to - a.from) refl refl) (λ x b q k. search (rules, tests))
    ∙ forms_by _ a.from a.to
    ∙ sym (between_is _ a.from a.to (search rules))

pub returns-else-register-eq-REGISTER : goal.returns-else-register-eq-REGISTER
returns-else-register-eq-REGISTER c = search (between_off, rules)
