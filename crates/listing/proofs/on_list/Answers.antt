-- `listing::on_list`: by whether the book is open.
-- Assumes nothing.
use native.Mathlib.Omega.{arith}
use mathlib.Core.Path.{◌∙◌}
use Rattle.lent.proofs.Image.{form-length, form-at}
use Rattle.book.proofs.Opened.{words-formed}
use Rattle.listing.proofs.Turns.{closed-not, open-passes}
use Rattle.listing.proofs.on_list.Goals as goal

pub load-b-requires : goal.load-b-requires
load-b-requires c = omega (arith, form-length _ c.requires.0, c.requires.1)

pub returns-then-b-eq0 : goal.returns-then-b-eq0
returns-then-b-eq0 c = closed-not _ _ c.load-b.ensures c.if-b-eq0.true

pub invariant_of-passes : goal.invariant_of-passes
invariant_of-passes c =
    record { formed = words-formed c.load-b.result (record { form = rw c.load-b.ensures (form-at _ _ c.requires.0 c.requires.1); opened = c.if-b-eq0.false }) }

pub returns : goal.returns
returns c = c.passes.ensures ∙ open-passes _ _ c.load-b.ensures c.if-b-eq0.false
