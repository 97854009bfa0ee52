-- `places::any_empty`: what `any` says of the numbers of the places.
-- Assumes nothing.
use mathlib.Core.Path.{refl, ◌∙◌}
use borrow.Author.Rules.{rules}
use borrow.Author.Tests.{tests}
use Rattle.std.proofs.lemmas.Iterator.{YieldsList-from_range}
use Rattle.std.proofs.lemmas.Iterator.Search.{any_from_yields_List}
use Rattle.paper.specs.Procedure.{PLACES}
use Rattle.places.proofs.Turns.{empty, empties_all}
use Rattle.places.proofs.any_empty.Goals as goal

pub returns : goal.returns
returns c = any_from_yields_List (empty c.args.cells.now) _ _ _ c.any.ensures.ran (YieldsList-from_range 0 PLACES PLACES refl refl) (λ x b q k. search (rules, tests))
    ∙ empties_all _
