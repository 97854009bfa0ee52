-- `form::all_zero`: the fold over the words.
-- Assumes nothing.
use mathlib.Core.Path.{◌∙◌}
use mathlib.Core.Bool.{true, ◌&&◌}
use lib.Dec.{eqb}
use borrow.Author.Rules.{rules}
use borrow.Author.Tests.{tests}
use Rattle.std.proofs.lemmas.Iterator.{YieldsList-from_slice}
use Rattle.std.proofs.lemmas.Iterator.Consumers.{fold_from_yields_List}
use Rattle.form.proofs.Turns.{zeros_folded}
use Rattle.form.proofs.all_zero.Goals as goal

pub returns : goal.returns
returns c = fold_from_yields_List _ (λ z w. z && eqb w 0) true _ c.fold.ensures.ran (YieldsList-from_slice c.args.words.now cc) (λ a x b q k. search (rules, tests))
    ∙ zeros_folded _
