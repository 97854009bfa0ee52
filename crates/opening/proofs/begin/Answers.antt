-- `opening::begin`: terms of any size are opened as their words are.
-- Assumes nothing.
use Rattle.std.proofs.Common.{rules, ◌∙◌}
use Rattle.book.proofs.Meaning.{sized}
use Rattle.opening.proofs.Opened.{begin_given}
use Rattle.opening.proofs.begin.Goals as goal

pub returns : goal.returns
returns c = c.step.ensures ∙ c.begun.ensures ∙ begin_given _ _ (search (sized, rules)) _ c.terms_of.ensures
