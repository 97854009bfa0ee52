-- `opening::begun`: by the form, whether the book is open, and the ranges.
-- Assumes nothing.
use Rattle.std.proofs.Common.{rules}
use Rattle.book.proofs.Meaning.{sized}
use Rattle.book.proofs.Steps.{step-unformed}
use Rattle.opening.proofs.Opened.{begin_open, begin_range, begun_with, blank-words}
use Rattle.opening.proofs.begun.Goals as goal

pub returns-then-not-in_form : goal.returns-then-not-in_form
returns-then-not-in_form c = step-unformed _ _ (search rules)

pub returns-then-b-ne0 : goal.returns-then-b-ne0
returns-then-b-ne0 c = begin_open _ (search (sized, rules)) (search rules) _ (search rules)

pub returns-then-not-in_range : goal.returns-then-not-in_range
returns-then-not-in_range c = begin_range _ (search (sized, rules)) (search rules) _ (search rules) (search rules)

pub returns : goal.returns
returns c = begun_with _ (search (sized, rules)) (search rules) _ _ (search rules) (search rules) (search (blank-words, rules))
