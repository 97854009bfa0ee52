-- What the acts want at their place: entering an empty one, every other a filled one.
-- Assumes nothing.
use Rattle.std.specs.Prelude.{ℕ, Bool, cond, Option, Some, None, Result}
use Rattle.paper.specs.Units.{Place}
use Rattle.procedure.specs.declared.refusal.Refusal.{Refusal}
use Rattle.procedure.specs.declared.refusal.Refusal.TheVariants as is
use Rattle.book.specs.declared.Book.{Book}
use Rattle.book.specs.Steps.{unless_met, reached_of}

pub data Wanted : Type 0 where
  Empty : Wanted
  Filled : Wanted

-- what refuses it at an empty place, and at a filled one
abbrev pub at_empty : Wanted → Option Refusal
at_empty Empty = None
at_empty Filled = Some is.Empty

abbrev pub at_filled : Wanted → Option Refusal
at_filled Empty = Some is.Filled
at_filled Filled = None

abbrev pub wanted_at : Wanted → Bool → ℕ → Result ℕ Refusal
wanted_at w empty q = unless_met (cond empty (at_empty w) (at_filled w)) q

abbrev pub wanted_of : Book → Place → Wanted → Result ℕ Refusal
wanted_of b p w = reached_of b p (at_empty w) (at_filled w)
