-- The text as the code holds it, and the answers that have one.
use Rattle.std.specs.Prelude.{ℕ, ◌-◌, List, ◌++◌, length, replicate, Result, Ok, Err}
use Rattle.paper.specs.declared.Evaluation.{Evaluation}
use Rattle.procedure.specs.declared.refusal.Refusal.{Refusal}
use Rattle.procedure.specs.Refused.{named_by}
use Rattle.axes.specs.Given.{Fits, FitsAxis}
use Rattle.report.specs.declared.Printed.{Printed}

-- the bytes in which a report is held
abbrev pub REPORT : ℕ
REPORT = 80

-- the bytes of a text, its length, and zeros behind it
unfoldable pub held : List ℕ → Printed
held text = record { bytes = text ++ replicate (REPORT - length text) 0; len = length text }

-- figures, and what a refusal names, are numbers that a line can hold
abbrev pub FitsAnswer : Result Evaluation Refusal → Type 0
FitsAnswer (Ok e) = FitsAxis e.xy × FitsAxis e.h
FitsAnswer (Err r) = Fits (named_by r).series × Fits (named_by r).set × Fits (named_by r).quantity
