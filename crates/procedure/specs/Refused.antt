-- Document 01, "Turned away" and "Screening": the paper's number of each refusal and of each quantity, and an answer of the code as the paper's.
use Rattle.std.specs.Prelude.{ℕ, Result, Ok, Err}
use Rattle.paper.specs.Refusals.{REGISTER, PLACE, OPEN, TERMS, CLOSED, FILLED, EMPTY, FAR, NOTHING, SHORT, SUSPECT, ZERO, ROOM, FORM}
use Rattle.paper.specs.Screening as paper
use Rattle.paper.specs.Answers.{Value, Answer, nowhere}
use Rattle.procedure.specs.declared.refusal.Quantity.{Quantity}
use Rattle.procedure.specs.declared.refusal.Quantity.TheVariants.{Distance, Height}
use Rattle.procedure.specs.declared.refusal.Suspect.{Suspect}
use Rattle.procedure.specs.declared.refusal.Named.{Named}
use Rattle.procedure.specs.declared.refusal.Refusal.{Refusal}
use Rattle.procedure.specs.declared.refusal.Refusal.TheVariants as is

abbrev pub quantity_number : Quantity → ℕ
quantity_number Distance = 1
quantity_number Height = 2

-- the set and the quantity that SUSPECT names
abbrev pub suspect_named : Suspect → paper.Suspect
suspect_named s = record { series = s.series; set = s.set; quantity = quantity_number s.quantity }

abbrev pub number_of : Refusal → ℕ
number_of is.Register = REGISTER
number_of is.Place = PLACE
number_of is.Open = OPEN
number_of is.Terms = TERMS
number_of is.Closed = CLOSED
number_of is.Filled = FILLED
number_of is.Empty = EMPTY
number_of is.Far = FAR
number_of is.Nothing = NOTHING
number_of is.Short = SHORT
number_of (is.Suspect s) = SUSPECT
number_of is.Zero = ZERO
number_of is.Room = ROOM
number_of is.Form = FORM

-- what a refusal names: SUSPECT a set and a quantity, every other nothing
abbrev pub named_by : Refusal → paper.Suspect
named_by (is.Suspect s) = suspect_named s
named_by _ = nowhere

-- the same in numbers of the code
abbrev pub names_of : Refusal → Named
names_of r = let s = named_by r in record { series = s.series; set = s.set; quantity = s.quantity }

-- an answer of the code as the paper's: accepted with a value, or refused; then `beside` stands in the value's place
abbrev pub told : {A : Type 0} → (A → Value) → Value → Result A Refusal → Answer
told give beside (Ok a) = record { refused = 0; suspect = nowhere; value = give a }
told give beside (Err r) = record { refused = number_of r; suspect = named_by r; value = beside }
