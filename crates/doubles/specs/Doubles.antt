-- What an evaluation gives, in doubles; and its answer as the record of the boundary.
use Rattle.std.specs.Prelude.{ℕ, ◌≡◌, Result, Ok, Err}
use Rattle.std.proofs.Math.Option.{none}
use Rattle.paper.specs.Figures.{doubles}
use Rattle.paper.specs.Verdicts.{verdict, mark_of}
use Rattle.paper.specs.TurnedAway.{evaluated}
use Rattle.paper.specs.Answers.{Answer}
use Rattle.paper.specs.declared.Evaluation as paper
use Rattle.procedure.specs.declared.refusal.Named.{Named}
use Rattle.procedure.specs.declared.refusal.Refusal.{Refusal}
use Rattle.procedure.specs.Refused.{number_of, names_of}
use Rattle.evaluation.specs.Evaluating.{evaluation_told, evaluation_in}
use Rattle.doubles.specs.declared.Evaluated.{Evaluated}
use Rattle.doubles.specs.declared.Evaluation.{Evaluation}

unfoldable pub doubled : paper.Evaluation → Evaluated
doubled e = record { sheet = doubles e.sheet; xy = verdict e.xy; h = verdict e.h }

-- an answer in doubles
abbrev pub doubled_result : Result paper.Evaluation Refusal → Result Evaluated Refusal
doubled_result (Ok e) = Ok (doubled e)
doubled_result (Err r) = Err r

-- it is that of an answer in whole numbers, which is the paper's
pub record Evaluates (r : Result Evaluated Refusal) (a : Answer) : Type 0 where
  pub whole : Result paper.Evaluation Refusal
  pub answer : evaluation_told whole ≡ a
  pub figures : r ≡ doubled_result whole

-- ---- the boundary

-- figures as doubles; a verdict is its number and two figures, by the paper's definition
unfoldable pub evaluation_of : Answer → Evaluation
evaluation_of a =
    let e = evaluation_in a.value in
    record {
      refusal = a.refused;
      series = a.suspect.series;
      set = a.suspect.set;
      quantity = a.suspect.quantity;
      sheet = doubles e.sheet;
      xy = mark_of (verdict e.xy);
      h = mark_of (verdict e.h);
    }

-- of an answer in doubles
abbrev pub plain_by : ℕ → Named → Evaluated → Evaluation
plain_by n s e =
    record {
      refusal = n;
      series = s.series;
      set = s.set;
      quantity = s.quantity;
      sheet = e.sheet;
      xy = mark_of e.xy;
      h = mark_of e.h;
    }

-- accepted it names nothing; beside a refusal figures are 0 and verdicts beyond
abbrev pub plain_of : Result Evaluated Refusal → Evaluation
plain_of (Ok e) = plain_by 0 (record { series = 0; set = 0; quantity = 0 }) e
plain_of (Err r) = plain_by (number_of r) (names_of r) (doubled (evaluated none))
