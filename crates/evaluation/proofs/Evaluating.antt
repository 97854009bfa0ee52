-- The ways out of an evaluation, and of the pass list's test.
-- Assumes nothing.
use Rattle.std.proofs.Common.{Ok, Err, ℕ, ◌≡◌, true, false, List}
use Rattle.std.proofs.Math.Option.{none, some}
use Rattle.paper.specs.Units.{is_empty}
use Rattle.paper.specs.Screening.{first_suspect}
use Rattle.paper.specs.Verdicts.{judged_xy, judged_h, evaluation, both_within}
use Rattle.paper.specs.TurnedAway.{some?, short, suspect_of, lowest, evaluating, questioned, evaluated, on_list}
use Rattle.paper.specs.Answers.{suspect_in, given, beside, says}
use Rattle.paper.specs.declared.Evaluation.{Evaluation}
use Rattle.procedure.specs.Refused.{suspect_named}
use Rattle.procedure.specs.declared.refusal.Suspect.{Suspect}
use Rattle.procedure.specs.declared.refusal.Refusal.TheVariants as refusal
use Rattle.image.specs.Lengths.{terms_of}
use Rattle.image.specs.Places.{places_of}
use Rattle.image.specs.Sights.{sight_of}
use Rattle.evaluation.specs.Evaluating.{answer_to, evaluation_told}

-- ---- any book in form

module _ (t l : List ℕ) where
  pub short_is : some? is_empty (places_of l) ≡ true → evaluation_told (Err refusal.Short) ≡ answer_to (sight_of t l)
  unfolding answer_to says lowest questioned evaluating short beside
  short_is e = rw e

  module _ (full : some? is_empty (places_of l) ≡ false) where
    pub suspect_is : (s : Suspect) → some (suspect_named s) ≡ first_suspect (terms_of t) (places_of l) → evaluation_told (Err (refusal.Suspect s)) ≡ answer_to (sight_of t l)
    unfolding answer_to says lowest questioned evaluating short suspect_of suspect_in beside
    suspect_is s h = rw (full, ← h)

    pub clear_is : none ≡ first_suspect (terms_of t) (places_of l) → (e : Evaluation) → e ≡ evaluation (terms_of t) (places_of l) → evaluation_told (Ok e) ≡ answer_to (sight_of t l)
    unfolding answer_to says lowest questioned evaluating short suspect_of given evaluated
    clear_is h e f = rw (full, ← h, f)

-- ---- the pass list

module _ (t l : List ℕ) where
  pub short-off : some? is_empty (places_of l) ≡ true → false ≡ on_list (some (sight_of t l))
  unfolding on_list lowest evaluating short
  short-off e = rw e

  module _ (full : some? is_empty (places_of l) ≡ false) where
    pub suspect-off : (s : Suspect) → some (suspect_named s) ≡ first_suspect (terms_of t) (places_of l) → false ≡ on_list (some (sight_of t l))
    unfolding on_list lowest evaluating short suspect_of
    suspect-off s h = rw (full, ← h)

    pub clear_on : none ≡ first_suspect (terms_of t) (places_of l) → both_within (judged_xy (terms_of t) (places_of l)) (judged_h (terms_of t) (places_of l)) ≡ on_list (some (sight_of t l))
    unfolding on_list lowest evaluating short suspect_of evaluated evaluation
    clear_on h = rw (full, ← h)
