-- The ways out of a comparison.
-- Assumes nothing.
use Rattle.std.proofs.Common.{ℕ, Err, ◌≡◌, refl, Bool, true, false, List, eqb}
use Rattle.std.proofs.Math.Option.{none, some}
use Rattle.paper.specs.Units.{one_to, is_empty}
use Rattle.paper.specs.Screening.{first_suspect}
use Rattle.paper.specs.Verdicts.{sum}
use Rattle.paper.specs.TurnedAway.{some?, short, suspect_of, sum_of, lowest, questioned}
use Rattle.paper.specs.Answers.{suspect_in, given, beside, says}
use Rattle.procedure.specs.Refused.{suspect_named}
use Rattle.procedure.specs.declared.refusal.Suspect.{Suspect}
use Rattle.procedure.specs.declared.refusal.Refusal.TheVariants as refusal
use Rattle.image.specs.Lengths.{terms_of}
use Rattle.image.specs.Places.{places_of}
use Rattle.image.specs.Sights.{sight_of}
use Rattle.comparison.specs.declared.axis.Axis.{Axis}
use Rattle.comparison.specs.declared.axis.Axis.TheVariants.{Xy, H}
use Rattle.comparison.specs.Axes.{axis_number}
use Rattle.comparison.specs.Comparing.{comparison_to, comparison_told, by_sums}

-- an axis has a number of a call
pub known_axis : (axis : Axis) → one_to 2 (axis_number axis) ≡ true
known_axis Xy = refl
known_axis H = refl

-- ---- any two books in form

module _ (axis : Axis) (t l u m : List ℕ) where
  pub short-first : some? is_empty (places_of l) ≡ true → comparison_told (Err refusal.Short) ≡ comparison_to (axis_number axis) (sight_of t l) (sight_of u m)
  unfolding comparison_to says lowest questioned beside short
  short-first e = rw (known_axis axis, e)

  module _ (full : some? is_empty (places_of l) ≡ false) where
    pub short_second : some? is_empty (places_of m) ≡ true → comparison_told (Err refusal.Short) ≡ comparison_to (axis_number axis) (sight_of t l) (sight_of u m)
    unfolding comparison_to says lowest questioned beside short
    short_second e = rw (known_axis axis, full, e)

    module _ (full' : some? is_empty (places_of m) ≡ false) where
      pub suspect-first : (s : Suspect) → some (suspect_named s) ≡ first_suspect (terms_of t) (places_of l) → comparison_told (Err (refusal.Suspect s)) ≡ comparison_to (axis_number axis) (sight_of t l) (sight_of u m)
      unfolding comparison_to says lowest questioned beside suspect_in suspect_of short
      suspect-first s e = rw (known_axis axis, full, full', ← e)

      module _ (clear : none ≡ first_suspect (terms_of t) (places_of l)) where
        pub suspect_second : (s : Suspect) → some (suspect_named s) ≡ first_suspect (terms_of u) (places_of m) → comparison_told (Err (refusal.Suspect s)) ≡ comparison_to (axis_number axis) (sight_of t l) (sight_of u m)
        unfolding comparison_to says lowest questioned beside suspect_in suspect_of short
        suspect_second s e = rw (known_axis axis, full, full', ← clear, ← e)

        by_sums_on : (z : Bool) → eqb (sum (axis_number axis) (terms_of u) (places_of m)) 0 ≡ z → none ≡ first_suspect (terms_of u) (places_of m)
            → comparison_told (by_sums (axis_number axis) (sum (axis_number axis) (terms_of t) (places_of l)) (sum (axis_number axis) (terms_of u) (places_of m))) ≡ comparison_to (axis_number axis) (sight_of t l) (sight_of u m)
        unfolding by_sums comparison_to says lowest questioned beside given suspect_of sum_of short
        by_sums_on true z e = rw (known_axis axis, full, full', ← clear, ← e, z)
        by_sums_on false z e = rw (known_axis axis, full, full', ← clear, ← e, z)

        pub by_sums_lem : none ≡ first_suspect (terms_of u) (places_of m)
            → comparison_told (by_sums (axis_number axis) (sum (axis_number axis) (terms_of t) (places_of l)) (sum (axis_number axis) (terms_of u) (places_of m))) ≡ comparison_to (axis_number axis) (sight_of t l) (sight_of u m)
        by_sums_lem = by_sums_on (eqb (sum (axis_number axis) (terms_of u) (places_of m)) 0) refl
