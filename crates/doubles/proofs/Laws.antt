-- Sheet, verdict and answer in doubles are the paper's.
-- Assumes nothing.
use mathlib.Core.Path.{◌≡◌, refl, ap, ◌∙◌}
use Rattle.std.specs.Prelude.{Result, Ok, Err}
use mathlib.Core.Bool.{true, false}
use lib.Ieee.{Float}
use Rattle.whole.specs.Millimetres.{millimetres_of}
use Rattle.paper.specs.Figures.{doubles}
use Rattle.paper.specs.Verdicts.{verdict}
use Rattle.paper.specs.Answers.{Answer}
use Rattle.paper.specs.declared.Evaluation.{Evaluation}
use Rattle.paper.specs.declared.Shown.{Shown}
use Rattle.paper.specs.declared.Judged.{Judged}
use Rattle.paper.specs.declared.Sheet.{Sheet}
use Rattle.paper.specs.declared.Verdict.TheVariants.{Within, Beyond}
use Rattle.procedure.specs.declared.refusal.Refusal.{Refusal}
use Rattle.evaluation.specs.Evaluating.{evaluation_told}
use Rattle.doubles.specs.declared.Evaluated.{Evaluated}
use Rattle.doubles.specs.Doubles.{doubled, doubled_result, Evaluates, evaluation_of, plain_of}

pub sheet_is : (f : Shown) (x y xy h : Float) → x ≡ millimetres_of f.sx → y ≡ millimetres_of f.sy → xy ≡ millimetres_of f.sxy → h ≡ millimetres_of f.sh
    → ◌≡◌ {A = Sheet} (record { s_x = x; s_y = y; s_xy = xy; s_h = h }) (doubles f)
unfolding doubles
sheet_is f x y xy h ex ey exy eh = rw (ex, ey, exy, eh)

module _ (j : Judged) (d b : Float) (ed : d ≡ millimetres_of j.m) (eb : b ≡ millimetres_of j.b) where
  pub within_is : j.within ≡ true → Within d b ≡ verdict j
  unfolding verdict
  within_is e = rw (e, ed, eb)

  pub beyond_is : j.within ≡ false → Beyond d b ≡ verdict j
  unfolding verdict
  beyond_is e = rw (e, ed, eb)

-- ---- the record of the boundary, by the answer in whole numbers

pub plain-told : (r : Result Evaluation Refusal) → plain_of (doubled_result r) ≡ evaluation_of (evaluation_told r)
unfolding evaluation_of doubled
plain-told (Ok e) = refl
plain-told (Err r) = refl

pub plain_answer : (r : Result Evaluated Refusal) (a : Answer) → Evaluates r a → plain_of r ≡ evaluation_of a
plain_answer r a e = ap plain_of e.figures ∙ plain-told e.whole ∙ ap evaluation_of e.answer
