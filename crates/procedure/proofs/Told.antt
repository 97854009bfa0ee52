-- A refusal of the code: as the paper's answer, and as a `?` hands it on.
-- Assumes nothing.
use Rattle.std.proofs.Common.{ℕ, ◌≡◌, Option, None, ok_or, Result, Err, refl, ap, ◌∙◌}
use Rattle.std.proofs.Math.Option as math
use Rattle.paper.specs.Refusals.{SUSPECT}
use Rattle.paper.specs.Books.{Sight}
use Rattle.paper.specs.Calls.{Question}
use Rattle.paper.specs.Answers.{Value, beside, answered}
use Rattle.procedure.specs.Refused.{number_of, told}
use Rattle.procedure.specs.declared.refusal.Refusal.{Refusal}
use Rattle.procedure.specs.declared.refusal.Refusal.TheVariants as is

-- one that names nothing
pub told_refused : {A : Type 0} (give : A → Value) (q : Question) (s : ℕ → math.Option Sight) (r : Refusal) → (number_of r ≡ SUSPECT → ⊥) → told give (beside q) (Err r) ≡ answered (number_of r) q s
told_refused give q s is.Register h = refl
told_refused give q s is.Place h = refl
told_refused give q s is.Open h = refl
told_refused give q s is.Terms h = refl
told_refused give q s is.Closed h = refl
told_refused give q s is.Filled h = refl
told_refused give q s is.Empty h = refl
told_refused give q s is.Far h = refl
told_refused give q s is.Nothing h = refl
told_refused give q s is.Short h = refl
told_refused give q s (is.Suspect u) h = absurd (h refl)
told_refused give q s is.Zero h = refl
told_refused give q s is.Room h = refl
told_refused give q s is.Form h = refl

-- what `o.ok_or(y)?` hands on
pub handed_on : {A B : Type 0} (o : Option A) (r : Result B Refusal) (e x y : Refusal) → o ≡ None → ◌≡◌ {A = Result A Refusal} (Err x) (ok_or o y) → e ≡ x → r ≡ Err e → r ≡ Err y
handed_on {A} o r e x y empty value same is =
    let named : ◌≡◌ {A = Result A Refusal} (Err x) (Err y) = value ∙ ap (λ o. ok_or o y) empty in
    let last : x ≡ y = cc in
    is ∙ ap Err (same ∙ last)
