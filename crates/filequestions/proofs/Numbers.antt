-- The numbers that a report prints are small.
-- Assumes nothing.
use Prim.Native.Nat.{ℕ, zero, suc}
use native.Mathlib.Omega.{arith}
use mathlib.Core.Path.{◌≡◌, refl, subst, ap}
use mathlib.Core.Bool.{Bool, true, false, cond, not, ◌&&◌}
use mathlib.Core.Option.{Option, none, some, map}
use mathlib.Core.List.{List, [], ◌∷◌}
use lib.Dec.{eqb, leb}
use borrow.Author.Tests.{leb-true}
use Rattle.paper.specs.Units.{Terms, Places, in_range, all_near}
use Rattle.paper.specs.Screening.{Suspect, sheet_order, first, first_suspect, suspicious}
use Rattle.paper.specs.Books as paper
use Rattle.paper.specs.Calls.{evaluate}
use Rattle.paper.specs.Refusals.{TERMS, CLOSED, FAR, SHORT, SUSPECT, FORM}
use Rattle.paper.specs.TurnedAway.{is_closed, short, suspect_of, found, lowest, evaluating, evaluated, questioned}
use Rattle.paper.specs.Answers.{evaluates, Answer, nowhere, named, suspect_in, given, beside, answered, says, unless}
use Rattle.paper.specs.Alone as alone
use Rattle.paper.specs.declared.Evaluation.{Evaluation}
use Rattle.paper.proofs.Tests.{and_left, and_right}
use Rattle.evaluation.specs.Evaluating.{evaluation_told}
use Rattle.procedure.specs.declared.refusal.Refusal.{Refusal}
use Rattle.procedure.specs.Refused.{named_by}
use Rattle.std.specs.Prelude.{Result, Ok, Err, IfOk}
use Rattle.figures.specs.Judging.{AllHeld}
use Rattle.axes.specs.Given as given
use Rattle.report.specs.Given.{FitsAnswer}

-- at most the greatest number of a refusal; those of a suspect are no greater
abbrev small : ℕ → Bool
small n = leb n FORM

-- ---- the suspect is one of the sheet's

abbrev small_suspect : Suspect → Bool
small_suspect s = small s.series && small s.set && small s.quantity

unfoldable every : List Suspect → Bool
every [] = true
every (s ∷ l) = small_suspect s && every l

sheet-small : every sheet_order ≡ true
unfolding every sheet_order
sheet-small = refl

first_small : (f : Suspect → Bool) (l : List Suspect) → every l ≡ true → (s : Suspect) → first f l ≡ some s → small_suspect s ≡ true
unfolding first every
first_small f [] e s h = let z : ◌≡◌ {A = ℕ} 0 1 = cc in absurd (omega arith)
first_small f (a ∷ l) e s h = go (f a) h (λ k. first_small f l (and_right (small_suspect a) (every l) e) s k)
  where
    go : (b : Bool) → cond b (some a) (first f l) ≡ some s → (first f l ≡ some s → small_suspect s ≡ true) → small_suspect s ≡ true
    go true k rest = let q : a ≡ s = cc in subst (λ (x : Suspect). small_suspect x ≡ true) q (and_left (small_suspect a) (every l) e)
    go false k rest = rest k

suspect-small : (o : Option paper.Sight) → small_suspect (named (suspect_of o) none) ≡ true
unfolding suspect_of first_suspect
suspect-small none = refl
suspect-small (some v) = go (first (suspicious v.terms v.places) sheet_order) refl
  where
    go : (q : Option Suspect) → first (suspicious v.terms v.places) sheet_order ≡ q → small_suspect (named q none) ≡ true
    go none e = refl
    go (some s) e = first_small (suspicious v.terms v.places) sheet_order sheet-small s e

-- ---- an answer to an evaluation

pub record Prints (a : Answer) : Type 0 where
  pub figures : Evaluation
  pub value : a.value ≡ evaluates figures
  pub refused : small a.refused ≡ true
  pub suspect : small_suspect a.suspect ≡ true

prints : (n : ℕ) (s : ℕ → Option paper.Sight) → small n ≡ true → Prints (answered n (evaluate 1) s)
unfolding given beside suspect_in
prints n s h = record {
  figures = cond (eqb n 0) (evaluated (s 1)) (evaluated none);
  value = values (eqb n 0);
  refused = h;
  suspect = suspects (eqb n SUSPECT);
}
  where
    values : (b : Bool) → cond b (evaluates (evaluated (s 1))) (evaluates (evaluated none)) ≡ evaluates (cond b (evaluated (s 1)) (evaluated none))
    values true = refl
    values false = refl

    suspects : (b : Bool) → small_suspect (cond b (named (suspect_of (s 1)) none) nowhere) ≡ true
    suspects true = suspect-small (s 1)
    suspects false = refl

evaluating-small : (o : Option paper.Sight) → small (lowest (questioned (evaluate 1) (λ k. o))) ≡ true
unfolding lowest questioned evaluating
evaluating-small o = go (is_closed o) (short o) (found (suspect_of o))
  where
    go : (a b c : Bool) → small (cond a CLOSED (cond b SHORT (cond c SUSPECT 0))) ≡ true
    go true b c = refl
    go false true c = refl
    go false false true = refl
    go false false false = refl

file_small : (c : Option (Terms × Places)) → small (alone.refused_file c) ≡ true
unfolding alone.refused_file lowest
file_small none = refl
file_small (some c) = go (in_range c.0) (all_near c.0 0 c.1)
  where
    go : (r n : Bool) → small (cond (not r) TERMS (cond (not n) FAR 0)) ≡ true
    go true true = refl
    go true false = refl
    go false n = refl

pub file_prints : (c : Option (Terms × Places)) → Prints (alone.evaluated_file c)
unfolding alone.evaluated_file alone.asked_alone says
file_prints c = go (alone.refused_file c) (file_small c)
  where
    go : (n : ℕ) → small n ≡ true → Prints (unless n (alone.asked_alone evaluate (some (alone.book_of c))) (answered n (evaluate 1) (λ k. none)))
    go zero h = prints (lowest (questioned (evaluate 1) (λ k. map paper.sight (alone.book_of c)))) (λ k. map paper.sight (alone.book_of c)) (evaluating-small (map paper.sight (alone.book_of c)))
    go (suc n) h = prints (suc n) (λ k. none) h

-- ---- its text

module _ (a : Answer) (p : Prints a) where
  three : (small a.suspect.series ≡ true) × (small a.suspect.set ≡ true) × (small a.suspect.quantity ≡ true)
  three =
      let x = small a.suspect.series in
      let y = small a.suspect.set in
      let z = small a.suspect.quantity in
      let e = and_left (x && y) z p.suspect in
      (and_left x y e, and_right x y e, and_right (x && y) z p.suspect)

  suspect-fits : given.Fits a.suspect.series × given.Fits a.suspect.set × given.Fits a.suspect.quantity
  suspect-fits = (
    omega (arith, leb-true a.suspect.series FORM three.0),
    omega (arith, leb-true a.suspect.set FORM three.1),
    omega (arith, leb-true a.suspect.quantity FORM three.2),
  )

-- ---- an answer of the code

pub answer-fits : (r : Result Evaluation Refusal) (a : Answer) → Prints a → evaluation_told r ≡ a → IfOk r AllHeld → FitsAnswer r
answer-fits (Ok e) a p t h = ((omega (arith, h.xy.m), omega (arith, h.xy.b)), (omega (arith, h.h.m), omega (arith, h.h.b)))
answer-fits (Err r) a p t h =
    let s = suspect-fits a p in
    let named : named_by r ≡ a.suspect = ap (λ (x : Answer). x.suspect) t in (
      rw named s.0,
      rw named s.1,
      rw named s.2,
    )
