-- The text of a refusal, which text is chosen, and what is given back.
-- Assumes nothing.
use Rattle.std.specs.Prelude.{Result, Ok, Err}
use Rattle.std.proofs.Common.{◌≡◌, refl, ap, ℕ, ◌≤◌, Bool, true, false, cond, eqb, List, [], ◌∷◌, ◌++◌, map, length, take, replicate, length-append, pos, arith, eq-eqb, ne_eqb, ◌-◌}
use lib.Seq.{take-append_seam}
use Rattle.rows.specs.Lists.{All}
use Rattle.paper.specs.Refusals.{SUSPECT}
use Rattle.paper.specs.Screening as paper
use Rattle.paper.specs.TurnedAway.{evaluated}
use Rattle.paper.specs.declared.Evaluation.{Evaluation}
use Rattle.paper.specs.declared.Judged.{Judged}
use Rattle.procedure.specs.declared.refusal.Suspect.{Suspect}
use Rattle.procedure.specs.declared.refusal.Refusal.{Refusal}
use Rattle.procedure.specs.declared.refusal.Refusal.TheVariants as is
use Rattle.procedure.specs.Refused.{number_of, named_by}
use Rattle.evaluation.specs.Evaluating.{evaluation_told}
use Rattle.decimals.specs.Ascii.{ascii}
use Rattle.decimals.specs.Numbers.{line}
use Rattle.arrayvec.specs.ArrayVec.{ArrayVec}
use Rattle.verdicts.specs.Text.{verdict_text}
use Rattle.axes.specs.Given.{Fits}
use Rattle.axes.proofs.Pieces.{long_numbers}
use Rattle.report.specs.Text.{REFUSED, refusal_numbers, refusal_text, report_text, value_text, report_of}
use Rattle.verdicts.proofs.Pieces.{long_verdicts}
use Rattle.report.specs.Given.{REPORT, FitsAnswer, held}
use Rattle.report.specs.declared.Printed.{Printed}

-- ---- what is chosen

module _ (n : ℕ) (s : paper.Suspect) where
  pub numbers-suspect : n ≡ SUSPECT → refusal_numbers n s ≡ map pos (n ∷ s.series ∷ s.set ∷ s.quantity ∷ [])
  unfolding refusal_numbers
  numbers-suspect e = rw (eq-eqb n SUSPECT e)

  pub numbers_other : (n ≡ SUSPECT → ⊥) → refusal_numbers n s ≡ map pos (n ∷ [])
  unfolding refusal_numbers
  numbers_other e = rw (ne_eqb n SUSPECT e)

  module _ (xy h : Judged) where
    pub text_accepted : n ≡ 0 → report_text n s xy h ≡ verdict_text xy h
    unfolding report_text
    text_accepted e = rw (eq-eqb n 0 e)

    pub text-refused : (n ≡ 0 → ⊥) → report_text n s xy h ≡ refusal_text n s
    unfolding report_text
    text-refused e = rw (ne_eqb n 0 e)

-- SUSPECT of the code, and what it names
pub named-suspect : (r : Refusal) (s : Suspect) → r ≡ is.Suspect s
    → refusal_numbers (number_of r) (named_by r) ≡ map pos (number_of r ∷ (named_by r).series ∷ (named_by r).set ∷ (named_by r).quantity ∷ [])
named-suspect r s e = numbers-suspect (number_of r) (named_by r) (ap number_of e)

-- any other refusal of the code
pub named_other : (r : Refusal) → ((s : Suspect) → r ≡ is.Suspect s → ⊥) → refusal_numbers (number_of r) (named_by r) ≡ map pos (number_of r ∷ [])
named_other r f = numbers_other (number_of r) (named_by r) (other r f)
  where
    other : (r : Refusal) → ((s : Suspect) → r ≡ is.Suspect s → ⊥) → number_of r ≡ SUSPECT → ⊥
    other is.Register f e = omega (arith, e)
    other is.Place f e = omega (arith, e)
    other is.Open f e = omega (arith, e)
    other is.Terms f e = omega (arith, e)
    other is.Closed f e = omega (arith, e)
    other is.Filled f e = omega (arith, e)
    other is.Empty f e = omega (arith, e)
    other is.Far f e = omega (arith, e)
    other is.Nothing f e = omega (arith, e)
    other is.Short f e = omega (arith, e)
    other (is.Suspect s) f e = f s refl
    other is.Zero f e = omega (arith, e)
    other is.Room f e = omega (arith, e)
    other is.Form f e = omega (arith, e)

-- the text of an answer of the code
pub told_verdicts : (e : Evaluation) → report_of (evaluation_told (Ok e)) ≡ verdict_text e.xy e.h
unfolding report_of value_text report_text
told_verdicts e = refl

pub told_refusal : (r : Refusal) → report_of (evaluation_told (Err r)) ≡ refusal_text (number_of r) (named_by r)
unfolding report_of value_text report_text evaluated
told_refusal is.Register = refl
told_refusal is.Place = refl
told_refusal is.Open = refl
told_refusal is.Terms = refl
told_refusal is.Closed = refl
told_refusal is.Filled = refl
told_refusal is.Empty = refl
told_refusal is.Far = refl
told_refusal is.Nothing = refl
told_refusal is.Short = refl
told_refusal (is.Suspect s) = refl
told_refusal is.Zero = refl
told_refusal is.Room = refl
told_refusal is.Form = refl

-- ---- how long

-- the number of a refusal
pub number_fits : (r : Refusal) → Fits (number_of r)
number_fits is.Register = omega arith
number_fits is.Place = omega arith
number_fits is.Open = omega arith
number_fits is.Terms = omega arith
number_fits is.Closed = omega arith
number_fits is.Filled = omega arith
number_fits is.Empty = omega arith
number_fits is.Far = omega arith
number_fits is.Nothing = omega arith
number_fits is.Short = omega arith
number_fits (is.Suspect s) = omega arith
number_fits is.Zero = omega arith
number_fits is.Room = omega arith
number_fits is.Form = omega arith

pub long_refusal : (n : ℕ) (s : paper.Suspect) → Fits n → Fits s.series → Fits s.set → Fits s.quantity → length (refusal_text n s) ≤ REPORT
unfolding refusal_text refusal_numbers All ascii
long_refusal n s p q r t = go (eqb n SUSPECT)
  where
    go : (b : Bool) → length (REFUSED ++ line (cond b (map pos (n ∷ s.series ∷ s.set ∷ s.quantity ∷ [])) (map pos (n ∷ [])))) ≤ REPORT
    go true = simp length-append (omega (arith, long_numbers (n ∷ s.series ∷ s.set ∷ s.quantity ∷ []) (p, (q, (r, (t, tt))))))
    go false = simp length-append (omega (arith, long_numbers (n ∷ []) (p, tt)))

-- no report is longer than the bytes in which it is held
pub report-room : (r : Result Evaluation Refusal) → FitsAnswer r → length (report_of (evaluation_told r)) ≤ REPORT
report-room (Ok e) f = rw (told_verdicts e) (omega (arith, long_verdicts e.xy e.h f.0.0 f.0.1 f.1.0 f.1.1))
report-room (Err r) f = rw (told_refusal r) (long_refusal (number_of r) (named_by r) (number_fits r) f.0 f.1 f.2)

-- ---- what is given back

abbrev printed : List ℕ → ℕ → Printed
printed bytes n = record { bytes = bytes; len = n }

-- what is appended to an empty text is the whole of it
pub text_is : (p start : ArrayVec ℕ) (t text : List ℕ) → t ≡ text → start.items ≡ [] → p.items ≡ start.items ++ text → p.items ≡ t
text_is p start t text e f q = rw e (rw f at q)

pub held_is : {items bytes : List ℕ} {n : ℕ} (t : List ℕ) → items ≡ t → bytes ≡ items ++ replicate (REPORT - length items) 0 → n ≡ length items → printed bytes n ≡ held t
unfolding held
held_is t i b n = rw (b, n, i)

-- the first `len` bytes are the text
pub held-text : (t : List ℕ) → take (held t).len (held t).bytes ≡ t
unfolding held
held-text t = take-append_seam t (replicate (REPORT - length t) 0)

-- and they lie within the bytes
pub held-room : (p : Printed) (t : List ℕ) → p ≡ held t → p.len ≤ length p.bytes
unfolding held
held-room p t e = rw e (rw length-append (omega arith))
