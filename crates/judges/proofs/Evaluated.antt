-- An evaluation of the book of a number.
-- Assumes nothing.
use Rattle.std.proofs.Common.{◌≡◌, refl, ap, ◌∙◌, ℕ, List, Bool, true, false, cond}
use Rattle.std.specs.Prelude.{Result, Ok, Err}
use Rattle.paper.specs.Procedure.{BOOKS}
use Rattle.paper.specs.Units.{one_to}
use Rattle.paper.specs.Calls.{ask, evaluate}
use Rattle.paper.specs.Answers as answer
use Rattle.paper.specs.Alone.{asked_alone}
use Rattle.paper.specs.declared.Evaluation.{Evaluation}
use Rattle.procedure.specs.declared.refusal.Refusal.{Refusal}
use Rattle.procedure.specs.declared.refusal.Refusal.TheVariants as is
use Rattle.book.specs.declared.Book.{Book}
use Rattle.book.specs.Meaning.{seen}
use Rattle.doubles.specs.declared.Evaluated.{Evaluated}
use Rattle.doubles.specs.Doubles.{doubled, doubled_result, Evaluates}
use Rattle.lent.specs.Calls.{called}
use Rattle.shelving.specs.Steps.{meets_register, addressed_of}
use Rattle.shelf.specs.Steps.{found_of}
use Rattle.shelf.proofs.Asked.{asked-told, evaluates, evaluates-shut}

-- it makes no difference whether an answer is turned before its figures are doubles or after
turned-doubled : (k : ℕ) (r : Result Evaluation Refusal) → addressed_of k (doubled_result r) ≡ doubled_result (addressed_of k r)
unfolding addressed_of
turned-doubled k (Ok e) = go (one_to BOOKS k)
  where
    go : (i : Bool) → ◌≡◌ {A = Result Evaluated Refusal} (cond i (Ok (doubled e)) (Err is.Place)) (doubled_result (cond i (Ok e) (Err is.Place)))
    go true = refl
    go false = refl
turned-doubled k (Err r) = go (meets_register {A = Evaluation} (Err r)) (one_to BOOKS k)
  where
    go : (m i : Bool) → ◌≡◌ {A = Result Evaluated Refusal} (cond m (Err r) (cond i (Err r) (Err is.Place))) (doubled_result (cond m (Err r) (cond i (Err r) (Err is.Place))))
    go true i = refl
    go false true = refl
    go false false = refl

pub evaluation-asked : (bs : List ℕ) (k : ℕ) (b : Book) → b ≡ found_of bs k → (r : Result Evaluated Refusal) → Evaluates r (asked_alone evaluate (seen b)) → Evaluates (addressed_of k r) (called (ask (evaluate k)) bs).answer
unfolding answer.beside
evaluation-asked bs k b f r e = record {
  whole = addressed_of k e.whole;
  answer = asked-told bs k evaluate evaluates evaluates-shut b f answer.evaluates e.whole e.answer;
  figures = ap (addressed_of k) e.figures ∙ turned-doubled k e.whole;
}
