-- The evaluation of an open book in form: the paper's answer, and the code's as the paper's.
use Rattle.std.specs.Prelude.{Result}
use Rattle.std.proofs.Math.Option.{none, some}
use Rattle.paper.specs.Books.{Sight}
use Rattle.paper.specs.Calls.{ask, evaluate}
use Rattle.paper.specs.TurnedAway.{evaluated}
use Rattle.paper.specs.Answers.{Value, done, lengths, count, evaluates, same, listed, Answer, says}
use Rattle.paper.specs.declared.Evaluation.{Evaluation}
use Rattle.procedure.specs.Refused.{told}
use Rattle.procedure.specs.declared.refusal.Refusal.{Refusal}

-- the paper's answer, the book being number 1
unfoldable pub answer_to : Sight → Answer
answer_to s = says (ask (evaluate 1)) (λ k. some s)

-- the code's answer; beside a refusal figures are 0 and verdicts beyond
abbrev pub evaluation_told : Result Evaluation Refusal → Answer
evaluation_told r = told evaluates (evaluates (evaluated none)) r

-- what an answer says of figures; an evaluation answers in no other way
abbrev pub evaluation_in : Value → Evaluation
evaluation_in done = evaluated none
evaluation_in (lengths v) = evaluated none
evaluation_in (count n) = evaluated none
evaluation_in (evaluates e) = e
evaluation_in (same b) = evaluated none
evaluation_in (listed ks) = evaluated none
