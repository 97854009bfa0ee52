-- The comparison of two open books in form: the paper's answer, and the code's as the paper's.
use Rattle.std.specs.Prelude.{ℕ, ◌*◌, Bool, false, cond, ◌&&◌, leb, eqb, Result, Ok, Err}
use Rattle.std.proofs.Math.Option.{Option, some}
use Rattle.paper.specs.Verdicts.{same_population}
use Rattle.paper.specs.Books.{Sight}
use Rattle.paper.specs.Calls.{ask, compare}
use Rattle.paper.specs.Answers.{Value, done, lengths, count, evaluates, same, listed, Answer, says}
use Rattle.procedure.specs.Refused.{told}
use Rattle.procedure.specs.declared.refusal.Refusal.{Refusal}
use Rattle.procedure.specs.declared.refusal.Refusal.TheVariants.{Zero}

-- books 1 and 2
abbrev pub two : Sight → Sight → ℕ → Option Sight
two a b k = cond (eqb k 1) (some a) (some b)

-- the paper's answer
unfoldable pub comparison_to : ℕ → Sight → Sight → Answer
comparison_to axis a b = says (ask (compare 1 2 axis)) (two a b)

-- the code's answer; beside a refusal a comparison says not the same
abbrev pub comparison_told : Result Bool Refusal → Answer
comparison_told r = told same (same false) r

-- what an answer says of two books; a comparison answers in no other way
abbrev pub same_in : Value → Bool
same_in done = false
same_in (lengths v) = false
same_in (count n) = false
same_in (evaluates e) = false
same_in (same b) = b
same_in (listed ks) = false

-- ---- by the sums

-- low · second <= 100 · first <= high · second
abbrev pub alike_by : ℕ → ℕ → ℕ → ℕ → Bool
alike_by low high first second = leb (low * second) (100 * first) && leb (100 * first) (high * second)

unfoldable pub by_sums : ℕ → ℕ → ℕ → Result Bool Refusal
by_sums axis first second = cond (eqb second 0) (Err Zero) (Ok (same_population axis first second))
