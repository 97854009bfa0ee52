-- For the crates below: the calls of a register, and of a book by itself, answer as the functions of this crate do.
-- What is asked here looks at terms and readings alone, so the number of changes that can be taken back makes no difference.
-- Assumes nothing.
use Rattle.std.proofs.Common.{ℕ, Err, ◌≡◌, false, List}
use Rattle.std.proofs.Math.Option.{Option, some}
use Rattle.paper.specs.Books.{Sight}
use Rattle.paper.specs.Calls.{ask, evaluate}
use Rattle.paper.specs.Refusals.{SUSPECT}
use Rattle.paper.specs.TurnedAway.{short, suspect_of, lowest, evaluating, evaluated, on_list, no_book, questioned}
use Rattle.paper.specs.Answers.{evaluates, suspect_in, given, beside, answered, says}
use Rattle.image.specs.Sights.{sight_of, Seen}
use Rattle.procedure.specs.Refused.{number_of}
use Rattle.procedure.specs.declared.refusal.Refusal.{Refusal}
use Rattle.procedure.proofs.Told.{told_refused}
use Rattle.evaluation.specs.Evaluating.{answer_to, evaluation_told}

pub evaluate_asked : (s : ℕ → Option Sight) (k : ℕ) (v : Sight) (t l : List ℕ) → no_book k ≡ false → s k ≡ some v → Seen v t l → says (ask (evaluate k)) s ≡ answer_to (sight_of t l)
unfolding answer_to says lowest questioned evaluating short suspect_of suspect_in given beside evaluated
evaluate_asked s k v t l b e m = rw (b, e, m.terms, m.places)

pub list_asked : (v : Sight) (t l : List ℕ) → Seen v t l → on_list (some v) ≡ on_list (some (sight_of t l))
unfolding on_list evaluating short suspect_of evaluated
list_asked v t l m = rw (m.terms, m.places)

-- ---- refused before a book is looked at: neither accepted nor SUSPECT

pub evaluate_refused : (r : Refusal) → (number_of r ≡ SUSPECT → ⊥) → (s : ℕ → Option Sight) (k : ℕ) → evaluation_told (Err r) ≡ answered (number_of r) (evaluate k) s
unfolding beside
evaluate_refused r named s k = told_refused evaluates (evaluate k) s r named
