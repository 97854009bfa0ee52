-- Exported calls, one after another, on lent bytes. Each call of document 01 on a register, with whatever numbers it is handed and
-- refused or not, is a `Call`; the contract of its export is an equation with `called` (crates `acts`, `asks`, `judges`, `register`), and
-- nothing else of it is used.
-- (Of the other exports rtk_check only looks at a register, and rtk_length and rtk_evaluate_file take none.)
use Rattle.std.specs.Prelude.{ℕ, ◌≡◌, ◌≢◌, Bool, false, List, [], ◌∷◌}
use Rattle.std.proofs.Math.Option.{Option, none, some}
use Rattle.paper.specs.Procedure.{BOOKS}
use Rattle.paper.specs.Books.{Register, Sight, sights}
use Rattle.paper.specs.Calls.{pass_list, Call, ask}
use Rattle.paper.specs.TurnedAway.{has}
use Rattle.paper.specs.Answers.{numbers_in, Answer}
use Rattle.claims.specs.History.{names}
use Rattle.lent.specs.Image.{state_of}
use Rattle.lent.specs.Calls.{called}

-- what a call on these bytes answers
unfoldable pub answer_on : Call → List ℕ → Answer
answer_on c bs = (called c bs).answer

-- the bytes after calls
unfoldable pub ran : List ℕ → List Call → List ℕ
ran bs [] = bs
ran bs (c ∷ cs) = ran (called c bs).bytes cs

-- what can be seen of each book in these bytes: of bytes that hold no register, nothing
abbrev pub seen_of : Option Register → ℕ → Option Sight
seen_of none k = none
seen_of (some r) k = sights r k

unfoldable pub seen_in : List ℕ → ℕ → Option Sight
seen_in bs k = seen_of (state_of bs) k

-- is book k on the pass list: one of the numbers that these bytes answer with, where there is room for all sixteen
unfoldable pub listed_in : List ℕ → ℕ → Bool
listed_in bs k = has k (numbers_in (answer_on (ask (pass_list BOOKS)) bs).value)

-- a call that names no book but k: an act on it, or a question of it alone (fresh and the pass list bear on every book)
abbrev pub Only : ℕ → Call → Type 0
Only k c = (j : ℕ) → j ≢ k → names j c ≡ false
