-- THE SHAPE OF EVERY EXPORTED CALL: bytes that are not in form give REGISTER and stay; otherwise the answer is what the paper says
-- of the register that the bytes hold, and the bytes afterwards are the image of the register after the call.
use Rattle.std.specs.Prelude.{ℕ, ◌≡◌, cond, List, length, eqb}
use Rattle.std.proofs.Math.Option.{Option, none, some}
use Rattle.paper.specs.Books as paper
use Rattle.paper.specs.Calls.{Call, fresh, on, ask}
use Rattle.paper.specs.Refusals.{REGISTER}
use Rattle.paper.specs.Answers.{done, Answer, nowhere, answered, says, after}
use Rattle.lent.specs.Image.{LENGTH, image, state_of}

-- the answer to a call, and the register's bytes after it
pub record Out : Type 0 where
  pub answer : Answer
  pub bytes : List ℕ

abbrev pub out : Answer → List ℕ → Out
out a bs = record { answer = a; bytes = bs }

-- beside REGISTER
unfoldable pub shut : Call → Answer
shut fresh = record { refused = REGISTER; suspect = nowhere; value = done }
shut (on k a) = record { refused = REGISTER; suspect = nowhere; value = done }
shut (ask q) = answered REGISTER q (λ k. none)

unfoldable pub call_on : Call → Option paper.Register → List ℕ → Out
call_on c none bs = out (shut c) bs
call_on c (some r) bs = out (says c (paper.sights r)) (image (after c r))

-- making a fresh register meets only a wrong length
unfoldable pub called : Call → List ℕ → Out
called fresh bs = call_on fresh (cond (eqb (length bs) LENGTH) (some paper.closed) none) bs
called (on k a) bs = call_on (on k a) (state_of bs) bs
called (ask q) bs = call_on (ask q) (state_of bs) bs

-- what is promised of a call that may change the register: its refusal, and each byte afterwards
abbrev pub Calls : Call → List ℕ → ℕ → List ℕ → Type 0
Calls c bs r bs' = (r ≡ (called c bs).answer.refused) × (bs' ≡ (called c bs).bytes)
