-- Demand 3 on lent bytes: what is claimed of any exported calls in any order, from the bytes of a fresh register and from any in form.
use Rattle.std.specs.Prelude.{ℕ, ◌≤◌, ◌≡◌, ◌↔◌, ◌≢◌, true, ◌&&◌, List, get_or}
use Rattle.std.proofs.Math.Option.{Option, none, some}
use Rattle.paper.specs.Procedure.{BOOKS, KEPT}
use Rattle.paper.specs.Units.{zeros, one_to, Place, in_sheet, number, Spot}
use Rattle.paper.specs.Books.{Register, Sight, sights}
use Rattle.paper.specs.Calls.{take_back, read, Call, on, ask}
use Rattle.paper.specs.Refusals.{EMPTY}
use Rattle.paper.specs.TurnedAway.{on_list}
use Rattle.paper.specs.Answers.{lengths, Answer, nowhere, says}
use Rattle.paper.specs.Form.{InForm}
use Rattle.claims.specs.History.{leaves, Story, history, about}
use Rattle.claims.specs.Claim.{foretold}
use Rattle.lent.specs.Image.{image, state_of}
use Rattle.lent.specs.Calls.{called}
use Rattle.history.specs.Runs.{answer_on, ran, seen_in, listed_in, Only}

-- the bytes are the image of a register in form, and its books are seen so
pub record Stands (bs : List ℕ) (sight : ℕ → Option Sight) : Type 0 where
  pub register : Register
  pub held : state_of bs ≡ some register
  pub imaged : bs ≡ image register
  pub formed : InForm register
  pub seen : (k : ℕ) → sights register k ≡ sight k

-- reading a place where this stands: the reading, or EMPTY beside zeros
abbrev pub read_as : Spot → Answer
read_as none = record { refused = EMPTY; suspect = nowhere; value = lengths zeros }
read_as (some v) = record { refused = 0; suspect = nowhere; value = lengths v }

-- ---- the claim, of bytes whose books have the stories `start`

pub record HoldsOn (bs : List ℕ) (start : ℕ → Option Story) : Type 0 where
  -- after any calls the bytes are in form, and each book is open, and has its terms, its places and its count, as its history says
  pub stands : (cs : List Call) → Stands (ran bs cs) (foretold start cs)
  -- after any calls, any call (refused, accepted, or one that asks) answers as the histories say
  pub answers : (cs : List Call) (c : Call) → answer_on c (ran bs cs) ≡ says c (foretold start cs)
  -- an open book reads as the changes that remain leave it: those accepted since it was opened, but for those taken back
  pub reads :
      (cs : List Call) (k : ℕ) (p : Place) (h : Story) →
      1 ≤ k →
      k ≤ BOOKS →
      in_sheet p ≡ true →
      history k (start k) cs ≡ some h →
      answer_on (ask (read k p)) (ran bs cs) ≡ read_as (get_or (leaves h.base h.remaining) (number p) none)
  -- a take-back on an open book is accepted exactly when the number is not 0
  pub backs :
      (cs : List Call) (k : ℕ) (h : Story) →
      1 ≤ k →
      k ≤ BOOKS →
      history k (start k) cs ≡ some h →
      ((answer_on (on k take_back) (ran bs cs)).refused ≡ 0) ↔ (h.count ≢ 0)
  -- and the number is never above 32
  pub few : (cs : List Call) (k : ℕ) (h : Story) → history k (start k) cs ≡ some h → h.count ≤ KEPT
  -- the place of a book (one of the sixteen) on or off the pass list is what demand 2 gives for its terms and those readings
  pub lists : (cs : List Call) (k : ℕ) → listed_in (ran bs cs) k ≡ one_to BOOKS k && on_list (foretold start cs k)
  -- calls that name other books, and not this one, make no difference to what is seen of it
  pub alone : (cs : List Call) (k : ℕ) → seen_in (ran bs (about k cs)) k ≡ seen_in (ran bs cs) k
  -- nor to any answer about it
  pub answers_alone : (cs : List Call) (k : ℕ) (c : Call) → Only k c → answer_on c (ran bs (about k cs)) ≡ answer_on c (ran bs cs)
  -- nor to its place on or off the pass list
  pub lists_alone : (cs : List Call) (k : ℕ) → listed_in (ran bs (about k cs)) k ≡ listed_in (ran bs cs) k
  -- a refused call leaves every byte
  pub refused : (cs : List Call) (c : Call) → (answer_on c (ran bs cs)).refused ≢ 0 → (called c (ran bs cs)).bytes ≡ ran bs cs
