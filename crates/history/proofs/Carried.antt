-- What calls do to the bytes of a register in form is what the paper says of the register; so its claim is one on bytes.
-- Assumes nothing.
use Prim.Native.Nat.{ℕ, suc, ◌+◌, ◌≤◌}
use native.Mathlib.Omega.{arith}
use mathlib.Core.Path.{◌≡◌, refl, sym, ap, ◌∙◌}
use mathlib.Core.Logic.{◌↔◌, ◌≢◌}
use mathlib.Core.Bool.{Bool, true, false, cond, ◌&&◌, or-true}
use mathlib.Core.Option.{Option, none, some, map}
use mathlib.Core.List.{List, [], ◌∷◌}
use lib.ListN.{length, get_or}
use lib.Dec.{eqb}
use borrow.Author.Tests.{eq-eqb, ne_eqb, eqb-true, eqb-false, le-ltb, le-leb}
use Rattle.paper.specs.Procedure.{BOOKS, KEPT}
use Rattle.paper.specs.Units.{zeros, one_to, Place, in_sheet, number, is_empty, Spot, standing}
use Rattle.paper.specs.Books.{Book, Register, book, Sight, sight, sights}
use Rattle.paper.specs.Calls.{Act, take_back, read, changes, residual, evaluate, compare, pass_list, Call, fresh, on, ask}
use Rattle.paper.specs.Refusals.{EMPTY, SUSPECT}
use Rattle.paper.specs.TurnedAway.{empty, lowest, refusal, evaluating, on_list, has, passing, questioned}
use Rattle.paper.specs.Answers.{lengths, numbers_in, Answer, nowhere, suspect_in, count_of, given, beside, says, after, run}
use Rattle.paper.specs.Form.{formed_o, InForm}
use Rattle.claims.specs.History.{leaves, Story, told, history, asks_of, names, about}
use Rattle.claims.specs.Claim.{Holds}
use Rattle.paper.proofs.Form.{parts_o}
use Rattle.paper.proofs.Acts.{unless-refused}
use Rattle.paper.proofs.Stays.{formed-after, formed-run}
use Rattle.claims.proofs.PassList.{Rises, on_the_list, list_rises}
use Rattle.lent.specs.Image.{LENGTH, image, state_of}
use Rattle.lent.specs.Calls.{Out, out, call_on, called}
use Rattle.lent.proofs.Image.{length-image, image-state}
use Rattle.history.specs.Runs.{answer_on, ran, seen_in, listed_in, Only}
use Rattle.history.specs.Claim.{read_as, HoldsOn}

-- ---- one call, and calls, on the image of a register in form

called-image : (c : Call) (r : Register) → InForm r → called c (image r) ≡ out (says c (sights r)) (image (after c r))
unfolding called call_on says after
called-image fresh r v = rw (eq-eqb (length (image r)) LENGTH (length-image r v))
called-image (on k a) r v = rw (image-state r v)
called-image (ask q) r v = rw (image-state r v)

ran-image : (cs : List Call) (r : Register) → InForm r → ran (image r) cs ≡ image (run r cs)
unfolding ran run
ran-image [] r v = refl
ran-image (c ∷ cs) r v = ap (λ (o : Out). ran o.bytes cs) (called-image c r v) ∙ ran-image cs (after c r) (formed-after c r v)

-- a refusal leaves the register
refused_stays : (c : Call) (r : Register) → (says c (sights r)).refused ≢ 0 → after c r ≡ r
unfolding says after
refused_stays fresh r n = absurd (n refl)
refused_stays (ask q) r n = refl
refused_stays (on k a) r n = unless-refused (refusal k a (sights r k)) _ r n

-- ---- a call that names no book but k looks at no other

-- acts on k are such calls, and so are the questions of k
pub only_acts : (k : ℕ) (a : Act) → Only k (on k a)
unfolding names
only_acts k a j n = ne_eqb k j (λ e. n (sym e))

pub only_asks : (k : ℕ) (p : Place) → Only k (ask (read k p)) × Only k (ask (changes k)) × Only k (ask (residual k p)) × Only k (ask (evaluate k))
unfolding names asks_of
only_asks k p = (only_acts k take_back, only_acts k take_back, only_acts k take_back, only_acts k take_back)

named_is : (c : Call) (j k : ℕ) → names j c ≡ true → Only k c → j ≡ k
named_is c j k t o = go (eqb j k) refl
  where
    go : (b : Bool) → eqb j k ≡ b → j ≡ k
    go true e = eqb-true j k e
    go false e =
        let u : true ≡ false = sym t ∙ o j (eqb-false j k e) in
        let z : ◌≡◌ {A = ℕ} 0 1 = cc in
        absurd (omega arith)

looks_at : (c : Call) (k : ℕ) → Only k c → (s : ℕ → Option Sight) → says c s ≡ says c (λ i. s k)
unfolding says questioned evaluating suspect_in given names asks_of
looks_at fresh k o s = refl
looks_at (on j a) k o s = rw (named_is (on j a) j k (eq-eqb j j refl) o)
looks_at (ask (read j p)) k o s = rw (named_is (ask (read j p)) j k (eq-eqb j j refl) o)
looks_at (ask (changes j)) k o s = rw (named_is (ask (changes j)) j k (eq-eqb j j refl) o)
looks_at (ask (residual j p)) k o s = rw (named_is (ask (residual j p)) j k (eq-eqb j j refl) o)
looks_at (ask (evaluate j)) k o s = rw (named_is (ask (evaluate j)) j k (eq-eqb j j refl) o)
looks_at (ask (compare i j axis)) k o s =
    rw (named_is (ask (compare i j axis)) i k (rw (eq-eqb i i refl)) o, named_is (ask (compare i j axis)) j k (rw (eq-eqb j j refl) (or-true (eqb i j))) o)
looks_at (ask (pass_list room)) k o s = absurd (omega (arith, named_is (ask (pass_list room)) (suc k) k refl o))

same_answer : (c : Call) (k : ℕ) → Only k c → (s t : ℕ → Option Sight) → s k ≡ t k → says c s ≡ says c t
same_answer c k o s t e = looks_at c k o s ∙ ap (λ (u : Option Sight). says c (λ i. u)) e ∙ sym (looks_at c k o t)

-- ---- what is read, and how many changes can be taken back

read-spot : (v : Spot) → ◌≡◌ {A = Answer} (record { refused = cond (is_empty v) EMPTY 0; suspect = cond (eqb (cond (is_empty v) EMPTY 0) SUSPECT) nowhere nowhere; value = cond (eqb (cond (is_empty v) EMPTY 0) 0) (lengths (standing v)) (lengths zeros) }) (read_as v)
read-spot none = refl
read-spot (some v) = refl

read_is :
    (k : ℕ) (p : Place) (h : Story) (s : ℕ → Option Sight) →
    1 ≤ k →
    k ≤ BOOKS →
    in_sheet p ≡ true →
    s k ≡ some (told h) →
    says (ask (read k p)) s ≡ read_as (get_or (leaves h.base h.remaining) (number p) none)
unfolding says questioned lowest empty given beside suspect_in told
read_is k p h s lo hi i e =
    rw (le-leb 1 k lo, le-leb k BOOKS hi, i, e) (read-spot (get_or (leaves h.base h.remaining) (number p) none))

few_is : (o : Option Book) (h : Story) → formed_o o ≡ true → map sight o ≡ some (told h) → h.count ≤ KEPT
unfolding sight told
few_is none h f e = let z : ◌≡◌ {A = ℕ} 0 1 = cc in absurd (omega arith)
few_is (some b) h f e = let n : length b.kept ≡ h.count = ap count_of e in omega (arith, (parts_o (some b) f).few)

-- ---- which books are on the pass list

-- of numbers that rise from m to n there are no more than n - m
rises-few : (m n : ℕ) (l : List ℕ) → Rises m l n → m + length l ≤ n
rises-few m n [] h = omega (arith, h)
rises-few m n (k ∷ l) h = omega (arith, h.0, rises-few k n l h.1)

-- so with room for sixteen the list is never refused, and its numbers are those that demand 2 gives
list_is : (room k : ℕ) (s : ℕ → Option Sight) → BOOKS ≤ room → has k (numbers_in (says (ask (pass_list room)) s).value) ≡ one_to BOOKS k && on_list (s k)
unfolding says questioned lowest given
list_is room k s h =
    rw (le-ltb room (length (passing s)) (omega (arith, h, rises-few 0 BOOKS (passing s) (list_rises s)))) (on_the_list s k)

-- ---- the claim on the bytes of a register in form, from the paper's on the register

module _ (r : Register) (start : ℕ → Option Story) (v : InForm r) (claim : Holds r start) where
  call_is : (cs : List Call) (c : Call) → called c (ran (image r) cs) ≡ out (says c (sights (run r cs))) (image (after c (run r cs)))
  call_is cs c = rw (ran-image cs r v) (called-image c (run r cs) (formed-run cs r v))

  answer_is : (cs : List Call) (c : Call) → answer_on c (ran (image r) cs) ≡ says c (sights (run r cs))
  unfolding answer_on
  answer_is cs c = ap (λ (o : Out). o.answer) (call_is cs c)

  held_is : (cs : List Call) → state_of (ran (image r) cs) ≡ some (run r cs)
  held_is cs = rw (ran-image cs r v) (image-state (run r cs) (formed-run cs r v))

  seen_is : (cs : List Call) (k : ℕ) → seen_in (ran (image r) cs) k ≡ sights (run r cs) k
  unfolding seen_in
  seen_is cs k = rw (held_is cs)

  story_is : (cs : List Call) (k : ℕ) (h : Story) → history k (start k) cs ≡ some h → sights (run r cs) k ≡ some (told h)
  story_is cs k h e = claim.seen cs k ∙ ap (map told) e

  listed_is : (cs : List Call) (k : ℕ) → listed_in (ran (image r) cs) k ≡ one_to BOOKS k && on_list (sights (run r cs) k)
  unfolding listed_in
  listed_is cs k = ap (λ (a : Answer). has k (numbers_in a.value)) (answer_is cs _) ∙ list_is _ k (sights (run r cs)) (omega arith)

  backs_is : (cs : List Call) (k : ℕ) (h : Story) → 1 ≤ k → k ≤ BOOKS → history k (start k) cs ≡ some h → ((answer_on (on k take_back) (ran (image r) cs)).refused ≡ 0) ↔ (h.count ≢ 0)
  backs_is cs k h lo hi e = rw (answer_is cs (on k take_back)) (claim.backs cs k h lo hi e)

  few_on : (cs : List Call) (k : ℕ) (h : Story) → history k (start k) cs ≡ some h → h.count ≤ KEPT
  unfolding sights
  few_on cs k h e = few_is (book (run r cs) k) h ((formed-run cs r v).every k) (story_is cs k h e)

  refused_is : (cs : List Call) (c : Call) → (answer_on c (ran (image r) cs)).refused ≢ 0 → (called c (ran (image r) cs)).bytes ≡ ran (image r) cs
  refused_is cs c n =
      ap (λ (o : Out). o.bytes) (call_is cs c)
      ∙ ap image (refused_stays c (run r cs) (rw (answer_is cs c) at n))
      ∙ sym (ran-image cs r v)

  pub holds_on : HoldsOn (image r) start
  holds_on = record {
    stands = λ cs. record {
      register = run r cs;
      held = held_is cs;
      imaged = ran-image cs r v;
      formed = formed-run cs r v;
      seen = claim.seen cs;
    };
    answers = λ cs c. answer_is cs c ∙ claim.answers cs c;
    reads = λ cs k p h lo hi i e. answer_is cs (ask (read k p)) ∙ read_is k p h (sights (run r cs)) lo hi i (story_is cs k h e);
    backs = backs_is;
    few = few_on;
    lists = λ cs k. listed_is cs k ∙ ap (λ (o : Option Sight). one_to BOOKS k && on_list o) (claim.seen cs k);
    alone = λ cs k. seen_is (about k cs) k ∙ claim.alone cs k ∙ sym (seen_is cs k);
    answers_alone = λ cs k c o. answer_is (about k cs) c ∙ same_answer c k o _ _ (claim.alone cs k) ∙ sym (answer_is cs c);
    lists_alone = λ cs k. listed_is (about k cs) k ∙ ap (λ (o : Option Sight). one_to BOOKS k && on_list o) (claim.alone cs k) ∙ sym (listed_is cs k);
    refused = refused_is;
  }
