-- A question of the book of a number.
-- Assumes nothing.
use Rattle.std.proofs.Common.{◌≡◌, refl, sym, ap, ◌∙◌, ℕ, Bool, true, false, true≢false, cond, not, List, eqb, eqb-true}
use Rattle.std.specs.Prelude.{Result}
use Rattle.std.proofs.Math.Option.{Option, none}
use Rattle.paper.specs.Procedure.{BOOKS}
use Rattle.paper.specs.Units.{one_to, in_sheet, Place}
use Rattle.paper.specs.Books as paper
use Rattle.paper.specs.Calls.{Question, ask, read, changes, residual, evaluate}
use Rattle.paper.specs.Refusals.{REGISTER, PLACE, CLOSED}
use Rattle.paper.specs.TurnedAway.{lowest, questioned, evaluating}
use Rattle.paper.specs.Answers.{Value, Answer, nowhere, answered, says, given, beside, suspect_in}
use Rattle.paper.specs.Alone.{asked_alone}
use Rattle.procedure.specs.declared.refusal.Refusal.{Refusal}
use Rattle.procedure.specs.Refused.{told}
use Rattle.book.specs.declared.Book.{Book}
use Rattle.book.specs.Meaning.{seen}
use Rattle.book.proofs.Meaning.{seen-image}
use Rattle.lent.specs.Image.{meant_from}
use Rattle.lent.specs.Calls.{shut, call_on, called}
use Rattle.shelving.specs.Steps.{turned_away, meets_register, addressed_of}
use Rattle.shelf.specs.Steps.{found_of}
use Rattle.lent.proofs.Image.{state_in, state-out}
use Rattle.shelving.proofs.Ways.{away-among, addressed-among, addressed-register, addressed-outside, meets_is}
use Rattle.shelf.proofs.Ways.{found, elsewhere, Way, within, without, found-way, found-seen, found-meant}

-- an answer of the book of that number, by what the book met
unfoldable pub turned : ℕ → Answer → Answer
turned k a = record { refused = turned_away k a.refused; suspect = a.suspect; value = a.value }

pub turned-among : (k : ℕ) (a : Answer) → one_to BOOKS k ≡ true → turned k a ≡ a
unfolding turned
turned-among k a e = rw (away-among k a.refused e)

-- a question of one book: it makes no difference which, and outside the sixteen it is answered as of a closed one, but with PLACE
pub record OfOne (q : ℕ → Question) : Type 0 where
  pub alone : (k : ℕ) (s : ℕ → Option paper.Sight) → one_to BOOKS k ≡ true → says (ask (q k)) s ≡ says (ask (q 1)) (λ i. s k)
  pub outside : (k : ℕ) (s : ℕ → Option paper.Sight) → one_to BOOKS k ≡ false → turned k (says (ask (q 1)) (λ i. none)) ≡ says (ask (q k)) s
  pub not-formed : (k : ℕ) → answered REGISTER (q 1) (λ i. none) ≡ answered REGISTER (q k) (λ i. none)

-- what a question is answered, by what was found
pub asked : (bs : List ℕ) (k : ℕ) (q : ℕ → Question) → OfOne q → (b : Book) → b ≡ found_of bs k → turned k (asked_alone q (seen b)) ≡ (called (ask (q k)) bs).answer
unfolding called call_on shut asked_alone paper.sights turned turned_away
asked bs k q o b e = go (found-way bs k b e)
  where
    go : Way bs k b → turned k (asked_alone q (seen b)) ≡ (called (ask (q k)) bs).answer
    go (within u (found f)) =
        turned-among k (asked_alone q (seen b)) f.among ∙ rw (found-seen bs k b f, state_in bs u, o.alone k (paper.sights (meant_from BOOKS bs)) f.among, found-meant bs k b f)
    go (within u (elsewhere v w)) = rw (w, seen-image none refl, state_in bs u) (o.outside k (paper.sights (meant_from BOOKS bs)) v)
    go (without u v) = rw (v, state-out bs u) (o.not-formed k)

-- ---- the same by what the code answers

-- beside its number an answer names nothing and gives what stands beside a refusal
pub record Bare (a : Answer) (v : Value) : Type 0 where
  pub suspect : a.suspect ≡ nowhere
  pub value : a.value ≡ v

-- an answer addressed is an answer turned, if outside the sixteen it is bare
pub addressed-turned : (k : ℕ) {A : Type 0} (give : A → Value) (v : Value) (r : Result A Refusal) → (one_to BOOKS k ≡ false → Bare (told give v r) v)
    → told give v (addressed_of k r) ≡ turned k (told give v r)
unfolding turned turned_away
addressed-turned k give v r bare = go (one_to BOOKS k) (meets_register r) refl refl
  where
    go : (i m : Bool) → one_to BOOKS k ≡ i → meets_register r ≡ m → told give v (addressed_of k r) ≡ turned k (told give v r)
    go true m e f = rw (addressed-among k r e) (sym (turned-among k (told give v r) e))
    go false true e f =
        let n : (told give v r).refused ≡ REGISTER = eqb-true (told give v r).refused REGISTER (sym (meets_is give v r) ∙ f) in
        rw (addressed-register k r f, ← meets_is give v r, f) (ap (λ (n : ℕ). record { refused = n; suspect = (told give v r).suspect; value = (told give v r).value }) n)
    go false false e f = rw (addressed-outside k r f e, ← meets_is give v r, f, e, (bare e).suspect, (bare e).value)

-- what is asked of a closed book is bare, and so is what is asked of no book at all
pub asked-told : (bs : List ℕ) (k : ℕ) (q : ℕ → Question) → OfOne q → Bare (says (ask (q 1)) (λ i. none)) (beside (q 1)) → (b : Book) → b ≡ found_of bs k
    → {A : Type 0} (give : A → Value) (r : Result A Refusal) → told give (beside (q 1)) r ≡ asked_alone q (seen b)
    → told give (beside (q 1)) (addressed_of k r) ≡ (called (ask (q k)) bs).answer
unfolding asked_alone
asked-told bs k q o shut b e {A} give r t =
    addressed-turned k give (beside (q 1)) r (λ v. rw t (bare v (found-way bs k b e))) ∙ ap (turned k) t ∙ asked bs k q o b e
  where
    bare : one_to BOOKS k ≡ false → Way bs k b → Bare (asked_alone q (seen b)) (beside (q 1))
    bare v (within u (found f)) = absurd (true≢false (sym f.among ∙ v))
    bare v (within u (elsewhere z w)) = rw (w, seen-image none refl) shut
    bare v (without u w) = rw w (record { suspect = refl; value = refl })

-- ---- each question of one book

-- outside the sixteen a closed book is asked, and PLACE comes before what that meets
pub away : (k : ℕ) (q q' : Question) (t s : ℕ → Option paper.Sight) (i : Bool) → one_to BOOKS k ≡ false → beside q ≡ beside q' → turned k (answered (cond i PLACE CLOSED) q t) ≡ answered PLACE q' s
unfolding turned turned_away
away k q q' t s true e b = rw (e, b)
away k q q' t s false e b = rw (e, b)

pub reads : (p : Place) → OfOne (λ k. read k p)
unfolding says lowest questioned given beside suspect_in
reads p = record { alone = λ k s e. rw e; outside = λ k s e. rw e (away k (read 1 p) (read k p) (λ i. none) s (not (in_sheet p)) e refl); not-formed = λ k. refl }

pub counts : OfOne changes
unfolding says lowest questioned given beside suspect_in
counts = record { alone = λ k s e. rw e; outside = λ k s e. rw e (away k (changes 1) (changes k) (λ i. none) s false e refl); not-formed = λ k. refl }

pub residues : (p : Place) → OfOne (λ k. residual k p)
unfolding says lowest questioned given beside suspect_in
residues p = record { alone = λ k s e. rw e; outside = λ k s e. rw e (away k (residual 1 p) (residual k p) (λ i. none) s (not (in_sheet p)) e refl); not-formed = λ k. refl }

pub evaluates : OfOne evaluate
unfolding says lowest questioned evaluating given beside suspect_in
evaluates = record { alone = λ k s e. rw e; outside = λ k s e. rw e (away k (evaluate 1) (evaluate k) (λ i. none) s false e refl); not-formed = λ k. refl }

-- ---- each where no book is asked

-- outside the sixteen a question is answered PLACE, and of a closed book it does not meet REGISTER
pub record OfNone (q : ℕ → Question) : Type 0 where
  pub placed : (k : ℕ) (s : ℕ → Option paper.Sight) → one_to BOOKS k ≡ false → record { refused = PLACE; suspect = nowhere; value = beside (q 1) } ≡ says (ask (q k)) s
  pub closed : eqb (says (ask (q 1)) (λ i. none)).refused REGISTER ≡ false

-- so the answer of a closed book is bare: turned to PLACE it still names and gives the same
pub none-shut : (q : ℕ → Question) → OfOne q → OfNone q → Bare (says (ask (q 1)) (λ i. none)) (beside (q 1))
unfolding turned
none-shut q o p = let e = o.outside 0 (λ i. none) refl ∙ sym (p.placed 0 (λ i. none) refl) in
    record { suspect = ap (λ (a : Answer). a.suspect) e; value = ap (λ (a : Answer). a.value) e }

-- PLACE or CLOSED is not REGISTER
pub closed_meets : (i : Bool) → eqb (cond i PLACE CLOSED) REGISTER ≡ false
closed_meets true = refl
closed_meets false = refl

pub reads-none : (p : Place) → OfNone (λ k. read k p)
unfolding says lowest questioned given beside suspect_in
reads-none p = record { placed = λ k s e. rw e; closed = closed_meets (not (in_sheet p)) }

pub counts-none : OfNone changes
unfolding says lowest questioned given beside suspect_in
counts-none = record { placed = λ k s e. rw e; closed = refl }

pub residues-none : (p : Place) → OfNone (λ k. residual k p)
unfolding says lowest questioned given beside suspect_in
residues-none p = record { placed = λ k s e. rw e; closed = closed_meets (not (in_sheet p)) }

pub evaluates-none : OfNone evaluate
unfolding says lowest questioned evaluating given beside suspect_in
evaluates-none = record { placed = λ k s e. rw e; closed = refl }

-- ---- each of a closed book

-- PLACE or CLOSED is bare
bare_refused : (i : Bool) (q : Question) (s : ℕ → Option paper.Sight) → Bare (answered (cond i PLACE CLOSED) q s) (beside q)
bare_refused true q s = record { suspect = refl; value = refl }
bare_refused false q s = record { suspect = refl; value = refl }

pub reads-shut : (p : Place) → Bare (says (ask (read 1 p)) (λ i. none)) (beside (read 1 p))
unfolding says lowest questioned
reads-shut p = bare_refused (not (in_sheet p)) (read 1 p) (λ i. none)

pub counts-shut : Bare (says (ask (changes 1)) (λ i. none)) (beside (changes 1))
unfolding says lowest questioned
counts-shut = bare_refused false (changes 1) (λ i. none)

pub residues-shut : (p : Place) → Bare (says (ask (residual 1 p)) (λ i. none)) (beside (residual 1 p))
unfolding says lowest questioned
residues-shut p = bare_refused (not (in_sheet p)) (residual 1 p) (λ i. none)

pub evaluates-shut : Bare (says (ask (evaluate 1)) (λ i. none)) (beside (evaluate 1))
unfolding says lowest questioned evaluating
evaluates-shut = bare_refused false (evaluate 1) (λ i. none)
