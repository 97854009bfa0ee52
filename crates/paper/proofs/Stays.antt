-- Calls leave a book, and a register, in form.
-- Assumes nothing.
use Prim.Native.Nat.{ℕ, zero, suc, ◌+◌, ◌-◌, ◌≤◌}
use native.Mathlib.Omega.{arith}
use native.Mathlib.Nat.{zero-add}
use mathlib.Core.Path.{◌≡◌, refl, ◌∙◌, subst}
use mathlib.Core.Bool.{true, and_comm}
use mathlib.Core.Option.{Option, none, some, map}
use mathlib.Core.List.{List, [], ◌∷◌}
use lib.ListN.{length, get_or, set, take, replicate, length-take}
use Rattle.paper.specs.Procedure.{PLACES, KEPT}
use Rattle.paper.specs.Units.{Terms, is_empty, Spot, near_at, all_near, Places}
use Rattle.paper.specs.Books.{Change, make, inverse, Book, nothing, blank, changed, undone, Register, closed, book, put, sight, sights}
use Rattle.paper.specs.Calls.{Act, Call, fresh, on, ask, Effect, opens, closes, makes, undoes, effect, affected}
use Rattle.paper.specs.TurnedAway.{lowest, rules, refusal}
use Rattle.paper.specs.Answers.{unless, after, run}
use Rattle.paper.specs.Form.{formed_o, InForm}
use Rattle.paper.proofs.Tests.{and_left, and_right, and_both}
use Rattle.paper.proofs.Form.{Fits, AllFit, Formed, FormedO, parts_o, whole_o}
use Rattle.paper.proofs.Acts.{make-inverse, put_there, length-make, Able, no_objection, able, book-closed, length-after, length-closed}

-- ---- readings near their points stay so

near-at : (t : Terms) (n : ℕ) (l : Places) (i : ℕ) → all_near t n l ≡ true → near_at t (n + i) (get_or l i none) ≡ true
unfolding all_near
near-at t n [] i h = refl
near-at t n (v ∷ vs) zero h = rw (plus n) (and_left (near_at t n v) (all_near t (suc n) vs) h)
  where
    plus : (n : ℕ) → n + 0 ≡ n
    plus n = omega arith
near-at t n (v ∷ vs) (suc i) h = rw (shift n i) (near-at t (suc n) vs i (and_right (near_at t n v) (all_near t (suc n) vs) h))
  where
    shift : (n i : ℕ) → n + suc i ≡ suc n + i
    shift n i = omega arith

pub near_there : (t : Terms) (l : Places) (i : ℕ) → all_near t 0 l ≡ true → near_at t i (get_or l i none) ≡ true
near_there t l i h = rw zero-add at (near-at t 0 l i h)

near-set : (t : Terms) (n : ℕ) (l : Places) (i : ℕ) (v : Spot) → all_near t n l ≡ true → near_at t (n + i) v ≡ true → all_near t n (set l i v) ≡ true
unfolding all_near
near-set t n [] i v h e = refl
near-set t n (w ∷ ws) zero v h e =
    and_both (near_at t n v) (all_near t (suc n) ws) (subst (λ (m : ℕ). near_at t m v ≡ true) (plus n) e) (and_right (near_at t n w) (all_near t (suc n) ws) h)
  where
    plus : (n : ℕ) → n + 0 ≡ n
    plus n = omega arith
near-set t n (w ∷ ws) (suc i) v h e =
    and_both (near_at t n w) (all_near t (suc n) (set ws i v)) (and_left (near_at t n w) (all_near t (suc n) ws) h)
    (near-set t (suc n) ws i v (and_right (near_at t n w) (all_near t (suc n) ws) h) (subst (λ (m : ℕ). near_at t m v ≡ true) (shift n i) e))
  where
    shift : (n i : ℕ) → n + suc i ≡ suc n + i
    shift n i = omega arith

near-make : (t : Terms) (l : Places) (c : Change) → all_near t 0 l ≡ true → near_at t c.place c.put ≡ true → all_near t 0 (make c l) ≡ true
unfolding make
near-make t l c h e = near-set t 0 l c.place c.put h (subst (λ (m : ℕ). near_at t m c.put ≡ true) (plus c.place) e)
  where
    plus : (n : ℕ) → n ≡ 0 + n
    plus n = omega arith

-- ---- a book stays in form

fit-take : (t : Terms) (n : ℕ) (l : Places) (ks : List Change) → AllFit t l ks → AllFit t l (take n ks)
fit-take t zero l ks h = tt
fit-take t (suc n) l [] h = tt
fit-take t (suc n) l (k ∷ ks) h = (h.0, fit-take t n (make k l) ks h.1)

-- what takes a fitting change back fits too
fits-inverse : (t : Terms) (l : Places) (c : Change) → length l ≡ PLACES → all_near t 0 l ≡ true → Fits t l c → Fits t (make c l) (inverse c l)
unfolding inverse
fits-inverse t l c n h f = record {
  reaches = f.reaches;
  close = near_there t l c.place h;
  real = rw (put_there c l f.reaches n) (and_comm (is_empty (get_or l c.place none)) (is_empty c.put) ∙ f.real);
}

formed-undone : (ks : List Change) (b : Book) → Formed b → AllFit b.terms b.places ks → length ks ≤ KEPT → Formed (undone ks b)
unfolding undone
formed-undone [] b f h n = f
formed-undone (k ∷ ks) b f h n = record {
  ranged = f.ranged;
  thirty = length-make k b.places ∙ f.thirty;
  close = near-make b.terms b.places k f.close h.0.close;
  few = omega arith;
  fit = h.1;
}

formed-changed : (c : Change) (b : Book) → Formed b → Fits b.terms b.places c → Formed (changed c b)
unfolding changed
formed-changed c b f e = record {
  ranged = f.ranged;
  thirty = length-make c b.places ∙ f.thirty;
  close = near-make b.terms b.places c f.close e.close;
  few = omega (arith, length-take (KEPT - 1) b.kept);
  fit = (fits-inverse b.terms b.places c f.thirty f.close e, rw (make-inverse c b.places) (fit-take b.terms (KEPT - 1) b.places b.kept f.fit));
}

none-near : (t : Terms) (n m : ℕ) → all_near t n (replicate m none) ≡ true
unfolding all_near
none-near t n zero = refl
none-near t n (suc m) = none-near t (suc n) m

formed-affected : (x : Effect) (o : Option Book) → FormedO o → Able x (map sight o) → FormedO (affected x o)
unfolding affected blank nothing sight
formed-affected (opens t) o f e = record { ranged = e; thirty = refl; close = none-near t 0 PLACES; few = omega arith; fit = tt }
formed-affected closes o f e = tt
formed-affected (makes c) none f e = tt
formed-affected (makes c) (some b) f e = formed-changed c b f e
formed-affected undoes none f e = tt
formed-affected undoes (some b) f e = formed-undone b.kept b f f.fit f.few

-- an accepted act leaves a book in form
pub formed-next : (a : Act) (o : Option Book) → formed_o o ≡ true → lowest (rules a (map sight o)) ≡ 0 → formed_o (affected (effect a) o) ≡ true
formed-next a o f e = whole_o (affected (effect a) o) (formed-affected (effect a) o (parts_o o f) (able a _ e))

-- ---- and a register

pub fresh_formed : InForm closed
fresh_formed = record { sixteen = length-closed; every = λ k. rw (book-closed k) }

formed-set : (r : Register) (j : ℕ) (o : Option Book) → formed_o o ≡ true → ((k : ℕ) → formed_o (get_or r k none) ≡ true) → (k : ℕ) → formed_o (get_or (set r j o) k none) ≡ true
formed-set [] j o f h k = h k
formed-set (x ∷ xs) zero o f h zero = f
formed-set (x ∷ xs) zero o f h (suc k) = h (suc k)
formed-set (x ∷ xs) (suc j) o f h zero = h zero
formed-set (x ∷ xs) (suc j) o f h (suc k) = formed-set xs j o f (λ i. h (suc i)) k

formed-put : (r : Register) (j : ℕ) (o : Option Book) → formed_o o ≡ true → ((k : ℕ) → formed_o (book r k) ≡ true) → (k : ℕ) → formed_o (book (put r j o) k) ≡ true
formed-put r zero o f h k = h k
formed-put r (suc j) o f h zero = refl
formed-put r (suc j) o f h (suc k) = formed-set r j o f (λ i. h (suc i)) k

pub formed-after : (c : Call) (r : Register) → InForm r → InForm (after c r)
unfolding after sights
formed-after fresh r f = fresh_formed
formed-after (ask q) r f = f
formed-after (on j a) r f = record {
  sixteen = length-after (on j a) r f.sixteen;
  every = go (refusal j a (sights r j)) refl;
}
  where
    go : (w : ℕ) → refusal j a (sights r j) ≡ w → (k : ℕ) → formed_o (book (unless w (put r j (affected (effect a) (book r j))) r) k) ≡ true
    go (suc n) e = f.every
    go zero e = formed-put r j (affected (effect a) (book r j)) (whole_o (affected (effect a) (book r j)) (formed-affected (effect a) (book r j) (parts_o (book r j) (f.every j)) (able a _ (no_objection j a _ e)))) f.every

pub formed-run : (cs : List Call) (r : Register) → InForm r → InForm (run r cs)
unfolding run
formed-run [] r f = f
formed-run (c ∷ cs) r f = formed-run cs (after c r) (formed-after c r f)
