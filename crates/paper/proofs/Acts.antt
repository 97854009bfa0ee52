-- What the theorems use of the acts: a change and its inverse, what acceptance gives, and which book an act reaches.
-- Assumes nothing.
use Prim.Native.Nat.{ℕ, zero, suc, ◌≤◌, ◌<◌}
use native.Mathlib.Omega.{arith}
use mathlib.Core.Path.{◌≡◌, refl, sym, ap, ◌∙◌}
use mathlib.Core.Bool.{true, false}
use mathlib.Core.Option.{Option, none, some}
use lib.ListN.{length, get_or, replicate, length-set}
use lib.Seq.{set-set, set-get_or, get_or-set_same, get_or-set_other}
use borrow.Author.Tests.{eqb-false, not-false}
use Rattle.paper.specs.Procedure.{PLACES, BOOKS}
use Rattle.paper.specs.Units.{in_range, Place, in_sheet, number, Places, Triple}
use Rattle.paper.specs.Books.{Change, make, inverse, Book, Register, closed, book, put, Sight, sights}
use Rattle.paper.specs.Calls.{Act, begin, strike, enter, correct, withdraw, take_back, Call, fresh, on, ask, Effect, opens, closes, makes, undoes, effect, affected}
use Rattle.paper.specs.TurnedAway.{empty, far, nothing_kept, lowest, rules, refusal}
use Rattle.paper.specs.Answers.{unless, after}
use Rattle.paper.proofs.Tests.{among, passed, below, told_point}
use Rattle.paper.proofs.Form.{Fits}

-- ---- a change on the places: its inverse takes it back, and leaves as many

pub make-inverse : (c : Change) (l : Places) → make (inverse c l) (make c l) ≡ l
unfolding make inverse
make-inverse c l = rw (set-set l c.place) (set-get_or l c.place none)

pub put_there : (c : Change) (l : Places) → c.place < PLACES → length l ≡ PLACES → get_or (make c l) c.place none ≡ c.put
unfolding make
put_there c l h n = get_or-set_same l c.place c.put none (rw n h)

pub inverse-inverse : (c : Change) (l : Places) → c.place < PLACES → length l ≡ PLACES → inverse (inverse c l) (make c l) ≡ c
unfolding inverse
inverse-inverse c l h n = rw (put_there c l h n)

pub length-make : (c : Change) (l : Places) → length (make c l) ≡ length l
unfolding make
length-make c l = length-set l c.place c.put

-- ---- what is accepted meets no rule of refusal, and so: terms are in range, a change fits, there is something to take back

abbrev pub Able : Effect → Option Sight → Type 0
Able (opens t) s = in_range t ≡ true
Able closes s = Unit {0}
Able (makes c) none = Unit {0}
Able (makes c) (some s) = Fits s.terms s.places c
Able undoes none = Unit {0}
Able undoes (some s) = s.count ≡ 0 → ⊥

pub book-number : (k : ℕ) (a : Act) (s : Option Sight) → refusal k a s ≡ 0 → (1 ≤ k) × (k ≤ BOOKS)
unfolding refusal
book-number k a s e = among BOOKS k (not-false _ (passed _ _ _ e).0)

pub no_objection : (k : ℕ) (a : Act) (s : Option Sight) → refusal k a s ≡ 0 → lowest (rules a s) ≡ 0
unfolding refusal
no_objection k a s e = (passed _ _ _ e).1

-- a reading put at a place of the sheet, near its point
put-fits : (p : Place) (v : Triple) (s : Sight) → in_sheet p ≡ true → far p v (some s) ≡ false → Fits s.terms s.places (record { place = number p; put = some v })
unfolding far
put-fits p v s i f = record { reaches = below p i; close = rw (told_point p i) (not-false _ f); real = refl }

none-fits : (p : Place) (s : Sight) → in_sheet p ≡ true → empty p (some s) ≡ false → Fits s.terms s.places (record { place = number p; put = none })
unfolding empty
none-fits p s i f = record { reaches = below p i; close = refl; real = f }

some_kept : (s : Sight) → nothing_kept (some s) ≡ false → s.count ≡ 0 → ⊥
unfolding nothing_kept
some_kept s f = eqb-false s.count 0 f

pub able : (a : Act) (s : Option Sight) → lowest (rules a s) ≡ 0 → Able (effect a) s
unfolding rules effect
able (begin t) s e = not-false _ (passed _ _ _ (passed _ _ _ e).1).0
able strike s e = tt
able (enter p v) none e = tt
able (correct p v) none e = tt
able (withdraw p) none e = tt
able take_back none e = tt
able (enter p v) (some s) e =
    let a = passed _ _ _ e in
    let c = passed _ _ _ (passed _ _ _ a.1).1 in
    put-fits p v s (not-false _ a.0) (passed _ _ _ c.1).0
able (correct p v) (some s) e =
    let a = passed _ _ _ e in
    let c = passed _ _ _ (passed _ _ _ a.1).1 in
    put-fits p v s (not-false _ a.0) (passed _ _ _ c.1).0
able (withdraw p) (some s) e =
    let a = passed _ _ _ e in
    let c = passed _ _ _ (passed _ _ _ a.1).1 in
    none-fits p s (not-false _ a.0) c.0
able take_back (some s) e = some_kept s (passed _ _ _ (passed _ _ _ e).1).0

-- a refusal leaves what was there
pub unless-refused {ℓ} : {A : Type ℓ} (m : ℕ) (new old : A) → (m ≡ 0 → ⊥) → unless m new old ≡ old
unless-refused zero new old f = absurd (f refl)
unless-refused (suc m) new old f = refl

-- ---- the books of a register

get_or-none : (n k : ℕ) → ◌≡◌ {A = Option Book} (get_or (replicate n none) k none) none
get_or-none zero k = refl
get_or-none (suc n) zero = refl
get_or-none (suc n) (suc k) = get_or-none n k

pub book-closed : (k : ℕ) → book closed k ≡ none
unfolding closed
book-closed zero = refl
book-closed (suc k) = get_or-none BOOKS k

length-put : (r : Register) (k : ℕ) (o : Option Book) → length (put r k o) ≡ length r
length-put r zero o = refl
length-put r (suc k) o = length-set r k o

pub put_same : (r : Register) (k : ℕ) (o : Option Book) → length r ≡ BOOKS → 1 ≤ k → k ≤ BOOKS → book (put r k o) k ≡ o
put_same r zero o l h g = absurd (omega arith)
put_same r (suc k) o l h g = get_or-set_same r k o none (omega arith)

pub put_other : (r : Register) (j k : ℕ) (o : Option Book) → (j ≡ k → ⊥) → book (put r j o) k ≡ book r k
put_other r zero k o ne = refl
put_other r (suc j) zero o ne = refl
put_other r (suc j) (suc k) o ne = get_or-set_other r j k o none (λ e. ne (ap suc (sym e)))

pub length-after : (c : Call) (r : Register) → length r ≡ BOOKS → length (after c r) ≡ BOOKS
unfolding after closed
length-after fresh r l = refl
length-after (ask q) r l = l
length-after (on k a) r l = go (refusal k a (sights r k))
  where
    go : (w : ℕ) → length (unless w (put r k (affected (effect a) (book r k))) r) ≡ BOOKS
    go zero = length-put r k _ ∙ l
    go (suc n) = l

pub length-closed : length closed ≡ BOOKS
unfolding closed
length-closed = refl
