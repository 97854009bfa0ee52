-- A place sought: the calls on a place are refused before it is looked at, or by what stands there.
-- Assumes nothing.
use Rattle.std.proofs.Common.{◌≡◌, refl, ap, ◌∙◌, ℕ, ◌*◌, ◌<◌, Bool, true, false, cond, not, List, ◌∷◌, get_or, eqb, eqb-true}
use Rattle.std.proofs.lemmas.Bool.{eqb-false}
use Rattle.std.specs.Prelude.{Result, Ok, Err}
use Rattle.std.proofs.Math.Option.{none}
use Rattle.paper.specs.Procedure.{PLACES}
use Rattle.paper.specs.Units.{Place, in_sheet, number, is_empty}
use Rattle.paper.specs.Books as paper
use Rattle.paper.specs.Calls.{Act}
use Rattle.paper.specs.Refusals.{PLACE, CLOSED, FILLED, EMPTY}
use Rattle.paper.specs.TurnedAway.{Rule, ◌when◌, is_closed, empty, lowest, rules}
use Rattle.paper.proofs.Tests.{below}
use Rattle.image.specs.Places.{spot_at}
use Rattle.image.proofs.Places.{place_at_lem}
use Rattle.procedure.specs.declared.refusal.Refusal.{Refusal}
use Rattle.procedure.specs.declared.refusal.Refusal.TheVariants as is
use Rattle.procedure.specs.Refused.{number_of}
use Rattle.book.specs.declared.Book.{Book}
use Rattle.book.proofs.Wanted.{Wanted, at_empty, at_filled, wanted_at, wanted_of}
use Rattle.book.proofs.Wanted as want
use Rattle.book.specs.Meaning.{open_of, book_form}
use Rattle.book.specs.Steps.{step, step_of, aim_of, reached_at, reached_of}
use Rattle.book.proofs.Meaning.{Sized, meant-closed, meant-open}
use Rattle.book.proofs.Steps.{sight_o, step-unformed, step-refused}

-- ---- a call on a place

-- the place is in the sheet and the book, which is in form, is open
pub record On (b : Book) (p : Place) (q : ℕ) : Type 0 where
  pub form : book_form b ≡ true
  pub in_sheet_lem : in_sheet p ≡ true
  pub opened : b.opened ≡ 0 → ⊥
  pub at : q ≡ number p

-- rules that begin with PLACE and CLOSED
abbrev pub placed : Book → Place → List Rule → List Rule
placed b p rest = PLACE when not (in_sheet p) ∷ CLOSED when is_closed (sight_o b) ∷ rest

-- P holds of each refusal that a call on a place may meet before the place is looked at
pub record Before (b : Book) (p : Place) (P : Refusal → Type 0) : Type 0 where
  pub unformed : book_form b ≡ false → P is.Register
  pub outside : book_form b ≡ true → in_sheet p ≡ false → P is.Place
  pub closed : book_form b ≡ true → in_sheet p ≡ true → b.opened ≡ 0 → P is.Closed

module _ (b : Book) (p : Place) where
  -- the ways to be refused
  pub aim_by : (P : Refusal → Type 0) → Before b p P → (r : Refusal) → Err r ≡ aim_of b p → P r
  unfolding aim_of
  aim_by P f r e = go (book_form b) (in_sheet p) (eqb b.opened 0) refl refl refl e
    where
      go : (i j k : Bool) → book_form b ≡ i → in_sheet p ≡ j → eqb b.opened 0 ≡ k → Err r ≡ cond i (cond j (cond k (Err is.Closed) (Ok (number p))) (Err is.Place)) (Err is.Register) → P r
      go false j k u v w e = let q : r ≡ is.Register = cc in rw q (f.unformed u)
      go true false k u v w e = let q : r ≡ is.Place = cc in rw q (f.outside u v)
      go true true true u v w e = let q : r ≡ is.Closed = cc in rw q (f.closed u v (eqb-true b.opened 0 w))
      go true true false u v w e = let q : ⊥ = cc in absurd q

  -- the one not to be
  pub aim-on : (q : ℕ) → Ok q ≡ aim_of b p → On b p q
  unfolding aim_of
  aim-on q e = go (book_form b) (in_sheet p) (eqb b.opened 0) refl refl refl e
    where
      go : (i j k : Bool) → book_form b ≡ i → in_sheet p ≡ j → eqb b.opened 0 ≡ k → Ok q ≡ cond i (cond j (cond k (Err is.Closed) (Ok (number p))) (Err is.Place)) (Err is.Register) → On b p q
      go true true false u v w e = record { form = u; in_sheet_lem = v; opened = eqb-false b.opened 0 w; at = cc }
      go true true true u v w e = let z : ⊥ = cc in absurd z
      go true false k u v w e = let z : ⊥ = cc in absurd z
      go false j k u v w e = let z : ⊥ = cc in absurd z

-- an act is refused by what it meets there
pub act-before : (b : Book) (p : Place) (a : Act) (rest : List Rule) → Sized b → rules a (sight_o b) ≡ placed b p rest → Before b p (λ n. step (number_of n) b ≡ step_of a b)
unfolding lowest
act-before b p a rest s r = record {
  unformed = step-unformed b a;
  outside = λ u v. step-refused b a _ s u (rw (r, v));
  closed = λ u v z. step-refused b a _ s u (rw (r, v, meant-closed b z));
}

module _ (b : Book) (s : Sized b) (p : Place) (q : ℕ) (o : On b p q) where
  pub place-small : q < PLACES
  place-small = rw o.at (below p o.in_sheet_lem)

  on-rules : (a : Act) (rest : List Rule) → rules a (sight_o b) ≡ placed b p rest → lowest (rules a (sight_o b)) ≡ lowest rest
  unfolding lowest
  on-rules a rest r = rw (r, o.in_sheet_lem, meant-open b o.opened)

  -- ---- the tests of a place

  pub spot_there : get_or (open_of b).places (number p) none ≡ spot_at b.cells (q * 3)
  unfolding open_of
  spot_there = rw (← o.at) (place_at_lem b.cells q place-small)

  pub empty_is : empty p (sight_o b) ≡ is_empty (spot_at b.cells (q * 3))
  unfolding empty paper.sight
  empty_is = rw (meant-open b o.opened) (ap is_empty spot_there)

-- ---- a call that wants its place empty, or filled

-- what it meets there, and where
abbrev pub unwanted : Wanted → Refusal
unwanted want.Empty = is.Filled
unwanted want.Filled = is.Empty

abbrev pub wants_empty : Wanted → Bool
wants_empty want.Empty = true
wants_empty want.Filled = false

-- and its rule
abbrev pub unless_wanted : Wanted → Bool → Rule
unless_wanted want.Empty e = FILLED when not e
unless_wanted want.Filled e = EMPTY when e

-- how it stands there
pub record There (b : Book) (p : Place) (e : Bool) (q : ℕ) : Type 0 where
  pub on : On b p q
  pub spot : is_empty (spot_at b.cells (q * 3)) ≡ e

unwanted_at : (w : Wanted) (e : Bool) (q : ℕ) (r : Refusal) → Err r ≡ wanted_at w e q → (r ≡ unwanted w) × (e ≡ not (wants_empty w))
unwanted_at want.Empty false q r h = (cc, refl)
unwanted_at want.Filled true q r h = (cc, refl)
unwanted_at want.Empty true q r h = let z : ⊥ = cc in absurd z
unwanted_at want.Filled false q r h = let z : ⊥ = cc in absurd z

as_wanted : (w : Wanted) (e : Bool) (q p : ℕ) → Ok q ≡ wanted_at w e p → (q ≡ p) × (e ≡ wants_empty w)
as_wanted want.Empty true q p h = (cc, refl)
as_wanted want.Filled false q p h = (cc, refl)
as_wanted want.Empty false q p h = let z : ⊥ = cc in absurd z
as_wanted want.Filled true q p h = let z : ⊥ = cc in absurd z

module _ (b : Book) (p : Place) (w : Wanted) where
  -- the ways to be refused
  pub sought_by : (P : Refusal → Type 0) → Before b p P → ((q : ℕ) → There b p (not (wants_empty w)) q → P (unwanted w)) → (r : Refusal) → Err r ≡ wanted_of b p w → P r
  unfolding reached_of
  sought_by P f g r e = go (aim_of b p) refl e
    where
      go : (a : Result ℕ Refusal) → aim_of b p ≡ a → Err r ≡ reached_at b (at_empty w) (at_filled w) a → P r
      go (Err n) u h = let k : r ≡ n = cc in rw k (aim_by b p P f n (cc))
      go (Ok q) u h =
          let k = unwanted_at w (is_empty (spot_at b.cells (q * 3))) q r h in
          rw k.0 (g q (record { on = aim-on b p q (cc); spot = k.1 }))

  -- the one not to be
  pub sought-on : (q : ℕ) → Ok q ≡ wanted_of b p w → There b p (wants_empty w) q
  unfolding reached_of
  sought-on q e = go (aim_of b p) refl e
    where
      go : (a : Result ℕ Refusal) → aim_of b p ≡ a → Ok q ≡ reached_at b (at_empty w) (at_filled w) a → There b p (wants_empty w) q
      go (Err n) u h = let z : ⊥ = cc in absurd z
      go (Ok k) u h =
          let i = as_wanted w (is_empty (spot_at b.cells (k * 3))) q k h in
          rw i.0 (record { on = aim-on b p k (cc); spot = i.1 })

  -- an act with this rule behind PLACE and CLOSED
  module _ (s : Sized b) (a : Act) (rest : List Rule) (r : rules a (sight_o b) ≡ placed b p (unless_wanted w (empty p (sight_o b)) ∷ rest)) where
    pub sought-refused : (n : Refusal) → Err n ≡ wanted_of b p w → step (number_of n) b ≡ step_of a b
    unfolding lowest
    sought-refused = sought_by (λ n. step (number_of n) b ≡ step_of a b) (act-before b p a _ s r) (λ q o. refused w refl q o)
      where
        met : (v : Wanted) → w ≡ v → (q : ℕ) → There b p (not (wants_empty v)) q → lowest (rules a (sight_o b)) ≡ number_of (unwanted v)
        met want.Empty e q o = on-rules b s p q o.on a _ r ∙ rw (e, empty_is b s p q o.on, o.spot)
        met want.Filled e q o = on-rules b s p q o.on a _ r ∙ rw (e, empty_is b s p q o.on, o.spot)

        refused : (v : Wanted) → w ≡ v → (q : ℕ) → There b p (not (wants_empty v)) q → step (number_of (unwanted v)) b ≡ step_of a b
        refused want.Empty e q o = step-refused b a _ s o.on.form (met want.Empty e q o)
        refused want.Filled e q o = step-refused b a _ s o.on.form (met want.Filled e q o)

    pub sought_rest : (q : ℕ) → There b p (wants_empty w) q → lowest (rules a (sight_o b)) ≡ lowest rest
    unfolding lowest
    sought_rest q o = go w refl o
      where
        go : (v : Wanted) → w ≡ v → There b p (wants_empty v) q → lowest (rules a (sight_o b)) ≡ lowest rest
        go want.Empty e o = on-rules b s p q o.on a _ r ∙ rw (e, empty_is b s p q o.on, o.spot)
        go want.Filled e o = on-rules b s p q o.on a _ r ∙ rw (e, empty_is b s p q o.on, o.spot)
