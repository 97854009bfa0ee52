-- The ways out of a comparison of any two books.
-- Assumes nothing.
use Rattle.std.proofs.Common.{◌≡◌, refl, sym, ℕ, ◌≤◌, Bool, true, false, cond, ◌&&◌, ◌||◌, eqb, eqb-true, arith}
use Rattle.std.proofs.lemmas.Bool.{eqb-false}
use Rattle.std.specs.Prelude.{Result, Ok, Err}
use Rattle.paper.specs.Units.{one_to}
use Rattle.paper.specs.TurnedAway.{lowest, questioned}
use Rattle.paper.specs.Answers.{beside, says}
use Rattle.paper.specs.Alone.{compared_alone}
use Rattle.paper.proofs.Tests.{among}
use Rattle.image.specs.Sights.{sight_of}
use Rattle.procedure.specs.declared.refusal.Refusal.{Refusal}
use Rattle.procedure.specs.declared.refusal.Refusal.TheVariants as is
use Rattle.book.specs.declared.Book.{Book}
use Rattle.book.specs.Meaning.{book_form, seen}
use Rattle.book.proofs.Meaning.{meant-closed, meant-open, seen_in_lem, seen-out}
use Rattle.comparison.specs.declared.axis.Axis.{Axis}
use Rattle.comparison.specs.declared.axis.Axis.TheVariants.{Xy, H}
use Rattle.comparison.specs.Axes.{axis_number}
use Rattle.comparison.specs.Comparing.{comparison_to, comparison_told}
use Rattle.comparison.proofs.Asked.{compare_asked}
use Rattle.book.proofs.Opened.{Opened, words-seen}
use Rattle.pairs.specs.Asked.{axis_of, unless_closed, axis_met}

-- ---- the axis by its number

-- the axis of a number that has one
pub axis-of : (x : Axis) (n : ℕ) → axis_number x ≡ n → axis_of n ≡ Ok x
axis-of Xy n e = rw (← e) refl
axis-of H n e = rw (← e) refl

number-back : (n : ℕ) → one_to 2 n ≡ true → axis_number (cond (eqb n 1) Xy H) ≡ n
number-back n e = go (eqb n 1) refl (among 2 n e)
  where
    go : (b : Bool) → eqb n 1 ≡ b → (1 ≤ n) × (n ≤ 2) → axis_number (cond b Xy H) ≡ n
    go true h m = sym (eqb-true n 1 h)
    go false h m = let ne : n ≡ 1 → ⊥ = eqb-false n 1 h in omega arith

-- ---- what the books meet

-- no refusal before 10
pub record Comparable (a b : Book) (axis : ℕ) (x : Axis) : Type 0 where
  pub axis-known : axis_number x ≡ axis
  pub first : Opened a
  pub second : Opened b

-- by the tests of form, of the axis and of a closed book
abbrev met : ℕ → Bool → Bool → Bool → Bool → Bool → Result Axis Refusal
met axis i j x k l = cond (i && j) (unless_closed (k || l) (cond x (Ok (cond (eqb axis 1) Xy H)) (Err is.Place))) (Err is.Register)

module _ (a b : Book) (axis : ℕ) where
  pub comparable : (t : Axis) → Ok t ≡ axis_met a b axis → Comparable a b axis t
  unfolding axis_met
  comparable t e = go (book_form a) (book_form b) (one_to 2 axis) (eqb a.opened 0) (eqb b.opened 0) refl refl refl refl refl e
    where
      go : (i j x k l : Bool) → book_form a ≡ i → book_form b ≡ j → one_to 2 axis ≡ x → eqb a.opened 0 ≡ k → eqb b.opened 0 ≡ l → Ok t ≡ met axis i j x k l → Comparable a b axis t
      go true true true false false u v w y z e =
          let same : t ≡ cond (eqb axis 1) Xy H = cc in
          record {
            axis-known = rw same (number-back axis w);
            first = record { form = u; opened = eqb-false a.opened 0 y };
            second = record { form = v; opened = eqb-false b.opened 0 z };
          }
      go true true true false true u v w y z e = let q : ⊥ = cc in absurd q
      go true true true true l u v w y z e = let q : ⊥ = cc in absurd q
      go true true false k l u v w y z e = let q : ⊥ = cc in absurd q
      go true false x k l u v w y z e = let q : ⊥ = cc in absurd q
      go false j x k l u v w y z e = let q : ⊥ = cc in absurd q

  pub compared_refused : (r : Refusal) → Err r ≡ axis_met a b axis → comparison_told (Err r) ≡ compared_alone axis (seen a) (seen b)
  unfolding axis_met compared_alone says lowest questioned beside
  compared_refused r e = go (book_form a) (book_form b) (one_to 2 axis) (eqb a.opened 0) (eqb b.opened 0) refl refl refl refl refl e
    where
      go : (i j x k l : Bool) → book_form a ≡ i → book_form b ≡ j → one_to 2 axis ≡ x → eqb a.opened 0 ≡ k → eqb b.opened 0 ≡ l → Err r ≡ met axis i j x k l → comparison_told (Err r) ≡ compared_alone axis (seen a) (seen b)
      go false j x k l u v w y z e = let q : r ≡ is.Register = cc in rw (q, seen-out a u)
      go true false x k l u v w y z e = let q : r ≡ is.Register = cc in rw (q, seen_in_lem a u, seen-out b v)
      go true true false k l u v w y z e = let q : r ≡ is.Place = cc in rw (q, seen_in_lem a u, seen_in_lem b v, w)
      go true true true true l u v w y z e = let q : r ≡ is.Closed = cc in rw (q, seen_in_lem a u, seen_in_lem b v, w, meant-closed a (eqb-true a.opened 0 y))
      go true true true false true u v w y z e =
          let q : r ≡ is.Closed = cc in
          rw (q, seen_in_lem a u, seen_in_lem b v, w, meant-open a (eqb-false a.opened 0 y), meant-closed b (eqb-true b.opened 0 z))
      go true true true false false u v w y z e = let q : ⊥ = cc in absurd q

  pub compared_open : (t : Axis) → Comparable a b axis t → comparison_to (axis_number t) (sight_of a.terms a.cells) (sight_of b.terms b.cells) ≡ compared_alone axis (seen a) (seen b)
  unfolding compared_alone
  compared_open t o =
      rw (o.axis-known, seen_in_lem a o.first.form, seen_in_lem b o.second.form, meant-open a o.first.opened, meant-open b o.second.opened)
      (sym (compare_asked _ 1 2 axis _ _ _ _ _ _ refl refl refl refl (words-seen a o.first) (words-seen b o.second)))
