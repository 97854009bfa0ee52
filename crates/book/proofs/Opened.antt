-- A book that is in form and open.
-- Assumes nothing.
use Rattle.std.proofs.Common.{◌≡◌, refl, Bool, true, false, cond, List, ◌∷◌, eqb, eqb-true}
use Rattle.std.proofs.lemmas.Bool.{eqb-false}
use Rattle.std.specs.Prelude.{Ok, Err}
use Rattle.paper.specs.Books as paper
use Rattle.paper.specs.Calls.{Act}
use Rattle.paper.specs.TurnedAway.{is_closed, Rule, ◌when◌, lowest, rules}
use Rattle.paper.specs.Refusals.{CLOSED}
use Rattle.paper.proofs.Form.{parts}
use Rattle.image.specs.Sights.{Formed, Seen}
use Rattle.procedure.specs.declared.refusal.Refusal.{Refusal}
use Rattle.procedure.specs.declared.refusal.Refusal.TheVariants as is
use Rattle.procedure.specs.Refused.{number_of}
use Rattle.book.specs.declared.Book.{Book}
use Rattle.book.specs.Meaning.{open_of, book_form}
use Rattle.book.specs.Steps.{step, step_of, met_of}
use Rattle.book.proofs.Meaning.{Sized, form-sound, meant-closed}
use Rattle.book.proofs.Steps.{sight_o, step-unformed, step-refused}

pub record Opened (b : Book) : Type 0 where
  pub form : book_form b ≡ true
  pub opened : b.opened ≡ 0 → ⊥

-- ---- what a call meets

module _ (b : Book) where
  -- the ways to be refused
  pub met_by : (P : Refusal → Type 0) → (book_form b ≡ false → P is.Register) → (book_form b ≡ true → b.opened ≡ 0 → P is.Closed) → (r : Refusal) → Err r ≡ met_of b → P r
  unfolding met_of
  met_by P u v r e = go (book_form b) (eqb b.opened 0) refl refl e
    where
      go : (i j : Bool) → book_form b ≡ i → eqb b.opened 0 ≡ j → Err r ≡ cond i (cond j (Err is.Closed) (Ok (tt {0}))) (Err is.Register) → P r
      go false j x y e = let q : r ≡ is.Register = cc in rw q (u x)
      go true true x y e = let q : r ≡ is.Closed = cc in rw q (v x (eqb-true b.opened 0 y))
      go true false x y e = let q : ⊥ = cc in absurd q

  -- the one not to be
  pub met_open : Ok tt ≡ met_of b → Opened b
  unfolding met_of
  met_open e = go (book_form b) (eqb b.opened 0) refl refl e
    where
      go : (i j : Bool) → book_form b ≡ i → eqb b.opened 0 ≡ j → Ok tt ≡ cond i (cond j (Err is.Closed) (Ok (tt {0}))) (Err is.Register) → Opened b
      go false j x y e = let q : ⊥ = cc in absurd q
      go true true x y e = let q : ⊥ = cc in absurd q
      go true false x y e = record { form = x; opened = eqb-false b.opened 0 y }

  -- an act whose first rule is CLOSED
  pub met_refused : (a : Act) (rest : List Rule) → Sized b → rules a (sight_o b) ≡ CLOSED when is_closed (sight_o b) ∷ rest → (r : Refusal) → Err r ≡ met_of b → step (number_of r) b ≡ step_of a b
  unfolding lowest
  met_refused a rest s r = met_by (λ n. step (number_of n) b ≡ step_of a b) (step-unformed b a) (λ e z. step-refused b a _ s e (rw (r, meant-closed b z)))

-- ---- its words

module _ (b : Book) (o : Opened b) where
  pub words-formed : Formed b.terms b.cells
  unfolding open_of
  words-formed = let g = parts (open_of b) (form-sound b o.form o.opened).formed in (g.ranged, g.close)

  pub words-seen : Seen (paper.sight (open_of b)) b.terms b.cells
  unfolding paper.sight open_of
  words-seen = record { terms = refl; places = refl }
