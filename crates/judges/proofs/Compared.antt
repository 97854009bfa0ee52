-- A comparison of the books of two numbers.
-- Assumes nothing.
use Rattle.std.proofs.Common.{◌≡◌, refl, ap, ◌∙◌, ℕ, List, Bool, true, false, cond, not, ◌||◌, eqb}
use Rattle.std.specs.Prelude.{Result, Err}
use Rattle.std.proofs.Math.Option.{Option, none, some, map}
use Rattle.paper.specs.Procedure.{BOOKS}
use Rattle.paper.specs.Units.{one_to}
use Rattle.paper.specs.Books as paper
use Rattle.paper.specs.Calls.{ask, compare}
use Rattle.paper.specs.Refusals.{REGISTER}
use Rattle.paper.specs.TurnedAway.{lowest, questioned, is_closed, no_book}
use Rattle.paper.specs.Answers.{Answer, same, says, given, beside, suspect_in}
use Rattle.paper.specs.Alone.{compared_alone}
use Rattle.procedure.specs.declared.refusal.Refusal.{Refusal}
use Rattle.procedure.specs.declared.refusal.Refusal.TheVariants as is
use Rattle.book.specs.declared.Book.{Book}
use Rattle.book.specs.Meaning.{meant, seen}
use Rattle.book.proofs.Meaning.{seen-image}
use Rattle.comparison.specs.Comparing.{comparison_told}
use Rattle.lent.specs.Image.{meant_from}
use Rattle.lent.specs.Calls.{shut, call_on, called}
use Rattle.lent.proofs.Image.{state_in, state-out}
use Rattle.shelving.specs.Steps.{meets_register, addressed_of}
use Rattle.shelving.proofs.Ways.{addressed-among, addressed-outside, addressed-register, meets_is}
use Rattle.shelf.specs.Steps.{picked_of, found_of}
use Rattle.shelf.proofs.Ways.{Within, found, elsewhere, Way, within, without, within-seen, picked_way, found-way, found-seen, found-meant}
use Rattle.shelf.proofs.Asked.{closed_meets}

module _ (bs : List ℕ) (j k axis : ℕ) where
  abbrev s : ℕ → Option paper.Sight
  s = paper.sights (meant_from BOOKS bs)

  -- a closed book meets PLACE or CLOSED
  one-closed : (o p : Option paper.Book) → is_closed (map paper.sight o) || is_closed (map paper.sight p) ≡ true → eqb (compared_alone axis (some o) (some p)).refused REGISTER ≡ false
  unfolding compared_alone says lowest questioned
  one-closed o p c = rw c (closed_meets (not (one_to 2 axis)))

  -- PLACE of a number that is no book's
  no-book : no_book j || no_book k ≡ true → comparison_told (Err is.Place) ≡ says (ask (compare j k axis)) s
  unfolding says lowest questioned beside
  no-book e = rw e

  both_in : (o p : Option paper.Book) → paper.book (meant_from BOOKS bs) j ≡ o → paper.book (meant_from BOOKS bs) k ≡ p → one_to BOOKS j ≡ true → one_to BOOKS k ≡ true
      → compared_alone axis (some o) (some p) ≡ says (ask (compare j k axis)) s
  unfolding compared_alone says lowest questioned given beside suspect_in paper.sights
  both_in o p u v e f = rw (← u, ← v, e, f)

  -- PLACE of the first number stays, whatever the second
  place_stays : addressed_of {A = Bool} k (Err is.Place) ≡ Err is.Place
  unfolding addressed_of
  place_stays = go (one_to BOOKS k)
    where
      go : (i : Bool) → ◌≡◌ {A = Result Bool Refusal} (cond i (Err is.Place) (Err is.Place)) (Err is.Place)
      go true = refl
      go false = refl

  or-closed : (o : Option paper.Book) → is_closed (map paper.sight o) || true ≡ true
  or-closed none = refl
  or-closed (some o) = refl

  pub comparison_asked : (a b : Book) → a ≡ found_of bs j → b ≡ picked_of bs k → (r : Result Bool Refusal) → comparison_told r ≡ compared_alone axis (seen a) (seen b)
      → comparison_told (addressed_of k (addressed_of j r)) ≡ (called (ask (compare j k axis)) bs).answer
  unfolding called call_on shut compared_alone paper.sights beside suspect_in
  comparison_asked a b ea eb r t = go (found-way bs j a ea)
    where
      met : (x : Answer) → compared_alone axis (seen a) (seen b) ≡ x → meets_register r ≡ eqb x.refused REGISTER
      met x h = meets_is same (same false) r ∙ ap (λ (z : Answer). eqb z.refused REGISTER) (t ∙ h)

      go : Way bs j a → comparison_told (addressed_of k (addressed_of j r)) ≡ (called (ask (compare j k axis)) bs).answer
      go (without u v) =
          let m : meets_register r ≡ true = met (compared_alone axis none (seen b)) (rw v) in
          rw (addressed-register j r m, addressed-register k r m) (t ∙ rw (v, state-out bs u))
      go (within u (elsewhere e w)) =
          let second = within-seen bs k b (picked_way bs k b eb u) in
          let m : meets_register r ≡ false = met (compared_alone axis (some none) (some (meant b))) (rw (w, seen-image none refl, second)) ∙ one-closed none (meant b) refl in
          rw (addressed-outside j r m e, place_stays, state_in bs u) (no-book (rw e))
      go (within u (found f)) = beside_it (picked_way bs k b eb u)
        where
          beside_it : Within bs k b → comparison_told (addressed_of k (addressed_of j r)) ≡ (called (ask (compare j k axis)) bs).answer
          beside_it (elsewhere e w) =
              let m : meets_register r ≡ false = met (compared_alone axis (some (meant a)) (some none)) (rw (w, seen-image none refl, found-seen bs j a f)) ∙ one-closed (meant a) none (or-closed (meant a)) in
              rw (addressed-among j r f.among, addressed-outside k r m e, state_in bs u) (no-book (rw (f.among, e)))
          beside_it (found g) =
              rw (addressed-among j r f.among, addressed-among k r g.among)
              (t ∙ rw (found-seen bs j a f, found-seen bs k b g, state_in bs u) (both_in (meant a) (meant b) (found-meant bs j a f) (found-meant bs k b g) f.among g.among))
