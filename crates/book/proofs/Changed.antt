-- A change: the words that it leaves, and the calls that make one.
-- Assumes nothing.
use Rattle.std.proofs.Common.{◌≡◌, refl, sym, ap, ◌∙◌, ℕ, suc, ◌+◌, ◌-◌, ◌*◌, ◌≤◌, min, arith, Bool, true, false, cond, not, List, [], ◌∷◌, get_or, length-take, ltb, ltb-true, ltb-false}
use Rattle.std.specs.Prelude.{Result, Ok, Err}
use Rattle.std.proofs.Math.Option.{none, some}
use Rattle.paper.specs.Procedure.{KEPT}
use Rattle.paper.specs.Units.{Triple, Place, in_range, number, point_of, near, Spot}
use Rattle.paper.specs.Books as paper
use Rattle.paper.specs.Calls.{Act, enter, correct, withdraw, makes, effect, affected}
use Rattle.paper.specs.Refusals.{FAR}
use Rattle.paper.specs.TurnedAway.{◌when◌, empty, far, lowest, rules}
use Rattle.paper.proofs.Tests.{told_point}
use Rattle.rows.specs.Paste.{pasted}
use Rattle.image.specs.Lengths.{triple, terms_of, word_or}
use Rattle.image.specs.Places.{spot_at, places_of, spot_words}
use Rattle.image.specs.Changes.{change, entries, change_words}
use Rattle.image.proofs.Lengths.{words-terms}
use Rattle.image.proofs.Places.{length-places, place_at_lem, cells_set, words-spot}
use Rattle.image.proofs.Changes.{length-entries, changes_push}
use Rattle.image.proofs.Bounds.{near-words, near-short, words_of_lem}
use Rattle.changes.specs.Kept.{pushed, more}
use Rattle.procedure.specs.declared.refusal.Refusal.{Refusal}
use Rattle.procedure.specs.declared.refusal.Refusal.TheVariants as is
use Rattle.book.specs.declared.Book.{Book}
use Rattle.book.proofs.Wanted.{Wanted, wanted_of}
use Rattle.book.proofs.Wanted as want
use Rattle.book.specs.Meaning.{book_of, open_of, meant}
use Rattle.book.specs.Steps.{step, step_of, stepped, changed_of, placed_of}
use Rattle.book.proofs.Meaning.{Sized, book-parts, Sound, form-sound, meant-open}
use Rattle.book.proofs.Steps.{sight_o, step-refused, step-done, kept-words, cell_words, ranged}
use Rattle.book.proofs.Sought.{On, placed, place-small, unless_wanted, sought-on, sought-refused, sought_rest}

-- ---- a place of an open book

module _ (b : Book) (s : Sized b) (p : Place) (q : ℕ) (o : On b p q) where
  sound : Sound b
  sound = form-sound b o.form o.opened

  far_is : (v : Triple) → far p v (sight_o b) ≡ not (near (terms_of b.terms) (point_of q) (triple (word_or v.x) (word_or v.y) (word_or v.h)))
  unfolding far paper.sight open_of
  far_is v =
      rw (meant-open b o.opened, o.at, told_point p o.in_sheet_lem, near-words (terms_of b.terms) p.point v.x v.y v.h (ranged b s sound))

  -- ---- the change

  more_is : (n : ℕ) → n ≤ KEPT → suc (min (KEPT - 1) n) ≡ more n
  more_is n h = go (ltb n KEPT) refl
    where
      go : (t : Bool) → ltb n KEPT ≡ t → suc (min (KEPT - 1) n) ≡ cond t (n + 1) KEPT
      go true e = omega (arith, ltb-true n KEPT e)
      go false e = omega (arith, ltb-false n KEPT e)

  words-before : change_words (change q (spot_at b.cells (q * 3))) ≡ q ∷ get_or b.cells (q * 3) 0 ∷ get_or b.cells (q * 3 + 1) 0 ∷ get_or b.cells (q * 3 + 2) 0 ∷ []
  unfolding change_words
  words-before = rw (words-spot (get_or b.cells (q * 3) 0) (get_or b.cells (q * 3 + 1) 0) (get_or b.cells (q * 3 + 2) 0))

  change_is : (v : Spot) → changed_of b q (spot_words v) ≡ book_of (affected (makes (change (number p) v)) (meant b))
  unfolding changed_of book_of affected paper.changed paper.make paper.inverse open_of pushed
  change_is v =
      rw (meant-open b o.opened, ← o.at, place_at_lem b.cells q (place-small b s p q o))
      (book-parts _ _ _ _ _ _ _ _ _ _ sound.opened
      (sym (words-terms b.terms s.terms))
      (sym (cells_set (places_of b.cells) q v (rw (length-places b.cells) (place-small b s p q o)) ∙ ap (λ (l : List ℕ). pasted l (q * 3) (spot_words v)) (cell_words b s sound)))
      (sym (ap suc (length-take (KEPT - 1) (entries b.kept b.changes) ∙ ap (min (KEPT - 1)) (length-entries b.kept b.changes)) ∙ more_is b.kept sound.few))
      (sym (changes_push (KEPT - 1) (change q (spot_at b.cells (q * 3))) (entries b.kept b.changes) ∙ rw (words-before, kept-words b s sound))))

  -- ---- an act that puts a reading where it may stand: FAR, or the change
  placed_is : (a : Act) (v : Triple) → effect a ≡ makes (change (number p) (some v))
      → lowest (rules a (sight_o b)) ≡ lowest (FAR when far p v (sight_o b) ∷ [])
      → stepped b (placed_of b q (word_or v.x) (word_or v.y) (word_or v.h)) ≡ step_of a b
  unfolding lowest placed_of
  placed_is a v ef r = go (near (terms_of b.terms) (point_of q) (triple (word_or v.x) (word_or v.y) (word_or v.h))) refl
    where
      in_range_lem : in_range (terms_of b.terms) ≡ true
      in_range_lem = ranged b s sound

      go : (n : Bool) → near (terms_of b.terms) (point_of q) (triple (word_or v.x) (word_or v.y) (word_or v.h)) ≡ n
          → stepped b (cond n (Ok (changed_of b q (word_or v.x ∷ word_or v.y ∷ word_or v.h ∷ []))) (Err is.Far)) ≡ step_of a b
      go false e = step-refused b a _ s o.form (r ∙ rw (far_is v, e))
      go true e =
          let close : near (terms_of b.terms) (point_of q) v ≡ true = sym (near-words (terms_of b.terms) (point_of q) v.x v.y v.h in_range_lem) ∙ e in
          let w = words_of_lem v.x v.y v.h (near-short (terms_of b.terms) (point_of q) v in_range_lem close) in
          step-done b a (changed_of b q (word_or v.x ∷ word_or v.y ∷ word_or v.h ∷ [])) o.form (r ∙ rw (far_is v, e)) (rw (w, ef) (change_is (some v)))

-- ---- an act on a place sought

module _ (b : Book) (s : Sized b) (p : Place) (q : ℕ) where
  -- a reading put where it goes
  placed-step : (w : Wanted) (a : Act) (v : Triple) → Ok q ≡ wanted_of b p w → effect a ≡ makes (change (number p) (some v))
      → rules a (sight_o b) ≡ placed b p (unless_wanted w (empty p (sight_o b)) ∷ FAR when far p v (sight_o b) ∷ [])
      → (r : Result Book Refusal) → r ≡ placed_of b q (word_or v.x) (word_or v.y) (word_or v.h)
      → stepped b r ≡ step_of a b
  placed-step w a v u ef l r er =
      let o = sought-on b p w q u in
      rw er (placed_is b s p q o.on a v ef (sought_rest b p w s a _ l q o))

  pub entered : (v : Triple) → Ok q ≡ wanted_of b p want.Empty
      → (r : Result Book Refusal) → r ≡ placed_of b q (word_or v.x) (word_or v.y) (word_or v.h) → stepped b r ≡ step_of (enter p v) b
  unfolding rules effect
  entered v u = placed-step want.Empty (enter p v) v u refl refl

  pub corrected : (v : Triple) → Ok q ≡ wanted_of b p want.Filled
      → (r : Result Book Refusal) → r ≡ placed_of b q (word_or v.x) (word_or v.y) (word_or v.h) → stepped b r ≡ step_of (correct p v) b
  unfolding rules effect
  corrected v u = placed-step want.Filled (correct p v) v u refl refl

  pub withdrawn : Ok q ≡ wanted_of b p want.Filled → (b' : Book) → b' ≡ changed_of b q (0 ∷ 0 ∷ 0 ∷ []) → step 0 b' ≡ step_of (withdraw p) b
  unfolding rules effect lowest spot_words
  withdrawn u b' e =
      let o = sought-on b p want.Filled q u in
      step-done b (withdraw p) b' o.on.form (sought_rest b p want.Filled s (withdraw p) [] refl q o) (e ∙ change_is b s p q o.on none)

-- ---- what refuses them

module _ (b : Book) (s : Sized b) (p : Place) (r : Refusal) where
  pub enter_refused : (v : Triple) → Err r ≡ wanted_of b p want.Empty → stepped b (Err r) ≡ step_of (enter p v) b
  unfolding rules
  enter_refused v = sought-refused b p want.Empty s (enter p v) _ refl r

  pub correct_refused : (v : Triple) → Err r ≡ wanted_of b p want.Filled → stepped b (Err r) ≡ step_of (correct p v) b
  unfolding rules
  correct_refused v = sought-refused b p want.Filled s (correct p v) _ refl r

  pub withdraw_refused : Err r ≡ wanted_of b p want.Filled → stepped b (Err r) ≡ step_of (withdraw p) b
  unfolding rules
  withdraw_refused = sought-refused b p want.Filled s (withdraw p) _ refl r
