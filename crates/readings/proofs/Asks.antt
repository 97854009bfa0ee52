-- The ways out of a question of a book.
-- Assumes nothing.
use Rattle.std.proofs.Common.{◌≡◌, refl, sym, ◌∙◌, subst, ℕ, ◌+◌, ◌*◌, ◌<◌, true, false, List, get_or, ℤ}
use Rattle.std.specs.Prelude.{Ok, Err}
use Rattle.std.proofs.Math.Option.{none}
use Rattle.paper.specs.Units.{zeros, Place, near_at, is_empty, Spot}
use Rattle.paper.specs.Books as paper
use Rattle.paper.specs.Calls.{Question, read, changes}
use Rattle.paper.specs.TurnedAway.{Rule, lowest, questioned, empty}
use Rattle.paper.specs.Answers.{lengths, count, Value, given, beside, says}
use Rattle.paper.specs.Alone.{asked_alone}
use Rattle.paper.proofs.Form.{parts}
use Rattle.paper.proofs.Stays.{near_there}
use Rattle.image.specs.Lengths.{ORIGIN, len, triple, terms_of}
use Rattle.image.specs.Places.{all_zero, spot_of, spot_at, places_of}
use Rattle.image.proofs.Places.{place_at_lem, empty-spot}
use Rattle.image.proofs.Bounds.{spot-short, full_bound}
use Rattle.procedure.specs.declared.refusal.Refusal.{Refusal}
use Rattle.procedure.specs.declared.refusal.Refusal.TheVariants as is
use Rattle.procedure.specs.Refused.{told}
use Rattle.book.specs.declared.Book.{Book}
use Rattle.book.proofs.Wanted.{wanted_of}
use Rattle.book.proofs.Wanted as want
use Rattle.book.specs.Meaning.{open_of, seen}
use Rattle.book.specs.Steps.{met_of}
use Rattle.book.proofs.Meaning.{Sized, form-sound, meant-closed, meant-open, seen_in_lem, seen-out}
use Rattle.book.proofs.Steps.{sight_o, ranged, kept-count}
use Rattle.book.proofs.Opened.{Opened, met_by}
use Rattle.book.proofs.Sought.{On, Before, placed, place-small, sought_by, sought-on, spot_there, empty_is}
use Rattle.readings.specs.Answers.{reading_in}

-- what a question of book 1 is answered where it is refused with r
abbrev pub refused_with : (ℕ → Question) → Value → Book → Refusal → Type 0
refused_with q beside b r = told {A = ℕ} count beside (Err r) ≡ asked_alone q (seen b)

-- ---- lengths

-- a question of a place: REGISTER, PLACE, CLOSED
pub asked-before : (b : Book) (p : Place) (q : ℕ → Question) (rest : List Rule) → questioned (q 1) (λ k. sight_o b) ≡ placed b p rest → beside (q 1) ≡ lengths zeros
    → Before b p (refused_with q (lengths zeros) b)
unfolding asked_alone says lowest
asked-before b p q rest r z = record {
  unformed = λ u. rw (seen-out b u, z);
  outside = λ u v. rw (seen_in_lem b u, r, v, z);
  closed = λ u v w. rw (seen_in_lem b u, r, v, meant-closed b w, z);
}

module _ (b : Book) (s : Sized b) (p : Place) (q : ℕ) (o : On b p q) where
  abbrev x : ℕ
  x = get_or b.cells (q * 3) 0

  abbrev y : ℕ
  y = get_or b.cells (q * 3 + 1) 0

  abbrev h : ℕ
  h = get_or b.cells (q * 3 + 2) 0

  read-empty : is_empty (spot_at b.cells (q * 3)) ≡ true → refused_with (λ k. read k p) (lengths zeros) b is.Empty
  unfolding asked_alone says lowest questioned beside
  read-empty e = rw (seen_in_lem b o.form, o.in_sheet_lem, empty_is b s p q o, e, meant-open b o.opened)

  full : is_empty (spot_at b.cells (q * 3)) ≡ false → all_zero x y h ≡ false
  full e = sym (empty-spot x y h) ∙ e

  read-full : is_empty (spot_at b.cells (q * 3)) ≡ false → told lengths (lengths zeros) (Ok (triple x y h)) ≡ asked_alone (λ k. read k p) (seen b)
  unfolding asked_alone says lowest questioned given empty paper.sight spot_of
  read-full e = rw (seen_in_lem b o.form, o.in_sheet_lem, meant-open b o.opened, spot_there b s p q o, full e)

  full-bound : is_empty (spot_at b.cells (q * 3)) ≡ false → (x < 2 * ORIGIN) × (y < 2 * ORIGIN) × (h < 2 * ORIGIN)
  unfolding open_of
  full-bound e =
      let g = form-sound b o.form o.opened in
      let n : near_at (terms_of b.terms) q (get_or (places_of b.cells) q none) ≡ true = near_there (terms_of b.terms) (places_of b.cells) q (parts (open_of b) g.formed).close in
      let m : near_at (terms_of b.terms) q (spot_at b.cells (q * 3)) ≡ true = subst (λ (v : Spot). near_at (terms_of b.terms) q v ≡ true) (place_at_lem b.cells q (place-small b s p q o)) n in
      full_bound x y h (full e) (spot-short (terms_of b.terms) q (spot_at b.cells (q * 3)) (ranged b s g) m)

-- and EMPTY
pub read-refused : (b : Book) (p : Place) → Sized b → (r : Refusal) → Err r ≡ wanted_of b p want.Filled → refused_with (λ k. read k p) (lengths zeros) b r
unfolding questioned beside
read-refused b p s = sought_by b p want.Filled (refused_with (λ k. read k p) (lengths zeros) b) (asked-before b p (λ k. read k p) _ refl refl) (λ q o. read-empty b s p q o.on o.spot)

-- a place that is read is filled, and what stands there are lengths
module _ (b : Book) (s : Sized b) (p : Place) (q : ℕ) (g : Ok q ≡ wanted_of b p want.Filled) where
  pub read_bound : (get_or b.cells (q * 3) 0 < 2 * ORIGIN) × (get_or b.cells (q * 3 + 1) 0 < 2 * ORIGIN) × (get_or b.cells (q * 3 + 2) 0 < 2 * ORIGIN)
  read_bound = let o = sought-on b p want.Filled q g in full-bound b s p q o.on o.spot

  pub read-done : (u v w : ℤ) → u ≡ len (get_or b.cells (q * 3) 0) → v ≡ len (get_or b.cells (q * 3 + 1) 0) → w ≡ len (get_or b.cells (q * 3 + 2) 0)
      → told reading_in (lengths zeros) (Ok (record { x = u; y = v; h = w })) ≡ asked_alone (λ k. read k p) (seen b)
  read-done u v w eu ev ew = let o = sought-on b p want.Filled q g in rw (eu, ev, ew) (read-full b s p q o.on o.spot)

-- ---- the count

module _ (b : Book) where
  pub count-refused : (r : Refusal) → Err r ≡ met_of b → refused_with changes (count 0) b r
  unfolding asked_alone says lowest questioned beside
  count-refused = met_by b (refused_with changes (count 0) b) (λ e. rw (seen-out b e)) (λ e z. rw (seen_in_lem b e, meant-closed b z))

  pub count-open : Sized b → Opened b → told count (count 0) (Ok b.kept) ≡ asked_alone changes (seen b)
  unfolding asked_alone says lowest questioned given paper.sight
  count-open s o = rw (seen_in_lem b o.form, meant-open b o.opened, kept-count b s (form-sound b o.form o.opened))
