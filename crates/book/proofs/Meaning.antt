-- Words and books in form go together: each book in form has its words, and words in form are those of the one book that they mean.
-- Assumes nothing.
use Prim.Native.Nat.{ℕ, ◌*◌, ◌≤◌}
use native.Mathlib.Omega.{arith}
use mathlib.Core.Path.{◌≡◌, refl, sym, ap, ◌∙◌, subst}
use mathlib.Core.Bool.{Bool, true, false, cond, ◌&&◌}
use mathlib.Core.Option.{Option, none, some}
use mathlib.Core.List.{List}
use lib.ListN.{length, drop, replicate, length-replicate, length-map}
use lib.Dec.{eqb, leb}
use borrow.Author.Tests.{eq-eqb, ne_eqb, eqb-true, eqb-false, leb-true, le-leb}
use Rattle.paper.specs.Procedure.{KEPT}
use Rattle.paper.specs.Units.{Terms, term_list, Places}
use Rattle.paper.specs.Books as paper
use Rattle.paper.specs.Form.{formed, formed_o}
use Rattle.paper.proofs.Tests.{and_left, and_right}
use Rattle.paper.proofs.Form.{Formed, parts}
use Rattle.image.specs.Layout.{TERM_WORDS, CELL_WORDS, CHANGE_WORDS}
use Rattle.image.specs.Lengths.{word}
use Rattle.image.specs.Places.{places_of, cells_of}
use Rattle.image.specs.Changes.{entries, changes_of, zeros}
use Rattle.image.proofs.Lengths.{length-terms, words-terms, terms-words}
use Rattle.image.proofs.Places.{length_cells, cells_places, places_cells}
use Rattle.image.proofs.Changes.{length_changes, length-entries, changes_entries, entries_changes, zeros-all, zeros-replicate, zeros_rest}
use Rattle.image.proofs.Bounds.{terms-short, places-short, kept-short}
use Rattle.form.specs.Whole.{bare, sound, words_form}
use Rattle.book.specs.declared.Book.{Book}
use Rattle.book.specs.Meaning.{book_of, open_of, meant, book_form, seen}

-- the arrays of a Book have these lengths
pub record Sized (b : Book) : Type 0 where
  pub terms : length b.terms ≡ TERM_WORDS
  pub cells : length b.cells ≡ CELL_WORDS
  pub changes : length b.changes ≡ CHANGE_WORDS

pub sized : (b : Book) → length b.terms ≡ TERM_WORDS → length b.cells ≡ CELL_WORDS → length b.changes ≡ CHANGE_WORDS → Sized b
sized b t c h = record { terms = t; cells = c; changes = h }

pub book-parts : (o o' : ℕ) (t t' ce ce' : List ℕ) (k k' : ℕ) (ch ch' : List ℕ) → o ≡ o' → t ≡ t' → ce ≡ ce' → k ≡ k' → ch ≡ ch'
    → ◌≡◌ {A = Book} (record { opened = o; terms = t; cells = ce; kept = k; changes = ch }) (record { opened = o'; terms = t'; cells = ce'; kept = k'; changes = ch' })
book-parts o o' t t' ce ce' k k' ch ch' e₀ e₁ e₂ e₃ e₄ = rw (e₀, e₁, e₂, e₃, e₄)

-- ---- open or closed

pub meant-closed : (b : Book) → b.opened ≡ 0 → meant b ≡ none
unfolding meant
meant-closed b e = rw (eq-eqb b.opened 0 e)

pub meant-open : (b : Book) → (b.opened ≡ 0 → ⊥) → meant b ≡ some (open_of b)
unfolding meant
meant-open b f = rw (ne_eqb b.opened 0 f)

pub record Sound (b : Book) : Type 0 where
  pub opened : b.opened ≡ 1
  pub few : b.kept ≤ KEPT
  pub rest : zeros (drop (b.kept * 4) b.changes) ≡ true
  pub formed : formed (open_of b) ≡ true

pub form-sound : (b : Book) → book_form b ≡ true → (b.opened ≡ 0 → ⊥) → Sound b
unfolding book_form words_form sound open_of
form-sound b e f =
    let o = eqb b.opened 1 in
    let k = leb b.kept KEPT in
    let z = zeros (drop (b.kept * 4) b.changes) in
    let g = formed (open_of b) in
    let e₀ : o && (k && (z && g)) ≡ true = rw (ne_eqb b.opened 0 f) at e in
    let e₁ : k && (z && g) ≡ true = and_right o (k && (z && g)) e₀ in
    let e₂ : z && g ≡ true = and_right k (z && g) e₁ in
    record {
      opened = eqb-true b.opened 1 (and_left o (k && (z && g)) e₀);
      few = leb-true b.kept KEPT (and_left k (z && g) e₁);
      rest = and_left z g e₂;
      formed = and_right z g e₂;
    }

-- ---- words to book to words

open-book : (b : Book) → Sized b → Sound b → book_of (some (open_of b)) ≡ b
unfolding book_of open_of
open-book b s o =
    book-parts _ _ _ _ _ _ _ _ _ _ (sym o.opened) (words-terms b.terms s.terms) (cells_places b.cells s.cells) (length-entries b.kept b.changes)
    (changes_entries KEPT b.kept b.changes s.changes o.few o.rest)

closed-book : (b : Book) → Sized b → book_form b ≡ true → b.opened ≡ 0 → book_of none ≡ b
unfolding book_of book_form words_form bare
closed-book b s e z =
    let k = eqb b.kept 0 in
    let t = zeros b.terms in
    let c = zeros b.cells in
    let h = zeros b.changes in
    let e₀ : k && (t && (c && h)) ≡ true = rw (eq-eqb b.opened 0 z) at e in
    let e₁ : t && (c && h) ≡ true = and_right k (t && (c && h)) e₀ in
    let e₂ : c && h ≡ true = and_right t (c && h) e₁ in
    let z₁ : b.terms ≡ replicate TERM_WORDS 0 = subst (λ (n : ℕ). b.terms ≡ replicate n 0) s.terms (zeros-all b.terms (and_left t (c && h) e₁)) in
    let z₂ : b.cells ≡ replicate CELL_WORDS 0 = subst (λ (n : ℕ). b.cells ≡ replicate n 0) s.cells (zeros-all b.cells (and_left c h e₂)) in
    let z₃ : b.changes ≡ replicate CHANGE_WORDS 0 = subst (λ (n : ℕ). b.changes ≡ replicate n 0) s.changes (zeros-all b.changes (and_right c h e₂)) in
    book-parts _ _ _ _ _ _ _ _ _ _ (sym z) (sym z₁) (sym z₂) (sym (eqb-true b.kept 0 (and_left k (t && (c && h)) e₀))) (sym z₃)

-- LAW: words in form are those of the book that they mean
pub form-book : (b : Book) → Sized b → book_form b ≡ true → book_of (meant b) ≡ b
form-book b s e = go (eqb b.opened 0) refl
  where
    go : (t : Bool) → eqb b.opened 0 ≡ t → book_of (meant b) ≡ b
    go true z = let o = eqb-true b.opened 0 z in rw (meant-closed b o) (closed-book b s e o)
    go false z = let o = eqb-false b.opened 0 z in rw (meant-open b o) (open-book b s (form-sound b e o))

-- LAW: and that book is in the paper's form
pub form-formed : (b : Book) → book_form b ≡ true → formed_o (meant b) ≡ true
form-formed b e = go (eqb b.opened 0) refl
  where
    go : (t : Bool) → eqb b.opened 0 ≡ t → formed_o (meant b) ≡ true
    go true z = rw (meant-closed b (eqb-true b.opened 0 z))
    go false z = let o = eqb-false b.opened 0 z in rw (meant-open b o) (form-sound b e o).formed

-- ---- book to words to book

places_back : (a : paper.Book) → Formed a → places_of (cells_of a.places) ≡ a.places
places_back a g = places_cells a.places g.thirty (places-short a.terms 0 a.places g.ranged g.close)

kept_back : (a : paper.Book) → Formed a → entries (length a.kept) (changes_of KEPT a.kept) ≡ a.kept
kept_back a g = entries_changes KEPT a.kept g.few (kept-short a.terms a.places a.kept g.ranged g.fit)

same_book : (a : paper.Book) (t : Terms) (l : Places) (k : List paper.Change) → t ≡ a.terms → l ≡ a.places → k ≡ a.kept → ◌≡◌ {A = paper.Book} (record { terms = t; places = l; kept = k }) a
same_book a t l k e f g = rw (e, f, g)

open_back : (a : paper.Book) → Formed a → open_of (book_of (some a)) ≡ a
unfolding open_of book_of
open_back a g = same_book a _ _ _ (terms-words a.terms (terms-short a.terms g.ranged)) (places_back a g) (kept_back a g)

-- LAW: the words of a book in form mean it
pub meant-image : (o : Option paper.Book) → formed_o o ≡ true → meant (book_of o) ≡ o
unfolding meant book_of
meant-image none e = refl
meant-image (some a) e = ap some (open_back a (parts a e))

-- LAW: and they are in form
pub form-image : (o : Option paper.Book) → formed_o o ≡ true → book_form (book_of o) ≡ true
unfolding book_form words_form book_of bare sound open_of
form-image none e = rw (zeros-replicate TERM_WORDS, zeros-replicate CELL_WORDS, zeros-replicate CHANGE_WORDS)
form-image (some a) e =
    let g = parts a e in
    let r : zeros (drop (length a.kept * 4) (changes_of KEPT a.kept)) ≡ true = zeros_rest KEPT a.kept g.few in
    let f : formed (open_of (book_of (some a))) ≡ true = rw (open_back a g) e in
    rw (le-leb (length a.kept) KEPT g.few, r, f)

pub sized-image : (o : Option paper.Book) → formed_o o ≡ true → Sized (book_of o)
unfolding book_of
sized-image none e = record { terms = length-replicate {A = ℕ} TERM_WORDS 0; cells = length-replicate {A = ℕ} CELL_WORDS 0; changes = length-replicate {A = ℕ} CHANGE_WORDS 0 }
sized-image (some a) e =
    record {
      terms = length-map (term_list a.terms) word ∙ length-terms a.terms;
      cells = length_cells a.places ∙ ap (λ (n : ℕ). 3 * n) (parts a e).thirty;
      changes = length_changes KEPT a.kept;
    }

-- ---- what words in form stand for

pub seen_in_lem : (b : Book) → book_form b ≡ true → seen b ≡ some (meant b)
unfolding seen
seen_in_lem b e = rw e

pub seen-out : (b : Book) → book_form b ≡ false → seen b ≡ none
unfolding seen
seen-out b e = rw e

pub seen-image : (o : Option paper.Book) → formed_o o ≡ true → seen (book_of o) ≡ some o
seen-image o e = seen_in_lem (book_of o) (form-image o e) ∙ ap some (meant-image o e)

pub seen_some : (b : Book) (o : Option paper.Book) → Sized b → seen b ≡ some o → (formed_o o ≡ true) × (book_of o ≡ b)
unfolding seen
seen_some b o s e = go (book_form b) refl e
  where
    go : (f : Bool) → book_form b ≡ f → cond f (some (meant b)) none ≡ some o → (formed_o o ≡ true) × (book_of o ≡ b)
    go true f h =
        let m : meant b ≡ o = cc in
        (subst (λ (p : Option paper.Book). formed_o p ≡ true) m (form-formed b f), subst (λ (p : Option paper.Book). book_of p ≡ b) m (form-book b s f))
    go false f h = let z : ◌≡◌ {A = ℕ} 0 1 = cc in absurd (omega arith)
