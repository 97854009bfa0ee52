-- The ways out of reading a file.
-- Assumes nothing.
use Prim.Native.Nat.{ℕ}
use mathlib.Core.Path.{◌≡◌, refl, sym, ap, ◌∙◌}
use mathlib.Core.Bool.{Bool, true, false}
use mathlib.Core.Option.{Option, none, some}
use mathlib.Core.List.{List}
use lib.ListN.{length}
use borrow.Author.Tests.{eq-eqb}
use Rattle.std.proofs.Common.{Some, None, rules}
use Rattle.paper.specs.Procedure.{PLACES, KEPT}
use Rattle.paper.specs.Units.{Terms, Places, in_range, all_near}
use Rattle.paper.specs.Refusals.{TERMS, FAR, FORM}
use Rattle.paper.specs.TurnedAway.{lowest}
use Rattle.paper.specs.Form.{formed, formed_o, takeable}
use Rattle.paper.specs.Alone as alone
use Rattle.image.specs.Lengths.{terms_of, term_words}
use Rattle.image.specs.Places.{places_of, cells_of}
use Rattle.image.proofs.Changes.{none_kept}
use Rattle.fieldfile.specs.Form.{Printable}
use Rattle.fieldfile.specs.Reader.{read_of}
use Rattle.contents.specs.Given.{contents_of}
use Rattle.contents.specs.declared.Contents.{Contents}
use Rattle.fieldfile.proofs.Agreement.{read_only, terms_back, places_back}
use Rattle.book.specs.Meaning.{book_of}
use Rattle.making.specs.Filled.{filled_of}
use Rattle.filebook.specs.FileBook.{book_read}

-- ---- what a file of the form holds is what its words mean

module _ (t : Terms) (l : Places) (p : Printable t l) where
  abbrev terms : List ℕ
  terms = term_words t

  abbrev cells : List ℕ
  cells = cells_of l

  range_read : (r : Bool) → in_range (terms_of terms) ≡ r → in_range t ≡ r
  range_read r e = sym (ap in_range (terms_back t l p)) ∙ e

  near-read : (r : Bool) → all_near (terms_of terms) 0 (places_of cells) ≡ r → all_near t 0 l ≡ r
  near-read r e = sym (rw (terms_back t l p, places_back t l p)) ∙ e

  -- ---- TERMS, FAR, or the book

  pub read_range : in_range t ≡ false → alone.refused_file (some (t, l)) ≡ TERMS
  unfolding alone.refused_file lowest
  read_range e = rw e

  pub read-far : in_range t ≡ true → all_near t 0 l ≡ false → alone.refused_file (some (t, l)) ≡ FAR
  unfolding alone.refused_file lowest
  read-far e f = rw (e, f)

  read-good : in_range t ≡ true → all_near t 0 l ≡ true → alone.refused_file (some (t, l)) ≡ 0
  unfolding alone.refused_file lowest
  read-good e f = rw (e, f)

  filled-words : in_range t ≡ true → all_near t 0 l ≡ true → filled_of terms cells ≡ book_of (alone.book_of (some (t, l)))
  unfolding filled_of book_of alone.book_of
  filled-words e f = rw (read-good e f, none_kept KEPT)

  pub filled-formed : in_range t ≡ true → all_near t 0 l ≡ true → formed_o (alone.book_of (some (t, l))) ≡ true
  unfolding alone.book_of formed takeable
  filled-formed e f = rw (read-good e f, e, f, eq-eqb (length l) PLACES p.thirty)

-- ---- what the code reads

pub record Read (bs : List ℕ) (c : Contents) : Type 0 where
  pub t : Terms
  pub l : Places
  pub reads : read_of bs ≡ some (t, l)
  pub printable : Printable t l
  pub terms : c.terms ≡ term_words t
  pub cells : c.cells ≡ cells_of l

pub unread : (bs : List ℕ) → None ≡ contents_of (read_of bs) → read_of bs ≡ none
unfolding contents_of
unread bs e = go (read_of bs) e
  where
    go : (o : Option (Terms × Places)) → None ≡ contents_of o → o ≡ none
    go none u = refl
    go (some d) u = search rules

pub was_read : (bs : List ℕ) (c : Contents) → Some c ≡ contents_of (read_of bs) → Read bs c
unfolding contents_of
was_read bs c e = go (read_of bs) refl e
  where
    go : (o : Option (Terms × Places)) → read_of bs ≡ o → Some c ≡ contents_of o → Read bs c
    go none u v = search rules
    go (some d) u v =
        let w : c ≡ record { terms = term_words d.0; cells = cells_of d.1 } = cc in
        record {
          t = d.0;
          l = d.1;
          reads = u;
          printable = (read_only bs d.0 d.1 u).printable;
          terms = ap (λ (x : Contents). x.terms) w;
          cells = ap (λ (x : Contents). x.cells) w;
        }

module _ (bs : List ℕ) where
  pub way-form : read_of bs ≡ none → record { refusal = FORM; book = book_of none } ≡ book_read (read_of bs)
  unfolding book_read alone.refused_file alone.book_of
  way-form e = rw e

  module _ (c : Contents) (d : Read bs c) where
    range_of : (r : Bool) → in_range (terms_of c.terms) ≡ r → in_range d.t ≡ r
    range_of r e = range_read d.t d.l d.printable r (sym (ap (λ (w : List ℕ). in_range (terms_of w)) d.terms) ∙ e)

    near_of : (r : Bool) → all_near (terms_of c.terms) 0 (places_of c.cells) ≡ r → all_near d.t 0 d.l ≡ r
    near_of r e = near-read d.t d.l d.printable r (sym (rw (d.terms, d.cells)) ∙ e)

    pub way-terms : in_range (terms_of c.terms) ≡ false → record { refusal = TERMS; book = book_of none } ≡ book_read (read_of bs)
    unfolding book_read alone.book_of
    way-terms e = rw (d.reads, read_range d.t d.l d.printable (range_of false e))

    module _ (e : in_range (terms_of c.terms) ≡ true) where
      pub way-far : all_near (terms_of c.terms) 0 (places_of c.cells) ≡ false → record { refusal = FAR; book = book_of none } ≡ book_read (read_of bs)
      unfolding book_read alone.book_of
      way-far f = rw (d.reads, read-far d.t d.l d.printable (range_of true e) (near_of false f))

      pub way-book : all_near (terms_of c.terms) 0 (places_of c.cells) ≡ true → record { refusal = 0; book = filled_of c.terms c.cells } ≡ book_read (read_of bs)
      unfolding book_read
      way-book f =
          let r = range_of true e in
          let n = near_of true f in
          rw (d.reads, read-good d.t d.l d.printable r n, ← filled-words d.t d.l d.printable r n, d.terms, d.cells)
