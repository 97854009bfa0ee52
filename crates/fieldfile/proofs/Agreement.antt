-- The reader of files takes the files of the form, each with its terms and readings, and no others; a text has one meaning; and it fits.
-- Assumes nothing.
use Prim.Native.Nat.{ℕ, suc, ◌+◌, ◌*◌, ◌≤◌, ◌<◌}
use mathlib.Core.Path.{◌≡◌, refl, sym, ◌∙◌, ap}
use mathlib.Core.Option.{Option, none, some}
use mathlib.Core.Bool.{Bool, true, false, cond}
use mathlib.Core.List.{List, [], ◌∷◌, ◌++◌}
use native.Mathlib.Omega.{arith}
use borrow.Author.Tests.{le-leb, lt-leb, leb-true}
use lib.Dec.{leb}
use lib.ListN.{length, get_or, length-append}
use lib.IntN.{pos}
use Rattle.rows.specs.Lists.{All}
use Rattle.rows.proofs.Elements.{all-each}
use Rattle.paper.specs.Procedure.{IN_SERIES}
use Rattle.paper.specs.Units.{Terms, term_list, Spot, Places}
use Rattle.image.specs.Lengths.{terms_of, term_words}
use Rattle.image.specs.Places.{places_of, cells_of}
use Rattle.image.proofs.Lengths.{terms-words}
use Rattle.image.proofs.Places.{Short as Small, places_cells}
use Rattle.decimals.specs.Ascii.{ascii}
use Rattle.decimals.specs.Numbers.{numeral, Short, line}
use Rattle.decimals.specs.Reader.{Parsed, got, bad}
use Rattle.decimals.proofs.Long.{long_most, long_line}
use Rattle.fieldfile.specs.Form.{LONGEST, of_series, entry, body, lines, text, ShortSpot, ShortSpots, Printable, OfForm}
use Rattle.fieldfile.specs.Reader.{tag, whole, taken, read_of}
use Rattle.fieldfile.proofs.Lists.{length-series, all-series, lines-most, short-split3}
use Rattle.fieldfile.proofs.Exact.{whole_back, whole-only, entry-tag, nested, text-nested}

-- ---- what the reader of files gives

module _ (bs : List ℕ) where
  pub read_long : LONGEST < length bs → read_of bs ≡ none
  unfolding read_of
  read_long h = rw (lt-leb (length bs) LONGEST h)

  module _ (h : length bs ≤ LONGEST) where
    pub read_bad : whole bs ≡ bad → read_of bs ≡ none
    unfolding read_of
    read_bad e = rw (le-leb (length bs) LONGEST h, e)

    pub read-got : {c : Terms × Places} {r : List ℕ} → whole bs ≡ got c r → read_of bs ≡ some c
    unfolding read_of
    read-got e = rw (le-leb (length bs) LONGEST h, e)

-- ---- both directions

module _ (bs : List ℕ) (t : Terms) (l : Places) where
  pub read_only : read_of bs ≡ some (t, l) → OfForm bs t l
  unfolding read_of
  read_only e = go (leb (length bs) LONGEST) refl (whole bs) refl e
    where
      never : ◌≡◌ {A = Option (Terms × Places)} none (some (t, l)) → OfForm bs t l
      never e = let z : ◌≡◌ {A = ℕ} 0 1 = cc in absurd (omega arith)

      go : (b : Bool) → leb (length bs) LONGEST ≡ b → (p : Parsed (Terms × Places)) → whole bs ≡ p → cond b (taken p) none ≡ some (t, l) → OfForm bs t l
      go true h bad p e = never e
      go true h (got c r) p e =
          let f : c ≡ (t, l) = cc in
          let i = whole-only bs t l r (p ∙ ap (λ c. got c r) f) in
          record { is_text = i.0; printable = i.1; fits = leb-true (length bs) LONGEST h }
      go false h q p e = never e

  pub read_back : OfForm bs t l → read_of bs ≡ some (t, l)
  read_back f = read-got bs f.fits (ap whole f.is_text ∙ whole_back t l f.printable)

  -- what is refused is the text of no contents
  pub read_none : read_of bs ≡ none → OfForm bs t l → ⊥
  read_none e f =
      let u : ◌≡◌ {A = Option (Terms × Places)} none (some (t, l)) = sym e ∙ read_back f in
      let z : ◌≡◌ {A = ℕ} 0 1 = cc in
      absurd (omega arith)

-- ---- a text is the text of one contents

pub text-one : (t t' : Terms) (l l' : Places) → Printable t l → Printable t' l' → text t l ≡ text t' l' → (t ≡ t') × (l ≡ l')
text-one t t' l l' v w e =
    let f : ◌≡◌ {A = Parsed (Terms × Places)} (got (t, l) []) (got (t', l') []) = sym (whole_back t l v) ∙ (ap whole e ∙ whole_back t' l' w) in
    let g : ◌≡◌ {A = Terms × Places} (t, l) (t', l') = cc in
    (ap (λ c. c.0) g, ap (λ c. c.1) g)

-- ---- how long it is

long_body : (k : ℕ) (l : Places) → k + length l ≤ IN_SERIES → ShortSpots l → length (body k l) ≤ 46 * length l
unfolding body entry All
long_body k [] h s = omega arith
long_body k (none ∷ l) h s = omega (arith, long_body (suc k) l (omega arith) s.1)
long_body k (some v ∷ l) h s =
    let a = long_body (suc k) l (omega arith) s.1 in
    let b = length-append (tag k) (line (v.x ∷ v.y ∷ v.h ∷ [])) in
    let c = long_line (v.x ∷ v.y ∷ v.h ∷ []) s.0 in
    rw (entry-tag k v (omega arith), length-append) (omega (arith, a, b, c))

long_count : (n : ℕ) → n ≤ IN_SERIES → length (line (pos n ∷ [])) ≤ 3
unfolding line numeral
long_count n h = rw length-append (omega (arith, long_most 1 n (omega arith)))

-- with the final LF
pub text-fits : (t : Terms) (l : Places) → Printable t l → length (text t l) ≤ 1600
unfolding ascii term_list
text-fits t l v =
    rw (text-nested t l) (go (of_series 1 l) (of_series 2 l) (of_series 3 l) (ten 1 (omega arith) (omega arith)) (ten 2 (omega arith) (omega arith)) (ten 3 (omega arith) (omega arith)) (all-series l v.thirty))
  where
    ten : (i : ℕ) → 1 ≤ i → i ≤ 3 → length (of_series i l) ≡ IN_SERIES
    ten = length-series l v.thirty

    go : (xs ys zs : Places) → length xs ≡ IN_SERIES → length ys ≡ IN_SERIES → length zs ≡ IN_SERIES → l ≡ xs ++ (ys ++ zs) → length (nested t xs ys zs) ≤ 1600
    go xs ys zs p q s e =
        let h = short-split3 xs ys zs (rw e at v.places) in
        simp length-append
        (omega (
          arith,
          long_count (lines xs) (omega (arith, lines-most xs)),
          long_count (lines ys) (omega (arith, lines-most ys)),
          long_count (lines zs) (omega (arith, lines-most zs)),
          long_line (term_list t) v.terms,
          long_body 0 xs (omega arith) h.0,
          long_body 0 ys (omega arith) h.1,
          long_body 0 zs (omega arith) h.2,
        ))

-- ---- the words of what was read mean it

module _ (t : Terms) (l : Places) (v : Printable t l) where
  pub terms_back : terms_of (term_words t) ≡ t
  terms_back = terms-words t (all-each Short (pos 0) (omega arith) (term_list t) v.terms)

  pub places_back : places_of (cells_of l) ≡ l
  unfolding All Small
  places_back = places_cells l v.thirty (λ p. one (get_or l p none) (all-each ShortSpot none tt l v.places p))
    where
      one : (w : Spot) → ShortSpot w → Small w
      one none h = tt
      one (some r) h = (h.0, h.1.0, h.1.1.0)
