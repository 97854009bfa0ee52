-- The numbers of a book in form are lengths, so its words mean it again; and each of its words is below 2^64.
-- Assumes nothing.
use Prim.Native.Nat.{ℕ, zero, suc, ◌*◌, ◌^◌, ◌≤◌, ◌<◌}
use native.Mathlib.Omega.{arith}
use mathlib.Core.Path.{◌≡◌, refl}
use mathlib.Core.Bool.{Bool, true, false, ◌&&◌}
use mathlib.Core.Option.{none, some}
use mathlib.Core.List.{List, [], ◌∷◌, map}
use lib.ListN.{get_or}
use lib.Dec.{leb, eqb}
use lib.IntN.{ℤ, pos, negsuc, nat_abs, ◌-ℤ◌}
use borrow.Author.Tests.{leb-true, lt-leb}
use Rattle.paper.specs.Procedure.{SPAN, SPREAD, EARTH, NEARBY}
use Rattle.rows.specs.Lists.{All}
use Rattle.rows.proofs.Elements.{Each, also, all-each, each-cons, each-replicate, each_map}
use Rattle.rows.proofs.Blocks.{each_laid}
use Rattle.rows.proofs.Sizes.{Small}
use Rattle.integers.specs.Diff.{abs-minus}
use Rattle.paper.specs.Units.{Triple, coordinates, Terms, term_list, from1_to, up_to, on_earth, within, in_range, approximate, near, point_of, near_at, all_near, Spot, Places}
use Rattle.paper.specs.Figures.{Axis, x-axis, y-axis, h-axis, along}
use Rattle.paper.specs.Books.{Change, make}
use Rattle.paper.proofs.Tests.{and_left, and_right, one-le, along-within}
use Rattle.paper.proofs.Form.{AllFit}
use Rattle.image.specs.Lengths.{ORIGIN, len, word, word_or, triple, terms_of, term_words, term_words_or}
use Rattle.image.specs.Places.{all_zero, spot_of, spot_words, cells_of}
use Rattle.image.specs.Changes.{change_words, unused, padded, changes_of}
use Rattle.image.proofs.Lengths.{len_word, word_small, len_bound, of_word, word_or-word, ShortTerms}
use Rattle.image.proofs.Places.{Short, AllShort}
use Rattle.image.proofs.Changes.{KeptShort, padded-short}

-- ---- chains of tests

split3 : (a b c : Bool) → a && b && c ≡ true → (a ≡ true) × (b ≡ true) × (c ≡ true)
split3 a b c e = let f = and_left (a && b) c e in (and_left a b f, and_right a b f, and_right (a && b) c e)

and_no : (a b : Bool) → b ≡ false → a && b ≡ false
and_no true b e = e
and_no false b e = refl

-- the rows of the table of ranges
pub record Ranged (t : Terms) : Type 0 where
  pub distance : from1_to SPAN t.distance ≡ true
  pub height : up_to SPAN t.height ≡ true
  pub screen_xy : from1_to SPREAD t.screen_xy ≡ true
  pub screen_h : from1_to SPREAD t.screen_h ≡ true
  pub sigma_xy : from1_to SPREAD t.sigma_xy ≡ true
  pub sigma_h : from1_to SPREAD t.sigma_h ≡ true
  pub point1 : on_earth t.point1 ≡ true
  pub point2 : on_earth t.point2 ≡ true
  pub apart : within SPAN t.point1 t.point2 ≡ true

pub ranged : (t : Terms) → in_range t ≡ true → Ranged t
unfolding in_range
ranged t e =
    let a = from1_to SPAN t.distance in
    let b = up_to SPAN t.height in
    let c = from1_to SPREAD t.screen_xy in
    let d = from1_to SPREAD t.screen_h in
    let f = from1_to SPREAD t.sigma_xy in
    let g = from1_to SPREAD t.sigma_h in
    let h = on_earth t.point1 in
    let i = on_earth t.point2 in
    let j = within SPAN t.point1 t.point2 in
    let e8 = and_left (a && b && c && d && f && g && h && i) j e in
    let e7 = and_left (a && b && c && d && f && g && h) i e8 in
    let e6 = and_left (a && b && c && d && f && g) h e7 in
    let e5 = and_left (a && b && c && d && f) g e6 in
    let e4 = and_left (a && b && c && d) f e5 in
    let e3 = and_left (a && b && c) d e4 in
    let e2 = split3 a b c e3 in
    record {
      distance = e2.0;
      height = e2.1;
      screen_xy = e2.2;
      screen_h = and_right (a && b && c) d e4;
      sigma_xy = and_right (a && b && c && d) f e5;
      sigma_h = and_right (a && b && c && d && f) g e6;
      point1 = and_right (a && b && c && d && f && g) h e7;
      point2 = and_right (a && b && c && d && f && g && h) i e8;
      apart = and_right (a && b && c && d && f && g && h && i) j e;
    }

-- ---- terms

up_le : (n : ℕ) (z : ℤ) → up_to n z ≡ true → nat_abs z ≤ n
up_le n z e = leb-true (nat_abs z) n e

record OnEarth (p : Triple) : Type 0 where
  x : nat_abs p.x ≤ EARTH
  y : nat_abs p.y ≤ EARTH
  h : nat_abs p.h ≤ EARTH

on-earth : (p : Triple) → on_earth p ≡ true → OnEarth p
unfolding on_earth
on-earth p e =
    let f = split3 (up_to EARTH p.x) (up_to EARTH p.y) (up_to EARTH p.h) e in
    record { x = up_le EARTH p.x f.0; y = up_le EARTH p.y f.1; h = up_le EARTH p.h f.2 }

pub along-earth : (a : Axis) (p : Triple) → on_earth p ≡ true → nat_abs (along a p) ≤ EARTH
along-earth x-axis p e = (on-earth p e).x
along-earth y-axis p e = (on-earth p e).y
along-earth h-axis p e = (on-earth p e).h

-- each term of terms in range is a length
pub terms-short : (t : Terms) → in_range t ≡ true → ShortTerms t
unfolding term_list All
terms-short t e =
    let r = ranged t e in
    let p = on-earth t.point1 r.point1 in
    let q = on-earth t.point2 r.point2 in
    all-each (λ z. nat_abs z < ORIGIN) (pos 0) (omega arith) (term_list t)
    (also (omega (arith, one-le SPAN t.distance r.distance))
    (also (omega (arith, up_le SPAN t.height r.height))
    (also (omega (arith, one-le SPREAD t.screen_xy r.screen_xy))
    (also (omega (arith, one-le SPREAD t.screen_h r.screen_h))
    (also (omega (arith, one-le SPREAD t.sigma_xy r.sigma_xy))
    (also (omega (arith, one-le SPREAD t.sigma_h r.sigma_h))
    (also (omega (arith, p.x))
    (also (omega (arith, p.y))
    (also (omega (arith, p.h))
    (also (omega (arith, q.x))
    (also (omega (arith, q.y))
    (also (omega (arith, q.h))
    tt))))))))))))

-- ---- readings

earth_point : (t : Terms) (k : ℕ) → in_range t ≡ true → OnEarth (approximate t k)
earth_point t k e = go (eqb k 1)
  where
    go : (b : Bool) → OnEarth (mathlib.Core.Bool.cond b t.point1 t.point2)
    go true = on-earth t.point1 (ranged t e).point1
    go false = on-earth t.point2 (ranged t e).point2

near_bound : (x X : ℤ) → nat_abs (x -ℤ X) ≤ NEARBY → nat_abs X ≤ EARTH → nat_abs x < ORIGIN
near_bound x X e h = omega (arith, abs-minus x X)

within-short : (p v : Triple) → OnEarth p → within NEARBY p v ≡ true → Short (some v)
unfolding Short
within-short p v o e = (
  near_bound v.x p.x (along-within NEARBY x-axis p v e) o.x,
  near_bound v.y p.y (along-within NEARBY y-axis p v e) o.y,
  near_bound v.h p.h (along-within NEARBY h-axis p v e) o.h,
)

pub near-short : (t : Terms) (k : ℕ) (v : Triple) → in_range t ≡ true → near t k v ≡ true → Short (some v)
near-short t k v r e = within-short (approximate t k) v (earth_point t k r) e

pub spot-short : (t : Terms) (n : ℕ) (v : Spot) → in_range t ≡ true → near_at t n v ≡ true → Short v
unfolding Short
spot-short t n none r e = tt
spot-short t n (some v) r e = near-short t (point_of n) v r e

pub places-short : (t : Terms) (n : ℕ) (l : Places) → in_range t ≡ true → all_near t n l ≡ true → AllShort l
unfolding all_near Short
places-short t n [] r e p = tt
places-short t n (v ∷ l) r e zero = spot-short t n v r (and_left (near_at t n v) (all_near t (suc n) l) e)
places-short t n (v ∷ l) r e (suc p) = places-short t (suc n) l r (and_right (near_at t n v) (all_near t (suc n) l) e) p

pub kept-short : (t : Terms) (l : Places) (cs : List Change) → in_range t ≡ true → AllFit t l cs → KeptShort cs
unfolding Short
kept-short t l [] r f i = (omega arith, tt)
kept-short t l (c ∷ cs) r f zero = (f.0.reaches, spot-short t c.place c.put r f.0.close)
kept-short t l (c ∷ cs) r f (suc i) = kept-short t (make c l) cs r f.1 i

-- ---- a number of any size is near its point exactly where its word is

far-off : (X z : ℤ) → nat_abs X ≤ EARTH → ORIGIN ≤ nat_abs z → up_to NEARBY (z -ℤ X) ≡ false
far-off X z h k = lt-leb (nat_abs (z -ℤ X)) NEARBY (omega (arith, abs-minus z X))

pub near-words : (t : Terms) (k : ℕ) (x y h : ℤ) → in_range t ≡ true → near t k (triple (word_or x) (word_or y) (word_or h)) ≡ near t k (record { x = x; y = y; h = h })
unfolding within
near-words t k x y h r =
    let o = earth_point t k r in
    let p = approximate t k in
    rw (
      of_word (λ z. up_to NEARBY (z -ℤ p.x)) false (λ z. far-off p.x z o.x) x,
      of_word (λ z. up_to NEARBY (z -ℤ p.y)) false (λ z. far-off p.y z o.y) y,
      of_word (λ z. up_to NEARBY (z -ℤ p.h)) false (λ z. far-off p.h z o.h) h,
    )

pub words_of_lem : (x y h : ℤ) → Short (some (record { x = x; y = y; h = h })) → word_or x ∷ word_or y ∷ word_or h ∷ [] ≡ spot_words (some (record { x = x; y = y; h = h }))
unfolding Short spot_words
words_of_lem x y h f = rw (word_or-word x f.0, word_or-word y f.1, word_or-word h f.2)

-- ---- terms of any size are in range exactly where their words are, and then the words mean them

one-far : (n : ℕ) (z : ℤ) → n < ORIGIN → ORIGIN ≤ nat_abs z → from1_to n z ≡ false
one-far n (pos k) h g = and_no (leb 1 k) (leb k n) (lt-leb k n (omega arith))
one-far n (negsuc k) h g = refl

up_far : (n : ℕ) (z : ℤ) → n < ORIGIN → ORIGIN ≤ nat_abs z → up_to n z ≡ false
up_far n z h g = lt-leb (nat_abs z) n (omega arith)

one-given : (n : ℕ) → n < ORIGIN → (z : ℤ) → from1_to n (len (word_or z)) ≡ from1_to n z
one-given n h z = of_word (from1_to n) false (λ y. one-far n y h) z

up_given : (n : ℕ) → n < ORIGIN → (z : ℤ) → up_to n (len (word_or z)) ≡ up_to n z
up_given n h z = of_word (up_to n) false (λ y. up_far n y h) z

earth-given : (p : Triple) → on_earth (triple (word_or p.x) (word_or p.y) (word_or p.h)) ≡ on_earth p
unfolding on_earth
earth-given p = let h : EARTH < ORIGIN = omega arith in rw (up_given EARTH h p.x, up_given EARTH h p.y, up_given EARTH h p.h)

point_given : (p : Triple) → OnEarth p → triple (word_or p.x) (word_or p.y) (word_or p.h) ≡ p
point_given p o = rw (len-given p.x o.x, len-given p.y o.y, len-given p.h o.h)
  where
    len-given : (z : ℤ) → nat_abs z ≤ EARTH → len (word_or z) ≡ z
    len-given z h = rw (word_or-word z (omega arith)) (len_word z (omega arith))

pub range_given : (t : Terms) → in_range (terms_of (term_words_or t)) ≡ in_range t
unfolding in_range terms_of term_list
range_given t =
    rw (
      one-given SPAN (omega arith) t.distance,
      up_given SPAN (omega arith) t.height,
      one-given SPREAD (omega arith) t.screen_xy,
      one-given SPREAD (omega arith) t.screen_h,
      one-given SPREAD (omega arith) t.sigma_xy,
      one-given SPREAD (omega arith) t.sigma_h,
      earth-given t.point1,
      earth-given t.point2,
    )
    (and_then six (on_earth t.point1) (on_earth t.point2) _ _
    (λ e f. rw (point_given t.point1 (on-earth t.point1 e), point_given t.point2 (on-earth t.point2 f))))
  where
    six : Bool
    six = from1_to SPAN t.distance && up_to SPAN t.height && from1_to SPREAD t.screen_xy && from1_to SPREAD t.screen_h && from1_to SPREAD t.sigma_xy && from1_to SPREAD t.sigma_h

    and_then : (a b c w w' : Bool) → (b ≡ true → c ≡ true → w ≡ w') → a && b && c && w ≡ a && b && c && w'
    and_then true true true w w' f = f refl refl
    and_then true true false w w' f = refl
    and_then true false c w w' f = refl
    and_then false b c w w' f = refl

-- ---- every word of a book in form is below 2^64

small-words : (zs : List ℤ) → Each (λ z. nat_abs z < ORIGIN) (pos 0) zs → Small (map word zs)
small-words zs f = each_map (λ w. w < 2 ^ 64) 0 (λ z. nat_abs z < ORIGIN) (pos 0) word (omega arith) (λ z h. word_small z (omega arith)) zs f

pub small-terms : (t : Terms) → in_range t ≡ true → Small (term_words t)
small-terms t e = small-words (term_list t) (terms-short t e)

small-spot : (v : Spot) → Short v → Small (spot_words v)
unfolding Short spot_words All
small-spot none f = each-replicate (λ w. w < 2 ^ 64) 0 (omega arith) 3
small-spot (some r) f =
    small-words (coordinates r) (all-each (λ z. nat_abs z < ORIGIN) (pos 0) (omega arith) (coordinates r) (f.0, (f.1, (f.2, tt))))

pub small_cells : (l : Places) → AllShort l → Small (cells_of l)
small_cells l f = each_laid spot_words (λ w. w < 2 ^ 64) none (omega arith) l (λ p. small-spot (get_or l p none) (f p))

pub small_changes : (n : ℕ) (cs : List Change) → KeptShort cs → Small (changes_of n cs)
unfolding change_words
small_changes n cs f = each_laid change_words (λ w. w < 2 ^ 64) unused (omega arith) (padded n cs) row
  where
    row : (i : ℕ) → Small (change_words (get_or (padded n cs) i unused))
    row i =
        let c = get_or (padded n cs) i unused in
        let g = padded-short n cs f i in
        each-cons (λ w. w < 2 ^ 64) 0 c.place (spot_words c.put) (omega (arith, g.0)) (small-spot c.put g.1)

-- the words of a place that holds a reading near its point
pub full_bound : (x y h : ℕ) → all_zero x y h ≡ false → Short (spot_of x y h) → (x < 2 * ORIGIN) × (y < 2 * ORIGIN) × (h < 2 * ORIGIN)
unfolding spot_of Short
full_bound x y h e f =
    let g : Short (some (triple x y h)) = rw e at f in
    (len_bound x g.0, len_bound y g.1, len_bound h g.2)
