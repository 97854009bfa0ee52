-- The reader of files takes exactly what is written: what is written is read back (`-back`), and only that is read (`-only`).
-- Assumes nothing.
use Prim.Native.Nat.{ℕ, zero, suc, ◌+◌, ◌/◌, ◌%◌, ◌<◌, ◌≤◌}
use mathlib.Core.Path.{◌≡◌, refl, sym, ◌∙◌, ap}
use mathlib.Core.Option.{none, some}
use mathlib.Core.List.{List, [], ◌∷◌, ◌++◌, append_assoc, append-nil}
use mathlib.Core.Bool.{Bool, true, false, cond}
use native.Mathlib.Omega.{arith}
use native.Mathlib.Nat.{zero-add}
use borrow.Author.Tests.{le-leb, ne_eqb, eqb-true}
use lib.Dec.{leb, eqb}
use lib.ListN.{length, length-append}
use lib.IntN.{ℤ, pos, negsuc}
use Rattle.rows.specs.Lists.{All}
use Rattle.paper.specs.Procedure.{IN_SERIES}
use Rattle.paper.specs.Units.{Triple, Terms, terms_from, term_list, Spot, Places}
use Rattle.paper.proofs.Tests.{terms_order}
use Rattle.decimals.specs.Numbers.{numeral, AllShort, sep_of, line}
use Rattle.decimals.specs.Reader.{Parsed, got, bad, fixed, field, ahead, numbers}
use Rattle.decimals.proofs.Steps.{then-got}
use Rattle.decimals.proofs.Exact.{no, then-only, ahead-only, fixed-only, fixed_back, field-only, field_back, numbers-only, numbers_back, digits-one}
use Rattle.fieldfile.specs.Form.{CONTENTS, TERMS, SERIES1, SERIES2, SERIES3, of_series, entry, body, filled, lines, text, ShortSpot, ShortSpots, Printable}
use Rattle.fieldfile.specs.Reader.{tag, triple_from, placed, spot, spots, series, bodies, line_count, count, table, ends, whole}
use Rattle.fieldfile.proofs.Lists.{triple_from_lem, terms_from_lem, length-series, all-series, first-series, second_series, third_series, short-split3, short_join3, lines-most}

-- ---- a place

pub entry-tag : (k : ℕ) (v : Triple) → k < IN_SERIES → entry k (some v) ≡ tag k ++ line (v.x ∷ v.y ∷ v.h ∷ [])
unfolding entry line numeral sep_of
entry-tag k v h =
    let a : 48 + (k / 2 + 1) ≡ 49 + k / 2 = omega arith in
    let b : 48 + (k % 2 + 1) ≡ 49 + k % 2 = omega arith in
    rw (digits-one (k / 2 + 1) (omega arith), digits-one (k % 2 + 1) (omega arith), a, b)

differ : (j k : ℕ) (r : List ℕ) → j < k → fixed (tag j) (tag k ++ r) ≡ bad
unfolding fixed
differ j k r p = go (eqb (49 + k / 2) (49 + j / 2)) refl
  where
    go : (x : Bool) → eqb (49 + k / 2) (49 + j / 2) ≡ x → fixed (tag j) (tag k ++ r) ≡ bad
    go false e = rw e
    go true e = let f = eqb-true (49 + k / 2) (49 + j / 2) e in rw (e, ne_eqb (49 + k % 2) (49 + j % 2) (λ g. omega arith))

-- no later line starts with the tag of an earlier place
later : (j k : ℕ) (zs : Places) (r : List ℕ) → j < k → k + length zs ≤ IN_SERIES → 0 < lines zs → fixed (tag j) (body k zs ++ r) ≡ bad
unfolding lines body entry
later j k [] r p h q = absurd (omega arith)
later j k (none ∷ zs) r p h q = later j (suc k) zs r (omega arith) (omega arith) (omega arith)
later j k (some v ∷ zs) r p h q = rw (entry-tag k v (omega arith)) (simp append_assoc (differ j k _ p))

spot_absent : (k m : ℕ) (l : List ℕ) → (0 < m → fixed (tag k) l ≡ bad) → spot k m l ≡ got (none, m) l
unfolding spot placed
spot_absent k zero l h = refl
spot_absent k (suc m) l h = rw (h (omega arith))

spot_present : (k m : ℕ) (v : Triple) (l : List ℕ) → AllShort (v.x ∷ v.y ∷ v.h ∷ [])
    → spot k (1 + m) (tag k ++ (line (v.x ∷ v.y ∷ v.h ∷ []) ++ l)) ≡ got (some v, m) l
unfolding spot placed
spot_present k m v l h =
    let f : 1 + m ≡ suc m = omega arith in
    rw (f, fixed_back (tag k) (line (v.x ∷ v.y ∷ v.h ∷ []) ++ l)) (then-got _ (numbers_back (v.x ∷ v.y ∷ v.h ∷ []) l h))

spots_back : (k : ℕ) (zs : Places) (r : List ℕ) → k + length zs ≤ IN_SERIES → ShortSpots zs → spots (length zs) k (lines zs) (body k zs ++ r) ≡ got zs r
unfolding spots lines body entry All ahead
spots_back k [] r h s = refl
spots_back k (none ∷ zs) r h s =
    let i = spots_back (suc k) zs r (omega arith) s.1 in
    rw zero-add (then-got _ (spot_absent k (lines zs) (body (suc k) zs ++ r) (λ q. later k (suc k) zs r (omega arith) (omega arith) q)) ∙ then-got _ i)
spots_back k (some v ∷ zs) r h s =
    let i = spots_back (suc k) zs r (omega arith) s.1 in
    rw (entry-tag k v (omega arith), append_assoc, append_assoc) (then-got _ (spot_present k (lines zs) v (body (suc k) zs ++ r) s.0) ∙ then-got _ i)

-- what was read of a place: its line stood there, and was counted
abbrev Was : (k left : ℕ) (l : List ℕ) (v : Spot) (m : ℕ) (r : List ℕ) → Type 0
Was k left l v m r = (l ≡ entry k v ++ r) × ShortSpot v × (left ≡ filled v + m)

spot-only : (k left : ℕ) (l : List ℕ) (v : Spot) (m : ℕ) (r : List ℕ) → k < IN_SERIES → spot k left l ≡ got (v, m) r → Was k left l v m r
unfolding spot placed entry
spot-only k left l v m r h = start left
  where
    same : (w : Spot) (n : ℕ) (t : List ℕ) → ◌≡◌ {A = Parsed (Spot × ℕ)} (got (w, n) t) (got (v, m) r) → (w ≡ v) × (n ≡ m) × (t ≡ r)
    same w n t e =
        let f : ◌≡◌ {A = Spot × ℕ} (w, n) (v, m) = cc in
        (ap (λ p. p.0) f, ap (λ p. p.1) f, cc)

    absent : (left : ℕ) → ◌≡◌ {A = Parsed (Spot × ℕ)} (got (none, left) l) (got (v, m) r) → Was k left l v m r
    absent left e = let s = same none left l e in rw (← s.0) (s.2, tt, s.1 ∙ sym (zero-add m))

    present : (left : ℕ) (zs : List ℤ) (t u : List ℕ) → l ≡ tag k ++ t → t ≡ line zs ++ u → length zs ≡ 3 → AllShort zs
        → ◌≡◌ {A = Parsed (Spot × ℕ)} (got (some (triple_from zs), left) u) (got (v, m) r) → Was k (suc left) l v m r
    present left zs t u el et n s e =
        let f = same (some (triple_from zs)) left u e in
        let g = triple_from_lem zs n in
        rw (← f.0, ← f.1, ← f.2)
        (rw (entry-tag k (triple_from zs) h, g) (el ∙ rw et (sym (append_assoc (tag k) (line zs) u))), rw g s, omega arith)

    start : (left : ℕ) → spot k left l ≡ got (v, m) r → Was k left l v m r
    start zero e = absent 0 e
    start (suc left) e = go (fixed (tag k) l) refl e
      where
        go : (p : Parsed (Unit {0})) → fixed (tag k) l ≡ p → placed left l p ≡ got (v, m) r → Was k (suc left) l v m r
        go bad p e = absent (suc left) e
        go (got u t) p e =
            let i = then-only (numbers 3 t) _ e in
            let n = numbers-only 3 t i.2 in
            present left i.0 t i.1 (fixed-only (tag k) l p) n.0 n.1 n.2 i.3

pub spots-only : (n k m : ℕ) (l : List ℕ) {zs : Places} {r : List ℕ} → k + n ≤ IN_SERIES → spots n k m l ≡ got zs r
    → (l ≡ body k zs ++ r) × (length zs ≡ n) × ShortSpots zs × (m ≡ lines zs)
unfolding spots lines body All
spots-only zero k zero l {zs} {r} h e = let f : [] ≡ zs = cc in let g : l ≡ r = cc in rw (← f) (g, refl, tt, refl)
spots-only zero k (suc m) l h e = no e
spots-only (suc n) k m l {zs} {r} h e =
    let i = then-only (spot k m l) _ e in
    let j = ahead-only (i.0.0 ∷ []) (spots n (suc k) i.0.1 i.1) i.3 in
    let q = spots-only n (suc k) i.0.1 i.1 (omega arith) j.1 in
    join i.0.0 j.0 i.0.1 i.1 j.2 (spot-only k m l i.0.0 i.0.1 i.1 (omega arith) i.2) q
  where
    join : (v : Spot) (ws : Places) (left : ℕ) (t : List ℕ) → zs ≡ v ∷ ws → Was k m l v left t → (t ≡ body (suc k) ws ++ r) × (length ws ≡ n) × ShortSpots ws × (left ≡ lines ws)
        → (l ≡ body k zs ++ r) × (length zs ≡ suc n) × ShortSpots zs × (m ≡ lines zs)
    join v ws left t ez w q = rw ez (w.0 ∙ rw q.0 (sym (append_assoc (entry k v) (body (suc k) ws) r)), ap suc q.1, (w.1, q.2), w.2 ∙ rw q.3)

-- ---- the table of contents

count_back : (name : List ℕ) (n : ℕ) (r : List ℕ) → n ≤ IN_SERIES → count name (name ++ (line (pos n ∷ []) ++ r)) ≡ got n r
unfolding count line sep_of line_count
count_back name n r h =
    then-got _ (fixed_back name (line (pos n ∷ []) ++ r)) ∙ (rw append_assoc (then-got _ (field_back 10 (pos n) r (omega arith) (omega arith)) ∙ rw (le-leb n IN_SERIES h)))

count-only : (name l : List ℕ) {n : ℕ} {r : List ℕ} → count name l ≡ got n r → l ≡ name ++ (line (pos n ∷ []) ++ r)
unfolding count line sep_of line_count
count-only name l {n} {r} e =
    let i = then-only (fixed name l) _ e in
    let j = then-only (field 10 i.1) _ i.3 in
    fixed-only name l i.2 ∙ ap (λ (t : List ℕ). name ++ t) (go j.0 j.1 (field-only 10 i.1 j.2).0 j.3)
  where
    is : (k : ℕ) (l t : List ℕ) → l ≡ numeral (pos k) ++ 10 ∷ t → (b : Bool) → cond b (got k t) bad ≡ got n r → l ≡ numeral (pos n) ++ 10 ∷ [] ++ r
    is k l t f true e = let g : k ≡ n = cc in let h : t ≡ r = cc in rw (append_assoc, ← g, ← h) f
    is k l t f false e = no e

    go : {l : List ℕ} (z : ℤ) (t : List ℕ) → l ≡ numeral z ++ 10 ∷ t → line_count z t ≡ got n r → l ≡ numeral (pos n) ++ 10 ∷ [] ++ r
    go {l} (pos k) t f e = is k l t f (leb k IN_SERIES) e
    go (negsuc k) t f e = no e

-- the table with its three counts, and what follows it
abbrev headed : (a b c : ℕ) → List ℕ → List ℕ
headed a b c r =
    CONTENTS ++ (TERMS ++ (SERIES1 ++ (line (pos a ∷ []) ++ (SERIES2 ++ (line (pos b ∷ []) ++ (SERIES3 ++ (line (pos c ∷ []) ++ r)))))))

table_back : (a b c : ℕ) (r : List ℕ) → a ≤ IN_SERIES → b ≤ IN_SERIES → c ≤ IN_SERIES → table (headed a b c r) ≡ got (a, b, c) r
unfolding table
table_back a b c r p q s =
    then-got _ (fixed_back CONTENTS _) ∙ (then-got _ (fixed_back TERMS _)
    ∙ (then-got _ (count_back SERIES1 a _ p) ∙ (then-got _ (count_back SERIES2 b _ q) ∙ then-got _ (count_back SERIES3 c r s))))

table-only : (l : List ℕ) (n : ℕ × ℕ × ℕ) (r : List ℕ) → table l ≡ got n r → l ≡ headed n.0 n.1 n.2 r
unfolding table
table-only l n r e =
    let i = then-only (fixed CONTENTS l) _ e in
    let j = then-only (fixed TERMS i.1) _ i.3 in
    let a = then-only (count SERIES1 j.1) _ j.3 in
    let b = then-only (count SERIES2 a.1) _ a.3 in
    let c = then-only (count SERIES3 b.1) _ b.3 in
    join a.0 b.0 c.0 i.1 j.1 a.1 b.1 c.1 (fixed-only CONTENTS l i.2) (fixed-only TERMS i.1 j.2)
    (count-only SERIES1 j.1 a.2) (count-only SERIES2 a.1 b.2) (count-only SERIES3 b.1 c.2) c.3
  where
    join : (a b c : ℕ) (t u v w x : List ℕ) → l ≡ CONTENTS ++ t → t ≡ TERMS ++ u → u ≡ SERIES1 ++ (line (pos a ∷ []) ++ v)
        → v ≡ SERIES2 ++ (line (pos b ∷ []) ++ w) → w ≡ SERIES3 ++ (line (pos c ∷ []) ++ x) → ◌≡◌ {A = Parsed (ℕ × ℕ × ℕ)} (got (a, b, c) x) (got n r)
        → l ≡ headed n.0 n.1 n.2 r
    join a b c t u v w x el et eu ev ew e =
        let f : ◌≡◌ {A = ℕ × ℕ × ℕ} (a, b, c) n = cc in
        let g : x ≡ r = cc in
        rw (← f, ← g, el, et, eu, ev, ew)

-- ---- the bodies

bodies_back : (xs ys zs : Places) (r : List ℕ) → length xs ≡ IN_SERIES → length ys ≡ IN_SERIES → length zs ≡ IN_SERIES → ShortSpots xs → ShortSpots ys → ShortSpots zs
    → bodies (lines xs) (lines ys) (lines zs) (body 0 xs ++ (body 0 ys ++ (body 0 zs ++ r))) ≡ got (xs ++ (ys ++ zs)) r
unfolding bodies
bodies_back xs ys zs r p q s u v w = then-got _ (one xs _ p u) ∙ (then-got _ (one ys _ q v) ∙ then-got _ (one zs r s w))
  where
    one : (xs : Places) (r : List ℕ) → length xs ≡ IN_SERIES → ShortSpots xs → series (lines xs) (body 0 xs ++ r) ≡ got xs r
    one xs r n s = ap (λ (m : ℕ). spots m 0 (lines xs) (body 0 xs ++ r)) (sym n) ∙ spots_back 0 xs r (omega arith) s

-- what was read of three bodies
record Bodies (a b c : ℕ) (l : List ℕ) (ps : Places) (r : List ℕ) : Type 0 where
  xs : Places
  ys : Places
  zs : Places
  all : ps ≡ xs ++ (ys ++ zs)
  is : l ≡ body 0 xs ++ (body 0 ys ++ (body 0 zs ++ r))
  ten1 : length xs ≡ IN_SERIES
  ten2 : length ys ≡ IN_SERIES
  ten3 : length zs ≡ IN_SERIES
  short1 : ShortSpots xs
  short2 : ShortSpots ys
  short3 : ShortSpots zs
  lines1 : a ≡ lines xs
  lines2 : b ≡ lines ys
  lines3 : c ≡ lines zs

bodies-only : (a b c : ℕ) (l : List ℕ) (ps : Places) (r : List ℕ) → bodies a b c l ≡ got ps r → Bodies a b c l ps r
unfolding bodies
bodies-only a b c l ps r e =
    let i = then-only (series a l) _ e in
    let j = then-only (series b i.1) _ i.3 in
    let k = then-only (series c j.1) _ j.3 in
    let x = spots-only IN_SERIES 0 a l (omega arith) i.2 in
    let y = spots-only IN_SERIES 0 b i.1 (omega arith) j.2 in
    let z = spots-only IN_SERIES 0 c j.1 (omega arith) k.2 in
    record {
      xs = i.0;
      ys = j.0;
      zs = k.0;
      all = cc;
      is = x.0 ∙ ap (λ (t : List ℕ). body 0 i.0 ++ t) (y.0 ∙ ap (λ (t : List ℕ). body 0 j.0 ++ t) (z.0 ∙ ap (λ (t : List ℕ). body 0 k.0 ++ t) (cc)));
      ten1 = x.1;
      ten2 = y.1;
      ten3 = z.1;
      short1 = x.2;
      short2 = y.2;
      short3 = z.2;
      lines1 = x.3;
      lines2 = y.3;
      lines3 = z.3;
    }

-- ---- the file

-- the text, with its parts nested to the right
abbrev pub nested : Terms → (xs ys zs : Places) → List ℕ
nested t xs ys zs = headed (lines xs) (lines ys) (lines zs) (line (term_list t) ++ (body 0 xs ++ (body 0 ys ++ (body 0 zs ++ []))))

pub text-nested : (t : Terms) (l : Places) → text t l ≡ nested t (of_series 1 l) (of_series 2 l) (of_series 3 l)
unfolding text
text-nested t l = simp (append_assoc, append-nil)

pub whole_back : (t : Terms) (l : Places) → Printable t l → whole (text t l) ≡ got (t, l) []
unfolding whole ends term_list
whole_back t l v = rw (text-nested t l) (go (of_series 1 l) (of_series 2 l) (of_series 3 l) (ten 1 (omega arith) (omega arith)) (ten 2 (omega arith) (omega arith)) (ten 3 (omega arith) (omega arith)) (all-series l v.thirty))
  where
    ten : (i : ℕ) → 1 ≤ i → i ≤ 3 → length (of_series i l) ≡ IN_SERIES
    ten = length-series l v.thirty

    go : (xs ys zs : Places) → length xs ≡ IN_SERIES → length ys ≡ IN_SERIES → length zs ≡ IN_SERIES → l ≡ xs ++ (ys ++ zs) → whole (nested t xs ys zs) ≡ got (t, l) []
    go xs ys zs p q s e =
        let h = short-split3 xs ys zs (rw e at v.places) in
        then-got _ (table_back (lines xs) (lines ys) (lines zs) _ (omega (arith, lines-most xs)) (omega (arith, lines-most ys)) (omega (arith, lines-most zs)))
        ∙ (then-got _ (numbers_back (term_list t) _ v.terms)
        ∙ (then-got _ (bodies_back xs ys zs [] p q s h.0 h.1 h.2)
        ∙ rw (terms_order t, e)))

pub whole-only : (bs : List ℕ) (t : Terms) (l : Places) (r : List ℕ) → whole bs ≡ got (t, l) r → (bs ≡ text t l) × Printable t l
unfolding whole ends
whole-only bs t l r e =
    let i = then-only (table bs) _ e in
    let j = then-only (numbers 12 i.1) _ i.3 in
    let k = then-only (bodies i.0.0 i.0.1 i.0.2 j.1) _ j.3 in
    let n = numbers-only 12 i.1 j.2 in
    go i.0 i.1 j.0 j.1 k.0 k.1 (table-only bs i.0 i.1 i.2) n.0 n.1 n.2
    (bodies-only i.0.0 i.0.1 i.0.2 j.1 k.0 k.1 k.2) k.3
  where
    ended : (a : Terms × Places) (u : List ℕ) → ends a u ≡ got (t, l) r → (a ≡ (t, l)) × (u ≡ [])
    ended a [] e = (cc, refl)
    ended a (x ∷ u) e = no e

    go : (n : ℕ × ℕ × ℕ) (p : List ℕ) (ts : List ℤ) (q : List ℕ) (ps : Places) (u : List ℕ) → bs ≡ headed n.0 n.1 n.2 p → p ≡ line ts ++ q → length ts ≡ 12 → AllShort ts
        → Bodies n.0 n.1 n.2 q ps u → ends {A = Terms × Places} (terms_from ts, ps) u ≡ got (t, l) r → (bs ≡ text t l) × Printable t l
    go n p ts q ps u eb ep len sh b e =
        let f = ended (terms_from ts, ps) u e in
        let ft : terms_from ts ≡ t = ap (λ c. c.0) f.0 in
        let fl : b.xs ++ (b.ys ++ b.zs) ≡ l = sym b.all ∙ ap (λ c. c.1) f.0 in
        let g : term_list t ≡ ts = rw (← ft) (terms_from_lem ts len) in
        let s1 : of_series 1 l ≡ b.xs = rw (← fl) (first-series b.xs b.ys b.zs b.ten1 b.ten2 b.ten3) in
        let s2 : of_series 2 l ≡ b.ys = rw (← fl) (second_series b.xs b.ys b.zs b.ten1 b.ten2 b.ten3) in
        let s3 : of_series 3 l ≡ b.zs = rw (← fl) (third_series b.xs b.ys b.zs b.ten1 b.ten2 b.ten3) in (
          eb ∙ (rw (b.lines1, b.lines2, b.lines3, ep, b.is, f.1) (sym (text-nested t l ∙ rw (s1, s2, s3, g)))),
          record {
            thirty = rw (← fl) (rw (length-append, length-append) (omega (arith, b.ten1, b.ten2, b.ten3)));
            terms = rw g sh;
            places = rw (← fl) (short_join3 b.xs b.ys b.zs b.short1 b.short2 b.short3);
          },
        )
