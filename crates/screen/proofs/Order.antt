-- The search in sheet order, a set at a time: none so far, and the first is at hand.
-- Assumes nothing.
use Rattle.std.proofs.Common.{ℕ, zero, suc, ◌+◌, ◌-◌, ◌≤◌, arith, ◌≡◌, sym, ◌∙◌, subst, Bool, true, false, cond, List, [], ◌∷◌, ◌++◌}
use Rattle.std.proofs.Math.Option.{none, some}
use Rattle.paper.specs.Procedure.{SERIES, SETS}
use Rattle.paper.specs.Units.{Terms, Places}
use Rattle.paper.specs.Screening.{Suspect, suspicious, each, sheet_order, None, first, first_suspect}
use Rattle.paper.proofs.Agreement.{first_is, first_past, none_app}
use Rattle.sets.specs.Words.{distance, height}

-- ---- over any list and test

module _ {A : Type 0} (f : A → Bool) where
  before_some : (xs ys : List A) (a : A) → first f xs ≡ some a → first f (xs ++ ys) ≡ some a
  unfolding first
  before_some [] ys a e = let z : ◌≡◌ {A = ℕ} 0 1 = cc in absurd (omega arith)
  before_some (x ∷ xs) ys a e = go (f x) e (before_some xs ys a)
    where
      go : (b : Bool) → cond b (some x) (first f xs) ≡ some a → (first f xs ≡ some a → first f (xs ++ ys) ≡ some a) → cond b (some x) (first f (xs ++ ys)) ≡ some a
      go true h k = h
      go false h k = k h

  module _ (F : ℕ → List A) where
    -- found, and so it stays
    each_stays : (n d : ℕ) (a : A) → first f (each n F) ≡ some a → first f (each (d + n) F) ≡ some a
    unfolding each
    each_stays n zero a e = let z : n ≡ 0 + n = omega arith in subst (λ (m : ℕ). first f (each m F) ≡ some a) z e
    each_stays n (suc d) a e =
        let m : suc (d + n) ≡ suc d + n = omega arith in
        subst (λ (m : ℕ). first f (each m F) ≡ some a) m (before_some (each (d + n) F) (F (suc (d + n))) a (each_stays n d a e))

    -- i counts from 1: none before the i-th, and the first is in it
    each-found : (n i : ℕ) (a : A) → 1 ≤ i → i ≤ n → None f (each (i - 1) F) → first f (F i) ≡ some a → first f (each n F) ≡ some a
    unfolding each
    each-found n i a lo hi e g =
        let s : suc (i - 1) ≡ i = omega arith in
        let m : n - i + suc (i - 1) ≡ n = omega arith in
        let h : first f (each (suc (i - 1)) F) ≡ some a = first_past f (each (i - 1) F) (F (suc (i - 1))) e ∙ subst (λ (k : ℕ). first f (F k) ≡ some a) (sym s) g in
        subst (λ (k : ℕ). first f (each k F) ≡ some a) m (each_stays (suc (i - 1)) (n - i) a h)

    -- none before the i-th, and none in it
    each_on : (i : ℕ) → 1 ≤ i → None f (each (i - 1) F) → None f (F i) → None f (each (i + 1 - 1) F)
    unfolding each
    each_on i lo e g =
        let s : suc (i - 1) ≡ i = omega arith in
        let m : suc (i - 1) ≡ i + 1 - 1 = omega arith in
        subst (λ (k : ℕ). None f (each k F)) m (none_app f (each (i - 1) F) (F (suc (i - 1))) e (subst (λ (k : ℕ). None f (F k)) (sym s) g))

-- ---- over the sheet

abbrev pair : ℕ → ℕ → List Suspect
pair i j = distance i j ∷ height i j ∷ []

abbrev row : ℕ → List Suspect
row i = each SETS (pair i)

-- the series, or the sets of a series, before one are clear
abbrev pub SeriesClear : Terms → Places → ℕ → Type 0
SeriesClear t l i = None (suspicious t l) (each (i - 1) row)

abbrev pub SetsClear : Terms → Places → ℕ → ℕ → Type 0
SetsClear t l i j = None (suspicious t l) (each (j - 1) (pair i))

pub start : (t : Terms) (l : Places) → SeriesClear t l 1
unfolding each
start t l = tt

pub start-row : (t : Terms) (l : Places) (i : ℕ) → SetsClear t l i 1
unfolding each
start-row t l i = tt

module _ (t : Terms) (l : Places) (i j : ℕ) (lo : 1 ≤ i) (hi : i ≤ SERIES) (lo' : 1 ≤ j) (hi' : j ≤ SETS) (a : SeriesClear t l i) (b : SetsClear t l i j) where
  found : (s : Suspect) → first (suspicious t l) (pair i j) ≡ some s → first_suspect t l ≡ some s
  unfolding first_suspect sheet_order
  found s e = each-found (suspicious t l) row SERIES i s lo hi a (each-found (suspicious t l) (pair i) SETS j s lo' hi' b e)

  pub at-distance : suspicious t l (distance i j) ≡ true → some (distance i j) ≡ first_suspect t l
  unfolding first
  at-distance e = sym (found (distance i j) (rw e))

  pub at-height : suspicious t l (distance i j) ≡ false → suspicious t l (height i j) ≡ true → some (height i j) ≡ first_suspect t l
  unfolding first
  at-height e g = sym (found (height i j) (rw (e, g)))

  pub on : suspicious t l (distance i j) ≡ false → suspicious t l (height i j) ≡ false → SetsClear t l i (j + 1)
  on e g = each_on (suspicious t l) (pair i) j lo' b (e, (g, tt))

pub on-series : (t : Terms) (l : Places) (i j : ℕ) → 1 ≤ i → j ≡ SETS + 1 → SeriesClear t l i → SetsClear t l i j → SeriesClear t l (i + 1)
on-series t l i j lo e a b = each_on (suspicious t l) row i lo a (subst (λ (k : ℕ). SetsClear t l i k) e b)

pub nowhere : (t : Terms) (l : Places) (i : ℕ) → i ≡ SERIES + 1 → SeriesClear t l i → none ≡ first_suspect t l
unfolding first_suspect sheet_order
nowhere t l i e a = sym (first_is (suspicious t l) sheet_order none (subst (λ (k : ℕ). SeriesClear t l k) e a))
