-- Q and a residual from the sums that the code keeps, and how great Q can be.
-- Assumes nothing.
use Rattle.std.proofs.Common.{ℕ, ◌+◌, ◌-◌, ◌*◌, ◌/◌, ◌≤◌, ◌<◌, arith, mul-le-mul, ◌≡◌, sym, ap, ◌∙◌, subst, List, ℤ, pos, ◌-ℤ◌}
use Rattle.std.proofs.Math.IntN.{sub_ℕ}
use Rattle.integers.specs.Nats.{two_sq}
use Rattle.integers.specs.Sigma.{ΣN, ΣN-next, res, Σ_cong, res-raised}
use Rattle.paper.specs.Procedure.{POINTS, ROUNDS, PLACES, NEARBY}
use Rattle.paper.specs.Units.{Terms, Places, point_of, place_at}
use Rattle.paper.specs.Figures.{Axis, x-axis, y-axis, h-axis, Q, S, offset, both, P, residual15}
use Rattle.paper.proofs.Places.{number_back}
use Rattle.paper.proofs.Agreement.{Q_of-raised}
use Rattle.image.specs.Lengths.{terms_of}
use Rattle.image.specs.Places.{places_of, axis_of}
use Rattle.image.specs.Ready.{Ready}
use Rattle.image.proofs.Ready.{raised-offset}
use Rattle.sums.specs.declared.Totals.{Totals}
use Rattle.sums.specs.declared.coordinate.Coordinate.{Coordinate}
use Rattle.sums.specs.declared.coordinate.Coordinate.TheVariants.{X, Y, H}
use Rattle.sums.specs.Coordinates.{index_of}
use Rattle.sums.specs.Sums.{RAISED, raised_of, totals_of}

-- a reading has three words
pub index-small : (a : Coordinate) → index_of a < 3
index-small X = omega arith
index-small Y = omega arith
index-small H = omega arith

-- s (A − s) is at most a quarter of A²
quarter : (s d : ℕ) → 4 * (s * d) ≤ (s + d) * (s + d)
quarter s d = omega (arith, two_sq s d)

pub most : (s q : ℕ) → q ≤ 2 * NEARBY * s → s ≤ RAISED → 4 * (ROUNDS * q - s * s) ≤ RAISED * RAISED
most s q h k =
    let d = RAISED - s in
    let e : s + d ≡ RAISED = omega arith in
    let g : 4 * (s * d) ≤ RAISED * RAISED = subst (λ (m : ℕ). 4 * (s * d) ≤ m * m) e (quarter s d) in
    let i : s * (s + d) ≡ s * RAISED = ap (λ (m : ℕ). s * m) e in
    omega arith

pub sq_step : (u : ℕ) → u ≤ 2 * NEARBY → u * u ≤ 2 * NEARBY * u
sq_step u h = mul-le-mul h (omega arith)

-- one more raised offset, or square of one
pub sum-next : (f : ℕ → ℕ) (i s u : ℕ) → s ≡ ΣN i f → u ≡ f i → s + u ≡ ΣN (i + 1) f
sum-next f i s u es eu = omega (arith, ΣN-next i f)

-- what a loop has summed up past its end
pub sum-all : (f : ℕ → ℕ) (i s : ℕ) → ROUNDS ≤ i → i ≤ ROUNDS → s ≡ ΣN i f → s ≡ ΣN ROUNDS f
sum-all f i s lo hi es = let e : i ≡ ROUNDS = omega arith in es ∙ ap (λ (n : ℕ). ΣN n f) e

pub Q-words : (t l : List ℕ) (r : Ready t l) (k a : ℕ) → 1 ≤ k → k ≤ POINTS → a < 3 → (s q : ℕ)
    → s ≡ ΣN ROUNDS (raised_of t l k a) → q ≡ ΣN ROUNDS (λ (i : ℕ). raised_of t l k a i * raised_of t l k a i)
    → ROUNDS * q - s * s ≡ Q (terms_of t) (places_of l) (axis_of a) k
Q-words t l r k a one two axis s q es eq =
    rw (es, eq) (sym (Q_of-raised (terms_of t) (places_of l) (axis_of a) k NEARBY (raised_of t l k a) (raised-offset t l r k a one two axis)))

-- the residual of the place with a number, as that of its set
own_residual : (t : Terms) (l : Places) (n : ℕ) (a : Axis) → residual15 t l (place_at n) a ≡ res ROUNDS (offset t l a (point_of n)) (n / POINTS)
unfolding residual15 S offset place_at
own_residual t l n a = let e : n / POINTS * POINTS + (point_of n - 1) ≡ n = omega arith in rw (number_back n, e)

pub residual_words : (t l : List ℕ) (r : Ready t l) (n a : ℕ) → n < PLACES → a < 3 → (s u : ℕ)
    → s ≡ ΣN ROUNDS (raised_of t l (point_of n) a) → u ≡ raised_of t l (point_of n) a (n / POINTS)
    → sub_ℕ s (ROUNDS * u) ≡ residual15 (terms_of t) (places_of l) (place_at n) (axis_of a)
residual_words t l r n a h axis s u es eu =
    rw eu (res-raised NEARBY ROUNDS (raised_of t l k a) s j es) ∙ sym moved ∙ sym (own_residual (terms_of t) (places_of l) n (axis_of a))
  where
    k : ℕ
    k = point_of n

    j : ℕ
    j = n / POINTS

    e : ℕ → ℤ
    e = offset (terms_of t) (places_of l) (axis_of a) k

    as_raised : (i : ℕ) → i < ROUNDS → e i ≡ pos (raised_of t l k a i) -ℤ pos NEARBY
    as_raised = raised-offset t l r k a (omega arith) (omega arith) axis

    moved : res ROUNDS e j ≡ res ROUNDS (λ (i : ℕ). pos (raised_of t l k a i) -ℤ pos NEARBY) j
    moved = rw (Σ_cong ROUNDS e (λ (i : ℕ). pos (raised_of t l k a i) -ℤ pos NEARBY) as_raised, as_raised j (omega arith))

pub totals_are : (t : Terms) (l : Places) (x y h : ℕ) → x ≡ both t l x-axis → y ≡ both t l y-axis → h ≡ both t l h-axis
    → ◌≡◌ {A = Totals} (record { qx = x; qy = y; p = x + y; qh = h }) (totals_of t l)
unfolding totals_of P
totals_are t l x y h ex ey eh = rw (ex, ey, eh)
