-- The sums that the code makes of the words of a full book.
use Rattle.std.specs.Prelude.{ℕ, ◌+◌, ◌-◌, ◌*◌, ◌≤◌, ◌≡◌, List}
use Rattle.integers.specs.Sigma.{ΣN}
use Rattle.paper.specs.Procedure.{ROUNDS, NEARBY}
use Rattle.paper.specs.Units.{Terms, Places}
use Rattle.paper.specs.Figures.{Qx, Qy, Qh, P}
use Rattle.image.specs.Ready.{raised}
use Rattle.sums.specs.declared.Added.{Added}
use Rattle.sums.specs.declared.Totals.{Totals}

-- the greatest sum of fifteen raised offsets
abbrev pub RAISED : ℕ
RAISED = ROUNDS * (2 * NEARBY)

-- the raised offsets of point k and axis a (0 x, 1 y, 2 h), in the order of the sheet
abbrev pub raised_of : List ℕ → List ℕ → ℕ → ℕ → ℕ → ℕ
raised_of t l k a = raised t l ((k - 1) * 3 + a)

-- s is their sum, q the sum of their squares
pub record Adds (t l : List ℕ) (k a : ℕ) (r : Added) : Type 0 where
  pub s : r.s ≡ ΣN ROUNDS (raised_of t l k a)
  pub q : r.q ≡ ΣN ROUNDS (λ (i : ℕ). raised_of t l k a i * raised_of t l k a i)
  pub s-most : r.s ≤ RAISED
  pub q-most : r.q ≤ 2 * NEARBY * r.s

-- the four sums of the paper
unfoldable pub totals_of : Terms → Places → Totals
totals_of t l = record { qx = Qx t l; qy = Qy t l; p = P t l; qh = Qh t l }

-- how great they are at most: 1,048,576 times as much fits a word
abbrev pub Modest : ℕ → Type 0
Modest sum = sum ≤ RAISED * RAISED

pub record AllModest (s : Totals) : Type 0 where
  pub qx : Modest s.qx
  pub qy : Modest s.qy
  pub p : Modest s.p
  pub qh : Modest s.qh
