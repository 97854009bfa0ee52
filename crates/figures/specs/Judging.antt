-- Figures and verdicts by the sums, and how large they are.
use Rattle.std.specs.Prelude.{ℕ, ◌*◌, ◌^◌, ◌<◌, Bool, leb, ℤ}
use Rattle.whole.specs.Greatest.{greatest_of}
use Rattle.paper.specs.Screening.{square}
use Rattle.paper.specs.Figures.{shown}
use Rattle.paper.specs.declared.Shown.{Shown}
use Rattle.paper.specs.declared.Judged.{Judged}
use Rattle.paper.specs.declared.Evaluation.{Evaluation}
use Rattle.sums.specs.declared.Totals.{Totals}

-- ---- by the sums

unfoldable pub shown_by : Totals → Shown
shown_by s = record { sx = shown s.qx; sy = shown s.qy; sxy = shown s.p; sh = shown s.qh }

-- within when times · sum <= most · sigma²
abbrev pub within_by : ℕ → ℕ → ℕ → ℤ → Bool
within_by times most sum sigma = leb (times * sum) (most * square sigma)

-- the rule of a verdict: b is the greatest with b² · divisor <= sigma² · chi · 1,048,576
unfoldable pub judged_by : ℕ → ℕ → ℕ → ℕ → ℕ → ℤ → Judged
judged_by times most divisor chi sum sigma =
    record { within = within_by times most sum sigma; m = shown sum; b = greatest_of divisor (square sigma * chi * 1048576) }

-- ---- each m and b is one that a double holds

abbrev pub Held : ℕ → Type 0
Held m = m < 2 ^ 32

pub record SheetHeld (f : Shown) : Type 0 where
  pub sx : Held f.sx
  pub sy : Held f.sy
  pub sxy : Held f.sxy
  pub sh : Held f.sh

pub record VerdictHeld (j : Judged) : Type 0 where
  pub m : Held j.m
  pub b : Held j.b

pub record AllHeld (e : Evaluation) : Type 0 where
  pub sheet : SheetHeld e.sheet
  pub xy : VerdictHeld e.xy
  pub h : VerdictHeld e.h
