-- Figures and verdicts are the paper's.
-- Assumes nothing.
use Rattle.std.proofs.Common.{ℕ, ◌+◌, ◌-◌, ◌*◌, ◌≤◌, arith, mul-le-mul, ◌≡◌, Bool, ◌&&◌, leb}
use Rattle.paper.specs.Procedure.{SPREAD}
use Rattle.whole.specs.Greatest.{greatest_of}
use Rattle.paper.specs.Units.{Terms, Places}
use Rattle.paper.specs.Figures.{shown, figures}
use Rattle.paper.specs.Verdicts.{bound_xy, bound_h, judged_xy, judged_h, evaluation, both_within}
use Rattle.paper.specs.declared.Shown.{Shown}
use Rattle.paper.specs.declared.Judged.{Judged}
use Rattle.paper.specs.declared.Evaluation.{Evaluation}
use Rattle.image.specs.Lengths.{ORIGIN, len}
use Rattle.image.proofs.Lengths.{len_pos}
use Rattle.sums.specs.declared.Totals.{Totals}
use Rattle.sums.specs.Sums.{totals_of}
use Rattle.figures.specs.Judging.{shown_by, within_by, judged_by}

pub shown_are : (s : Totals) (x y xy h : ℕ) → x ≡ shown s.qx → y ≡ shown s.qy → xy ≡ shown s.p → h ≡ shown s.qh
    → ◌≡◌ {A = Shown} (record { sx = x; sy = y; sxy = xy; sh = h }) (shown_by s)
unfolding shown_by
shown_are s x y xy h ex ey exy eh = rw (ex, ey, exy, eh)

module _ (s : Totals) (f : Shown) (e : f ≡ shown_by s) where
  pub shown-xy : f.sxy ≡ shown s.p
  unfolding shown_by
  shown-xy = rw e

  pub shown-h : f.sh ≡ shown s.qh
  unfolding shown_by
  shown-h = rw e

-- the square of a stated sigma
pub sigma² : {w : ℕ} → w ≤ ORIGIN + SPREAD → (w - ORIGIN) * (w - ORIGIN) ≤ 100000000
sigma² {w} h = let k : w - ORIGIN ≤ SPREAD = omega arith in mul-le-mul k k

pub within_by_is : (times most sum w : ℕ) → ORIGIN ≤ w → leb (times * sum) (most * ((w - ORIGIN) * (w - ORIGIN))) ≡ within_by times most sum (len w)
within_by_is times most sum w low = rw (len_pos w low)

pub judged_is : (times most divisor chi sum w m b : ℕ) (t : Bool) → ORIGIN ≤ w → t ≡ within_by times most sum (len w) → m ≡ shown sum
    → b ≡ greatest_of divisor ((w - ORIGIN) * (w - ORIGIN) * chi * 1048576)
    → ◌≡◌ {A = Judged} (record { within = t; m = m; b = b }) (judged_by times most divisor chi sum (len w))
unfolding judged_by
judged_is times most divisor chi sum w m b t low et em eb = rw (et, em, eb, len_pos w low)

pub evaluation_is : (t : Terms) (l : Places) (s : Totals) (f : Shown) (x h : Judged) → s ≡ totals_of t l → f ≡ shown_by s
    → x ≡ judged_by 40 22341 560000 7447 s.p t.sigma_xy → h ≡ judged_by 10 6201 280000 4134 s.qh t.sigma_h
    → ◌≡◌ {A = Evaluation} (record { sheet = f; xy = x; h = h }) (evaluation t l)
unfolding totals_of shown_by judged_by evaluation figures judged_xy judged_h bound_xy bound_h
evaluation_is t l s f x h es ef ex eh = rw (ef, ex, eh, es)

-- both within, by the sums
pub both_is : (t : Terms) (l : Places) (s : Totals) (x h : Bool) → s ≡ totals_of t l → x ≡ within_by 40 22341 s.p t.sigma_xy → h ≡ within_by 10 6201 s.qh t.sigma_h
    → x && h ≡ both_within (judged_xy t l) (judged_h t l)
unfolding totals_of judged_xy judged_h
both_is t l s x h es ex eh = rw (ex, eh, es)
