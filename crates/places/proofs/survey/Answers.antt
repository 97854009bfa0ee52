-- `places::survey`: the marks before this set are made, and near tells of the readings before it.
-- Assumes nothing.
use native.Mathlib.Omega.{arith}
use borrow.Author.Rules.{rules}
use mathlib.Core.Path.{◌≡◌, sym, ◌∙◌}
use Prim.Native.Nat.{ℕ, ◌+◌, ◌*◌, ◌<◌}
use mathlib.Core.List.{List}
use lib.ListN.{length, set, length-set}
use Rattle.paper.specs.Procedure.{PLACES}
use Rattle.places.proofs.Turns.{near-start, near-set, near_end}
use Rattle.places.proofs.Marks.{marks-set, marks-all}
use Rattle.places.proofs.survey.Goals as goal

pub loop-set-init : goal.loop-set-init
loop-set-init c = (c.requires, λ p h. absurd (omega arith), sym (near-start _ _))

pub bounds-marks-p-in-loop-set : goal.bounds-marks-p-in-loop-set
bounds-marks-p-in-loop-set c = let at = c.loop-set in
    let l : List ℕ = set at.marks (at.set * 2) c.mark_at.result in
    let e : length l ≡ PLACES = length-set at.marks (at.set * 2) c.mark_at.result ∙ at.invariant.0 in
    let h : at.set * 2 + 1 < length l = omega arith in
    h

pub loop-set-preserved : goal.loop-set-preserved
loop-set-preserved c = (
  search rules,
  marks-set c.loop-set.marks c.args.cells.now _ _ _ (omega arith) c.mark_at.ensures c.mark_at-in-loop-set.ensures c.loop-set.invariant.1,
  near-set _ _ c.loop-set.near _ c.loop-set-test.true c.near_at.ensures c.near_at-in-loop-set.ensures ∙ c.loop-set.invariant.2,
)

pub shape_of-marks : goal.shape_of-marks
shape_of-marks c = c.loop-set.invariant.0 ∙ sym c.requires

pub returns : goal.returns
returns c = (
  near_end _ _ _ _ (omega arith) c.loop-set.invariant.2,
  marks-all c.loop-set.marks _ _ (omega arith) c.loop-set.invariant.0 c.loop-set.invariant.1,
)
