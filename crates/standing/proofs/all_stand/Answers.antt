-- `standing::all_stand`: the marks are those of the places with the changes before this one taken back.
-- Assumes nothing.
use mir.Syntax.{w64}
use mir.Val.{Fits}
use Prim.Native.Nat.{ℕ, ◌*◌, ◌<◌}
use native.Mathlib.Omega.{arith}
use mathlib.Core.Path.{◌∙◌}
use mathlib.Core.List.{List, []}
use lib.ListN.{get_or, take}
use borrow.Author.Rules.{rules}
use Rattle.paper.specs.Procedure.{PLACES}
use Rattle.standing.proofs.Turns.{chunk_at, chunk_end, stands-start, stands_reaches, stands_on, stands_stop, stands_end}
use Rattle.standing.proofs.all_stand.Goals as goal
use Rattle.standing.proofs.all_stand.Goals.{After-mark}

-- the place of a change that can be taken back, without the facts of the loop
module _ (c : After-mark) where
  abbrev words : List ℕ
  words = get_or (take c.args.kept c.as_chunks.result.0.now) c.loop-change.change-index []

  reached : get_or words 0 0 < PLACES
  reached = stands_reaches _ _ _ c.args.kept _ _ c.loop-change.invariant words c.change_ok.ensures c.if-not-change_ok.false

scaled : {p : ℕ} → p < PLACES → Fits w64 (p * 8)
scaled h = omega arith

pub loop-change-init : goal.loop-change-init
loop-change-init c = search (stands-start, rules)

pub returns-then-not-change_ok : goal.returns-then-not-change_ok
returns-then-not-change_ok c = let at = c.loop-change in
    let k = chunk_at c.args.changes.now c.args.kept at.change-index c.as_chunks.ensures.front c.as_chunks.ensures.front_len (search rules) c.requires c.loop-change-test.true in
    stands_stop _ _ _ c.args.kept _ _ at.invariant _ k.0 k.1 _ c.change_ok.ensures c.if-not-change_ok.true

pub bounds-marks-place : goal.bounds-marks-place
bounds-marks-place c = reached c

pub offset_bounds-marks-place : goal.offset_bounds-marks-place
offset_bounds-marks-place c = scaled (reached c)

pub loop-change-preserved : goal.loop-change-preserved
loop-change-preserved c = let at = c.loop-change in
    let k = chunk_at c.args.changes.now c.args.kept at.change-index c.as_chunks.ensures.front c.as_chunks.ensures.front_len (search rules) c.requires c.loop-change-test.true in
    stands_on _ _ _ c.args.kept _ _ at.invariant _ k.0 k.1 _ c.change_ok.ensures c.if-not-change_ok.false (c.mark.ensures ∙ c.all_zero.ensures)

pub returns : goal.returns
returns c = let k = chunk_end c.args.changes.now c.args.kept c.loop-change.change-index c.as_chunks.ensures.front c.as_chunks.ensures.front_len (search rules) c.requires c.loop-change-test.false in
    stands_end _ _ _ c.args.kept _ _ c.loop-change.invariant _ k (search rules)
