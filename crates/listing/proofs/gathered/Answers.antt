-- `listing::gathered`: the numbers so far are the list of the books before k.
-- Assumes nothing.
use Prim.Native.Nat.{◌<◌}
use native.Mathlib.Omega.{arith}
use mathlib.Core.Path.{◌≡◌, ap, ◌∙◌}
use lib.ListN.{length}
use Rattle.paper.specs.Procedure.{BOOKS}
use Rattle.paper.specs.Screening.{each}
use Rattle.paper.specs.TurnedAway.{passing}
use Rattle.paper.proofs.Tests.{known}
use Rattle.listing.proofs.Turns.{listed_by, list_more, list_same}
use Rattle.listing.proofs.gathered.Goals as goal
use Rattle.listing.proofs.gathered.Goals.{then-on_list, else-on_list}

pub loop-k-init : goal.loop-k-init
unfolding each
loop-k-init c = record { few = omega (arith, ap length c.new-roll.ensures); listed = c.new-roll.ensures }

pub loop-k-preserved : goal.loop-k-preserved
loop-k-preserved c = let at = c.loop-k in
    let h : at.k < BOOKS = omega arith in
    elim c.if-on_list.branch [
      | then-on_list w ↦ record {
        few = rw w.roll-is (omega (arith, w.push.ensures.len, at.invariant.few));
        listed = rw (w.roll-is, w.push.ensures.items) (list_more _ _ h _ at.invariant.listed (known c.on_list.ensures w.if-on_list.true));
      }
      | else-on_list w ↦ record {
        few = rw w.roll-is (omega (arith, at.invariant.few));
        listed = rw w.roll-is (list_same _ _ h _ at.invariant.listed (known c.on_list.ensures w.if-on_list.false));
      }
    ]

pub returns : goal.returns
unfolding passing
returns c = let at = c.loop-k in
    let e : at.k ≡ BOOKS = omega arith in
    (at.invariant.listed ∙ ap (listed_by c.args.register.now) e, omega (arith, at.invariant.few))
