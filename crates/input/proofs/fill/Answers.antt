-- `input::fill`: what came lies within the buffer, and which bytes are held.
-- Assumes nothing.
use Rattle.std.proofs.Common.{◌≡◌, ◌+◌, ◌≤◌, max, length, arith}
use Rattle.input.proofs.Reading.{came_none, came_more, holds_at_end, holds_at_last}
use Rattle.input.proofs.fill.Goals as goal

pub loop-turn-init : goal.loop-turn-init
loop-turn-init g c = (omega arith, came_none _ _)

pub loop-turn-preserved : goal.loop-turn-preserved
loop-turn-preserved g c =
    let from = c.next_place-from.result in
    let fits : from + c.in_ok-n.n ≤ length c.loop-turn.buffer = c.in_ok-n.ensures.within in
    let len : c.max-len.result ≡ max c.loop-turn.len (from + c.in_ok-n.n) = omega arith in
    let came = came_more c.loop-turn.buffer c.read_once.new.buffer c.loop-turn.len from c.read_once.auto.buffer c.next_place-from.ensures.behind c.in_ok-n.ensures.front
    _ _ _ c.in_ok-n.n c.loop-turn._turn fits (omega arith) c.in_ok-n.ensures.brings c.loop-turn.invariant.1 in
    (omega arith, rw len came)

pub returns-then-n-eq0-clause-holds : goal.returns-then-n-eq0-clause-holds
returns-then-n-eq0-clause-holds g c =
    holds_at_end c.loop-turn.buffer c.read_once.new.buffer c.loop-turn.len c.next_place-from.result c.read_once.auto.buffer c.next_place-from.ensures.behind
    c.in_ok-n.ensures.front _ _ _ c.in_ok-n.n c.loop-turn._turn c.next_place-from.ensures.bound c.if-n-eq0.true c.in_ok-n.ensures.brings
    c.loop-turn.invariant.1

pub returns-clause-holds : goal.returns-clause-holds
returns-clause-holds g c = holds_at_last _ _ c.loop-turn.buffer c.loop-turn.len c.loop-turn._turn (omega arith) c.loop-turn-test.false c.loop-turn.invariant.1
