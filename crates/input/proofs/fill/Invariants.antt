-- `input::fill`: what came lies within the buffer, and which bytes are held.
-- Assumes nothing.
use Rattle.std.proofs.Common.{◌≤◌, length}
use Rattle.input.proofs.Reading.{Came}
use Rattle.input.proofs.fill.Given as goal

abbrev pub invariant-loop-turn : goal.invariant-loop-turn
invariant-loop-turn g l = (l.len ≤ length l.buffer) × Came (g.R.Read.remaining l.initial.reader) (g.R.Read.remaining l.reader) l.buffer l.len l._turn
