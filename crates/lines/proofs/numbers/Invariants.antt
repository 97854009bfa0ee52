-- `lines::numbers`: the words read so far stand in front of those that are left to read.
-- Assumes nothing.
use Rattle.std.proofs.Common.{◌≡◌, ◌-◌, length, take}
use Rattle.lines.proofs.Steps.{after, words_of}
use Rattle.lines.proofs.numbers.Given as goal

abbrev pub invariant-loop-k : goal.invariant-loop-k
invariant-loop-k g l =
    (length l.word-items ≡ g.row.N) × (words_of g.row.N l.s ≡ after (take l.k l.word-items) (words_of (g.row.N - l.k) l.rest))
