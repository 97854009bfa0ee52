-- `words::store_at`: the words before this one are stored.
-- Assumes nothing.
use mathlib.Core.Path.{◌≡◌}
use lib.ListN.{take}
use Rattle.words.specs.Words.{bytes_of}
use Rattle.rows.specs.Paste.{pasted}
use Rattle.words.proofs.store_at.Given as goal

abbrev pub invariant-loop-i : goal.invariant-loop-i
invariant-loop-i l = l.bytes ≡ pasted l.initial.bytes l.at (bytes_of (take l.i l.from))
