-- `shelving::addressed`: at a book's number its answer is kept.
-- Assumes nothing.
use Rattle.std.proofs.Common.{sym}
use Rattle.shelving.proofs.Ways.{addressed-among}
use Rattle.shelving.proofs.addressed.Goals as goal

pub returns-in_default : goal.returns-in_default
returns-in_default g c = sym (addressed-among _ _ (sym c.if-is_book.ensures))
