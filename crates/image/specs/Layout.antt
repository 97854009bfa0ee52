-- How many words the parts of a book take.
use Rattle.std.specs.Prelude.{ℕ, ◌*◌}
use Rattle.paper.specs.Procedure.{PLACES, KEPT}

-- one for each term
abbrev pub TERM_WORDS : ℕ
TERM_WORDS = 12

-- x, y, h of each place
abbrev pub CELL_WORDS : ℕ
CELL_WORDS = 3 * PLACES

-- of each kept change its place, and the three words that stood there before
abbrev pub CHANGE_WORDS : ℕ
CHANGE_WORDS = 4 * KEPT
