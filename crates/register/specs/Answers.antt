-- The buffer after the pass list.
use Rattle.std.specs.Prelude.{ℕ, List}
use Rattle.paper.specs.Answers.{numbers_in, Answer}
use Rattle.rows.specs.Paste.{pasted}

-- the buffer after the list: the numbers from its start on, and the bytes behind them as they were
unfoldable pub list_after : Answer → List ℕ → List ℕ
list_after a buffer = pasted buffer 0 (numbers_in a.value)
