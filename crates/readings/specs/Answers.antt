-- Answers as records of numbers: lengths, and a count.
use Rattle.std.specs.Prelude.{ℕ, length}
use Rattle.paper.specs.Units.{Triple, zeros}
use Rattle.paper.specs.Answers.{Value, lengths, count, done, evaluates, same, listed, Answer}
use Rattle.numbers.specs.declared.Reading.{Reading}
use Rattle.numbers.specs.Named.{triple_of}
use Rattle.readings.specs.declared.Lengths.{Lengths}
use Rattle.readings.specs.declared.Count.{Count}

-- a reading as an answer's value
abbrev pub reading_in : Reading → Value
reading_in v = lengths (triple_of v)

abbrev pub lengths_by : ℕ → Triple → Lengths
lengths_by n v = record { refusal = n; x = v.x; y = v.y; h = v.h }

-- what an answer says of lengths, and of a count; such a question is answered in no other way
abbrev pub lengths_in : Value → Triple
lengths_in done = zeros
lengths_in (lengths v) = v
lengths_in (count n) = zeros
lengths_in (evaluates e) = zeros
lengths_in (same b) = zeros
lengths_in (listed l) = zeros

unfoldable pub lengths_of : Answer → Lengths
lengths_of a = lengths_by a.refused (lengths_in a.value)

abbrev pub count_in : Value → ℕ
count_in done = 0
count_in (lengths v) = 0
count_in (count n) = n
count_in (evaluates e) = 0
count_in (same b) = 0
count_in (listed l) = length l

abbrev pub count_by : ℕ → ℕ → Count
count_by n m = record { refusal = n; count = m }

unfoldable pub count_of : Answer → Count
count_of a = count_by a.refused (count_in a.value)
