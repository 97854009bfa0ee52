-- The greatest difference that passes.
use Rattle.std.specs.Prelude.{ℕ, ◌*◌, ℤ}
use Rattle.whole.specs.Greatest.{greatest_of}
use Rattle.paper.specs.Screening.{square}

-- the greatest d with 2·d² <= 25·s² (proofs/Limits.antt: exactly those up to it pass)
unfoldable pub most_passing : ℤ → ℕ
most_passing s = greatest_of 2 (25 * square s)
