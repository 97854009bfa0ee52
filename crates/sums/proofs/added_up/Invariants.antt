-- `sums::added_up` meets its contract. The invariant: both sums of what was passed, each with its bound. Assumes nothing.
use Rattle.std.proofs.Common.{ℕ, ◌-◌, ◌*◌, ◌≤◌, ◌≡◌}
use Rattle.integers.specs.Sigma.{ΣN}
use Rattle.paper.specs.Procedure.{ROUNDS, NEARBY}
use Rattle.sums.specs.Coordinates.{index_of}
use Rattle.sums.specs.Sums.{raised_of}
use Rattle.sums.proofs.added_up.Given as goal

abbrev pub invariant-loop-i : goal.invariant-loop-i
invariant-loop-i l = (l.i ≤ ROUNDS) × (l.s ≡ ΣN l.i (raised_of l.book.terms.now l.book.cells.now l.point (index_of l.axis))) × (l.q ≡ ΣN l.i (λ (n : ℕ). raised_of l.book.terms.now l.book.cells.now l.point (index_of l.axis) n * raised_of l.book.terms.now l.book.cells.now l.point (index_of l.axis) n)) × (l.s ≤ 2 * NEARBY * l.i) × (l.q ≤ 2 * NEARBY * l.s)

abbrev pub decreases-loop-i : goal.decreases-loop-i
decreases-loop-i l = ROUNDS - l.i
