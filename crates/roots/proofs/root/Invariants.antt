-- `whole::root` meets its contract. The invariant: the root lies from low up to high. Assumes nothing.
use Prim.Native.Nat.{◌-◌, ◌*◌, ◌^◌, ◌≤◌, ◌<◌}
use Rattle.roots.proofs.root.Given as goal

abbrev pub invariant-loop-high : goal.invariant-loop-high
invariant-loop-high l = (l.low * l.low ≤ l.n) × (l.n < l.high * l.high) × (l.low < l.high) × (l.high ≤ 2 ^ 32)

abbrev pub decreases-loop-high : goal.decreases-loop-high
decreases-loop-high l = l.high - l.low
