-- `places::filled::full` meets its contract. Assumes nothing.
use Rattle.std.proofs.Common.{rules}
use Rattle.paper.proofs.Tests.{known}
use Rattle.places.proofs.Meets.{ready}
use Rattle.places.proofs.filled.full.Goals as goal

pub invariant_of-result : goal.invariant_of-result
invariant_of-result c = record { ready = search (known, ready, rules) }
