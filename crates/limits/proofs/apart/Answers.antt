-- `limits::apart` meets its contract. Assumes nothing.
use Rattle.std.proofs.Common.{rules}
use Rattle.limits.proofs.Limits.{words-apart}
use Rattle.limits.proofs.apart.Goals as goal

pub returns : goal.returns
returns c = search (words-apart, rules)
