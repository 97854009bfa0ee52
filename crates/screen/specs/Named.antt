-- The suspect that the code found, as the paper's.
use Rattle.std.specs.Prelude.{Option, Some, None}
use Rattle.std.proofs.Math.Option as math
use Rattle.paper.specs.Screening as paper
use Rattle.procedure.specs.declared.refusal.Suspect.{Suspect}
use Rattle.procedure.specs.Refused.{suspect_named}

abbrev pub found_of : Option Suspect → math.Option paper.Suspect
found_of None = math.none
found_of (Some s) = math.some (suspect_named s)
