-- For the crates below: the calls of a register, and of two books by themselves, answer as the functions of this crate do.
-- A comparison looks at terms and readings alone, so the number of changes that can be taken back makes no difference.
-- Assumes nothing.
use Rattle.std.proofs.Common.{ℕ, ◌≡◌, false, List}
use Rattle.std.proofs.Math.Option.{Option, some}
use Rattle.paper.specs.Books.{Sight}
use Rattle.paper.specs.Calls.{ask, compare}
use Rattle.paper.specs.TurnedAway.{short, suspect_of, sum_of, lowest, no_book, questioned}
use Rattle.paper.specs.Answers.{suspect_in, given, beside, says}
use Rattle.image.specs.Sights.{sight_of, Seen}
use Rattle.comparison.specs.Comparing.{comparison_to}

pub compare_asked : (s : ℕ → Option Sight) (j k axis : ℕ) (v w : Sight) (t l u m : List ℕ) → no_book j ≡ false → no_book k ≡ false → s j ≡ some v → s k ≡ some w → Seen v t l → Seen w u m
    → says (ask (compare j k axis)) s ≡ comparison_to axis (sight_of t l) (sight_of u m)
unfolding comparison_to says lowest questioned short suspect_of sum_of suspect_in given beside
compare_asked s j k axis v w t l u m b d e f g h = rw (b, d, e, f, g.terms, g.places, h.terms, h.places)
