-- `image::length_of`: the word less that of the length 0.
-- Assumes nothing.
use mathlib.Core.Path.{◌≡◌, ◌∙◌}
use native.Mathlib.Omega.{arith}
use lib.IntN.{pos}
use mir.Syntax.{w64}
use mir.Val.{to_z}
use mir.ValLaws.{to_z-of_z, to_z_pos}
use Rattle.integers.specs.Diff.{mag_sub, minus-sub}
use Rattle.image.specs.Lengths.{ORIGIN, len}
use Rattle.numbers.proofs.length_of.Goals as goal
use Rattle.numbers.proofs.length_of.Goals.{Start}

-- the bits of w, read as signed, are w
same : (c : Start) → to_z w64 c.args.w ≡ pos c.args.w
same c = to_z_pos w64 c.args.w (omega arith)

pub overflow_sub-result : goal.overflow_sub-result
overflow_sub-result c = rw (same (goal.at.overflow_sub-result c).Start) (record { sfits = mag_sub c.args.w ORIGIN _ (omega arith) (omega arith) })

pub returns : goal.returns
unfolding len
returns c = to_z-of_z w64 _ (overflow_sub-result c) ∙ rw (same (goal.at.returns c).Start) (minus-sub c.args.w ORIGIN)
