-- How long the pieces of a report are.
-- Assumes nothing.
use Rattle.std.proofs.Common.{◌≡◌, refl, ℕ, ◌+◌, ◌*◌, ◌≤◌, Bool, true, false, cond, List, [], ◌∷◌, map, length, length-append, pos, arith}
use Rattle.paper.specs.declared.Judged.{Judged}
use Rattle.decimals.specs.Ascii.{ascii}
use Rattle.rows.specs.Lists.{All}
use Rattle.decimals.specs.Numbers.{AllShort, line}
use Rattle.decimals.proofs.Long.{long_line}
use Rattle.axes.specs.Text.{WITHIN, BEYOND, axis_line}
use Rattle.axes.specs.Given.{Fits}

pub long_numbers : (ns : List ℕ) → All Fits ns → length (line (map pos ns)) ≤ 14 * length (map pos ns)
unfolding All
long_numbers ns h = long_line (map pos ns) (short ns h)
  where
    short : (ns : List ℕ) → All Fits ns → AllShort (map pos ns)
    short [] h = tt
    short (n ∷ ns) h = (h.0, short ns h.1)

pub long_cond : (f : Bool) (x y : List ℕ) (n : ℕ) → length x ≡ n → length y ≡ n → length (cond f x y) ≡ n
long_cond true x y n p q = p
long_cond false x y n p q = q

pub long_axis : (axis : List ℕ) (j : Judged) → Fits j.m → Fits j.b → length (axis_line axis j) ≤ length axis + 35
unfolding axis_line All ascii
long_axis axis j p q =
    simp length-append
    (omega (arith, long_cond j.within WITHIN BEYOND 7 refl refl, long_numbers (j.m ∷ j.b ∷ []) (p, (q, tt))))
