-- `whole::millimetres` meets its contract: m below 2 ^ 53 is a double as it stands, and a quotient is rounded from its fraction. Assumes nothing.
use mathlib.Core.Path.{◌≡◌, refl, ap, ◌∙◌}
use mathlib.Core.Bool.{true, false, true≢false}
use Prim.Native.Nat.{ℕ, ◌*◌, ◌^◌, ◌<◌}
use native.Mathlib.Nat.{mul-pos, le_of_lt}
use native.Mathlib.Omega.{arith}
use lib.Dec.{le→leb, lit<}
use lib.IntN.{pos}
use lib.Ieee.{Float, nan, inf, fin, binary64, round, div, in_float, of_int, of_bits, up, down}
use lib.Ieee.Exact.{HasValue}
use lib.Ieee.Fits.{down_pos}
use lib.Ieee.Back.{round_whole}
use lib.Ieee.Scale.{round_same}
use Rattle.whole.specs.Millimetres.{millimetres_of, exactly}
use Rattle.roots.proofs.millimetres.Goals as goal

-- a double of the value m, divided by 1024, is the fraction m / 1024, rounded
quotient : (x : Float) (m : ℕ) → HasValue x false m 1 → div binary64 x (fin false 1 (pos 10)) ≡ round binary64 false m 1024
unfolding div
quotient nan m h = absurd h
quotient (inf s) m h = absurd h
quotient (fin true k e) m h = absurd (true≢false h.0)
quotient (fin false k e) m h =
    round_same binary64 false (k * up e * 1) (1024 * down e) m 1024 (mul-pos (lit< tt) (down_pos e)) (lit< tt) (omega (arith, h.1))

-- the code's 1024.0
divisor : of_bits binary64 4652218415073722368 ≡ fin false 1 (pos 10)
unfolding of_bits
divisor = refl

-- the code's quotient is the double of the paper, whose value is exactly m / 1024
divided : (m : ℕ) → m < 2 ^ 53 → div binary64 (round binary64 false m 1) (of_bits binary64 4652218415073722368) ≡ millimetres_of m
unfolding millimetres_of
divided m h =
    ap (λ (y : Float). div binary64 (round binary64 false m 1) y) divisor
    ∙ quotient (round binary64 false m 1) m (round_whole binary64 false m (le_of_lt h))

pub int_to_float-result : goal.int_to_float-result
unfolding in_float
int_to_float-result c = le→leb c.args.m (2 ^ 53) (omega arith)

pub returns : goal.returns
unfolding of_int
returns c = let m = c.args.m in
    let e = divided m c.requires in
    (e, rw e (exactly m c.requires))
