-- How long a number is, and a line of numbers.
-- Assumes nothing.
use Prim.Native.Nat.{ℕ, zero, suc, ◌+◌, ◌*◌, ◌/◌, ◌^◌, ◌<◌, ◌≤◌}
use mathlib.Core.Path.{◌≡◌, refl, ◌∙◌, ap}
use mathlib.Core.List.{List, [], ◌∷◌}
use mathlib.Core.Bool.{Bool, true, false}
use native.Mathlib.Omega.{arith}
use native.Mathlib.Nat.{pow-suc, mul_comm}
use lib.Dec.{ltb}
use borrow.Author.Tests.{ltb-true, ltb-false}
use lib.ListN.{length, length-append}
use lib.IntN.{ℤ, pos, negsuc}
use Rattle.rows.specs.Lists.{All}
use Rattle.decimals.specs.Numbers.{digits, numeral, Short, AllShort, sep_of, line}
use Rattle.decimals.proofs.Exact.{digits-one, digits_more}

pub long_one : (m : ℕ) → m < 10 → length (digits m) ≡ 1
long_one m h = rw (digits-one m h)

pub long_more : (m : ℕ) → 10 ≤ m → length (digits m) ≡ length (digits (m / 10)) + 1
long_more m h = ap length (digits_more m h) ∙ length-append (digits (m / 10)) _

-- a number below 10 ^ (n + 1) has at most n + 1 digits
pub long_most : (n m : ℕ) → m < 10 ^ suc n → length (digits m) ≤ suc n
long_most zero m h = omega (arith, long_one m (omega arith))
long_most (suc n) m h =
    go (ltb m 10) refl (λ p. long_most n (m / 10) (let e : 10 ^ suc (suc n) ≡ 10 * 10 ^ suc n = pow-suc 10 (suc n) ∙ mul_comm (10 ^ suc n) 10 in omega arith))
  where
    go : (b : Bool) → ltb m 10 ≡ b → (10 ≤ m → length (digits (m / 10)) ≤ suc n) → length (digits m) ≤ suc (suc n)
    go true e ih = omega (arith, long_one m (ltb-true m 10 e))
    go false e ih = let p = ltb-false m 10 e in omega (arith, long_more m p, ih p)

-- a number of a line, with its sign and what follows it, takes at most 14 bytes
pub long_line : (zs : List ℤ) → AllShort zs → length (line zs) ≤ 14 * length zs
unfolding All line numeral
long_line [] h = omega arith
long_line (z ∷ zs) h = omega (arith, length-append (numeral z) (sep_of (length zs) ∷ line zs), number z h.0, long_line zs h.1)
  where
    number : (z : ℤ) → Short z → length (numeral z) ≤ 13
    number (pos n) h = omega (arith, long_most 11 n h)
    number (negsuc n) h = omega (arith, long_most 11 (suc n) h)
