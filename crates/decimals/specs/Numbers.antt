-- Document 01, "The field file": a number, and a line of numbers.
use Rattle.std.specs.Prelude.{ℕ, zero, suc, ◌+◌, ◌/◌, ◌%◌, ◌<◌, true, false, List, [], ◌∷◌, ◌++◌, length, ltb, ℤ, pos, negsuc, nat_abs}
use Rattle.rows.specs.Lists.{All}

-- the decimal digits of n, at most k of them; '0' is 48
unfoldable pub digits_in : ℕ → ℕ → List ℕ
digits_in zero n = []
digits_in (suc k) n = elim (ltb n 10) [ true ↦ (48 + n) ∷ [] | false ↦ digits_in k (n / 10) ++ (48 + n % 10) ∷ [] ]

-- all of them: n has no more than n + 1
unfoldable pub digits : ℕ → List ℕ
digits n = digits_in (suc n) n

-- a leading '-' if negative; no leading zero except in 0 itself, and no -0
unfoldable pub numeral : ℤ → List ℕ
numeral (pos n) = digits n
numeral (negsuc n) = 45 ∷ digits (suc n)

-- the least numbers of 12 digits, and of 13
abbrev pub TWELVE_DIGITS : ℕ
TWELVE_DIGITS = 100_000_000_000

abbrev pub THIRTEEN_DIGITS : ℕ
THIRTEEN_DIGITS = 1_000_000_000_000

-- a number has 1 to 12 digits
abbrev pub Short : ℤ → Type 0
Short z = nat_abs z < THIRTEEN_DIGITS

abbrev pub AllShort : List ℤ → Type 0
AllShort zs = All Short zs

-- what follows a number of a line where n more are to come: LF after the last, one space between
unfoldable pub sep_of : ℕ → ℕ
sep_of zero = 10
sep_of (suc n) = 32

unfoldable pub line : List ℤ → List ℕ
line [] = []
line (z ∷ zs) = numeral z ++ sep_of (length zs) ∷ line zs
