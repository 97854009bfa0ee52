-- A reader of lists: what stands at the front, and what is left. proofs/Exact.antt shows that it takes what specs/Numbers.antt writes and nothing else.
use Rattle.std.specs.Prelude.{ℕ, zero, suc, ◌+◌, ◌-◌, ◌*◌, Bool, true, cond, List, [], ◌∷◌, ◌++◌, ltb, leb, eqb, ℤ, pos, neg_ℤ}
use Rattle.decimals.specs.Numbers.{TWELVE_DIGITS, sep_of}

pub data Parsed (A : Type 0) : Type 0 where
  got : A → List ℕ → Parsed A
  bad : Parsed A

-- one reader after another
unfoldable pub then : {A B : Type 0} → Parsed A → (A → List ℕ → Parsed B) → Parsed B
then bad k = bad
then (got a l) k = k a l

-- a fixed string
unfoldable pub fixed : List ℕ → List ℕ → Parsed (Unit {0})
fixed [] l = got tt l
fixed (a ∷ w) [] = bad
fixed (a ∷ w) (b ∷ l) = cond (eqb b a) (fixed w l) bad

-- no digit, or a thirteenth
unfoldable pub stops : ℕ → ℕ → Bool
stops a b = cond (ltb b 48) true (cond (ltb 57 b) true (leb TWELVE_DIGITS a))

-- the digits at the front, after those of a
unfoldable pub run : ℕ → List ℕ → Parsed ℕ
run a [] = got a []
run a (b ∷ l) = cond (stops a b) (got a (b ∷ l)) (run (a * 10 + (b - 48)) l)

-- 1 to 9, and the digits after it
unfoldable pub nonzero : List ℕ → Parsed ℕ
nonzero [] = bad
nonzero (b ∷ l) = cond (ltb b 49) bad (cond (ltb 57 b) bad (run 0 (b ∷ l)))

abbrev pub below : ℕ → List ℕ → Parsed ℤ
below m l = got (neg_ℤ (pos m)) l

abbrev pub above : ℕ → List ℕ → Parsed ℤ
above m l = got (pos m) l

-- 0, or '-' and such digits, or such digits
unfoldable pub number : List ℕ → Parsed ℤ
number [] = bad
number (b ∷ l) = cond (eqb b 48) (got (pos 0) l) (cond (eqb b 45) (then (nonzero l) below) (then (nonzero (b ∷ l)) above))

-- a number and the byte that ends it
unfoldable pub field : ℕ → List ℕ → Parsed ℤ
field sep l = then (number l) (λ z r. then (fixed (sep ∷ []) r) (λ u t. got z t))

-- what was read before goes in front
unfoldable pub ahead : {A : Type 0} → List A → Parsed (List A) → Parsed (List A)
ahead xs p = then p (λ ys r. got (xs ++ ys) r)

-- a line of n numbers
unfoldable pub numbers : ℕ → List ℕ → Parsed (List ℤ)
numbers zero l = got [] l
numbers (suc n) l = then (field (sep_of n) l) (λ z r. ahead (z ∷ []) (numbers n r))
