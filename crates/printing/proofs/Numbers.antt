-- A number as std writes it is the number as a field file has it; a line, from a number on.
-- Assumes nothing.
use Rattle.std.proofs.Common.{◌≡◌, ℕ, suc, ◌+◌, ◌-◌, ◌≤◌, length-append, append-nil, List, [], ◌∷◌, ◌++◌, ◌^◌, ◌<◌, length, drop, get_or, ℤ, pos, negsuc, refl, sym, ap, ◌∙◌, FitsSigned, to_z, of_z, arith, add-one, append_assoc, drop-cons, length-drop}
use Rattle.std.proofs.Math.Facts.{to_z-of_z}
use Rattle.std.proofs.Math.ListN.{drop_of_length-le}
use Rattle.std.proofs.lemmas.Fmt.{decimal_by_steps_wide}
use Rattle.std.specs.Fmt.{decimal, signed_decimal}
use Rattle.std.specs.Int.{w128}
use Rattle.decimals.specs.Numbers.{digits, numeral, sep_of, line}
use Rattle.decimals.proofs.Exact.{digits-one, digits_more}

digits_decimal : (n : ℕ) → n < 10 ^ 64 → digits n ≡ decimal n
digits_decimal = decimal_by_steps_wide (λ n ds. digits n ≡ ds) digits-one (λ n ds h e. rw (digits_more n h, e) refl)

numeral_decimal : (z : ℤ) → FitsSigned w128 z → numeral z ≡ signed_decimal z
unfolding numeral
numeral_decimal (pos n) h = digits_decimal n (omega (arith, h.sfits))
numeral_decimal (negsuc n) h = ap (λ (l : List ℕ). 45 ∷ l) (digits_decimal (suc n) (omega (arith, h.sfits)))

-- of a number that was kept in the bits of an i128
pub text_of : (z : ℤ) → FitsSigned w128 z → signed_decimal (to_z w128 (of_z w128 z)) ≡ numeral z
text_of z h = rw (to_z-of_z h) (sym (numeral_decimal z h))

-- `out` is what is written of a line behind `start`: what is left begins with the number at i
module _ (zs : List ℤ) (i : ℕ) (out start : List ℕ) (written : out ++ line (drop i zs) ≡ start ++ line zs) where
  module _ (sep : ℕ) (p : i < length zs) (h : FitsSigned w128 (get_or zs i (pos 0))) (e : sep ≡ sep_of (length zs - i - 1)) where
    abbrev one : List ℕ
    one = numeral (to_z w128 (of_z w128 (get_or zs i (pos 0))))

    next : line (drop i zs) ≡ one ++ sep ∷ [] ++ line (drop (i + 1) zs)
    unfolding line
    next =
        let left : length (drop (suc i) zs) ≡ length zs - i - 1 = length-drop (suc i) zs ∙ omega arith in
        rw (to_z-of_z h, add-one i, drop-cons zs i (pos 0) p, e, left, append_assoc) refl

    pub room_for : (n : ℕ) → length start + length (line zs) ≤ n → length out + length (one ++ sep ∷ []) ≤ n
    room_for n k =
        omega (arith, ap length written, ap length next, length-append out (line (drop i zs)), length-append start (line zs), length-append (one ++ sep ∷ []) (line (drop (i + 1) zs)))

    pub written_on : (last : List ℕ) → last ≡ out ++ one ++ sep ∷ [] → last ++ line (drop (i + 1) zs) ≡ start ++ line zs
    written_on last f = rw (f, ← written, next) (simp append_assoc refl)

  pub line_done : length zs ≤ i → out ≡ start ++ line zs
  unfolding line
  line_done k = sym (append-nil out) ∙ (rw (drop_of_length-le zs k) at written)

-- a number from 0 up, kept so
pub number_of : (z : ℤ) (n : ℕ) → FitsSigned w128 z → z ≡ pos n → to_z w128 (of_z w128 z) ≡ pos n
number_of z n h e = rw (to_z-of_z h) e
