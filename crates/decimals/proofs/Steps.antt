-- The reader of lists, step by step.
-- Assumes nothing.
use Prim.Native.Nat.{ℕ, zero, suc, ◌+◌, ◌-◌, ◌*◌, ◌<◌, ◌≤◌}
use mathlib.Core.Path.{◌≡◌, refl}
use mathlib.Core.List.{List, ◌∷◌}
use native.Mathlib.Numerals.{add-one}
use native.Mathlib.Omega.{arith}
use borrow.Author.Tests.{lt-ltb, le-ltb, lt-leb}
use lib.ListN.{length, drop, get_or}
use lib.Seq.{drop-cons}
use lib.IntN.{pos, neg_ℤ}
use Rattle.std.proofs.lemmas.Grind.{common_steps}
use Rattle.std.proofs.lemmas.Bool.Decides.{nat_tests}
use Rattle.image.specs.Lengths.{ORIGIN, word}
use Rattle.decimals.specs.Numbers.{TWELVE_DIGITS}
use Rattle.decimals.specs.Reader.{Parsed, got, bad, then, stops, run}

-- ---- one reader after another

module _ {A B : Type 0} {p : Parsed A} (k : A → List ℕ → Parsed B) where
  pub then-got : {a : A} {l : List ℕ} → p ≡ got a l → then p k ≡ k a l
  unfolding then
  then-got e = rw e

  pub then_bad : p ≡ bad → then p k ≡ bad
  unfolding then
  then_bad e = rw e

-- ---- at a place of a list, whose byte is b

pub front : (s : List ℕ) (i b : ℕ) (p : i < length s) (e : b ≡ get_or s i 0) → drop i s ≡ b ∷ drop (i + 1) s
front s i b p e = rw (e, add-one, drop-cons s i 0)

-- ---- the byte at the front

pub run_on : (a b : ℕ) (l : List ℕ) → 48 ≤ b → b ≤ 57 → a < TWELVE_DIGITS → run a (b ∷ l) ≡ run (a * 10 + (b - 48)) l
unfolding run stops
run_on a b l h k r = simp (le-ltb b 48 h, le-ltb 57 b k, lt-leb TWELVE_DIGITS a r)

pub run_low : (a b : ℕ) (l : List ℕ) → b < 48 → run a (b ∷ l) ≡ got a (b ∷ l)
unfolding run stops
run_low a b l h = simp (lt-ltb b 48 h)

-- ---- the word of a number, by its sign

pub word_above : (v : ℕ) → word (pos v) ≡ ORIGIN + v
unfolding word
word_above v = omega arith

pub word_below : (v : ℕ) → word (neg_ℤ (pos v)) ≡ ORIGIN - v
unfolding word
word_below zero = refl
word_below (suc v) = refl

-- what the functions that read take
pub ruleset reading = (common_steps, nat_tests, word_above, word_below)
