-- `numbers::word_of`: by whether the number is a length.
-- Assumes nothing.
use mathlib.Core.Path.{◌≡◌, refl, sym, ◌∙◌}
use mathlib.Core.Bool.{Bool, true, false, ◌&&◌}
use native.Mathlib.Omega.{arith}
use Prim.Native.Nat.{◌≤◌}
use mir.Syntax.{w64}
use lib.IntN.{ℤ, pos, negsuc, nat_abs}
use lib.Signed.{◌<ℤ◌, ◌≤ℤ◌}
use Rattle.std.specs.Ordering.{MatchOrdering, int_cmp, is_le}
use Rattle.std.proofs.lemmas.Cmp.{int_ranked}
use Rattle.std.proofs.lemmas.Int.{to_z-of_z, ints}
use Rattle.std.specs.declared.cmp.Ordering.{Ordering}
use Rattle.std.specs.declared.cmp.Ordering.TheVariants.{Less, Equal, Greater}
use Rattle.integers.specs.Diff.{abs-le, abs-below, abs-above}
use Rattle.integers.specs.Machine.{up_reads}
use Rattle.image.specs.Lengths.{ORIGIN, GREATEST, word, word_or}
use Rattle.image.proofs.Lengths.{word_or-word, word_or-far}
use Rattle.numbers.proofs.word_of.Goals as goal
use Rattle.numbers.proofs.word_of.Goals.{Then-contains}

module _ (a b : ℤ) where
  yes : (r : Ordering) → MatchOrdering r (a <ℤ b) (a ≡ b) (b <ℤ a) → is_le r ≡ true → a ≤ℤ b
  yes Less h e = omega (arith, ints)
  yes Equal h e = omega (arith, ints)
  yes Greater h e = cc

  not_above : is_le (int_cmp a b) ≡ true → a ≤ℤ b
  not_above e = yes (int_cmp a b) (int_ranked a b _ refl) e

  no : (r : Ordering) → MatchOrdering r (a <ℤ b) (a ≡ b) (b <ℤ a) → is_le r ≡ false → b <ℤ a
  no Less h e = cc
  no Equal h e = cc
  no Greater h e = h

  above : is_le (int_cmp a b) ≡ false → b <ℤ a
  above e = no (int_cmp a b) (int_ranked a b _ refl) e

outside : (x : ℤ) → false ≡ is_le (int_cmp (negsuc 999999999998) x) && is_le (int_cmp x (pos GREATEST)) → 0 ≡ word_or x
outside x e = go (is_le (int_cmp (negsuc 999999999998) x)) refl e
  where
    go : (low : Bool) → is_le (int_cmp (negsuc 999999999998) x) ≡ low → false ≡ low && is_le (int_cmp x (pos GREATEST)) → 0 ≡ word_or x
    go false l e = let h = abs-below 999999999998 x (above _ _ l) in sym (word_or-far x (omega arith))
    go true l e = let h = abs-above GREATEST x (above _ _ (sym e)) in sym (word_or-far x (omega arith))

pub returns-then-contains : goal.returns-then-contains
unfolding word
returns-then-contains c =
    let e = to_z-of_z w64 _ c.ranges.x in
    let at = c.if-contains.ensures.cases in
    let low = not_above _ _ (rw (c.new.ensures.start, e) at at.0) in
    let high = not_above _ _ (rw (c.new.ensures.end, e) at at.1) in
    let near : nat_abs c.args.x ≤ GREATEST = abs-le 999999999998 c.args.x low high in
    up_reads c.args.x GREATEST ORIGIN c.ranges.x near (omega arith) (omega arith) ∙ sym (word_or-word c.args.x (omega arith))

pub returns-else-contains : goal.returns-else-contains
returns-else-contains c =
    outside c.args.x (rw (c.new.ensures.start, c.new.ensures.end, c.new.ensures.exhausted, to_z-of_z w64 _ c.ranges.x) at c.if-contains.ensures.value)
