-- The kept changes with one more.
-- Assumes nothing.
use mathlib.Core.Path.{◌≡◌}
use mathlib.Core.List.{List, [], ◌∷◌, ◌++◌, append-nil}
use Prim.Native.Nat.{ℕ, ◌-◌}
use lib.ListN.{take}
use Rattle.image.specs.Layout.{CHANGE_WORDS}
use Rattle.changes.specs.Kept.{pushed}

pub pushed-eq : (old l : List ℕ) (p x y h : ℕ) → l ≡ take (CHANGE_WORDS - 4) old → p ∷ x ∷ y ∷ h ∷ (l ++ []) ≡ pushed old p x y h
unfolding pushed
pushed-eq old l p x y h e = rw (append-nil, e)
