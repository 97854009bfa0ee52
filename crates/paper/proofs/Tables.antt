-- A table of worked cases: one equation that is computed over all of it gives each case.
-- Assumes nothing.
use Prim.Native.Nat.{ℕ}
use mathlib.Core.Path.{◌≡◌, sym, ap, ◌∙◌}
use mathlib.Core.List.{List, map}
use lib.ListN.{get_or, get_or-map}

pub each_right : {A B : Type 0} (f g : A → B) (l : List A) (d : A) → map f l ≡ map g l → f d ≡ g d → (k : ℕ) → f (get_or l k d) ≡ g (get_or l k d)
each_right f g l d e h k = sym (get_or-map f l k d) ∙ (ap (λ m. get_or m k (f d)) e ∙ (ap (get_or (map g l) k) h ∙ get_or-map g l k d))
