-- A text appended in pieces: the room for each, and what all of them make.
-- Assumes nothing.
use Rattle.std.proofs.Common.{◌≡◌, ℕ, ◌+◌, ◌≤◌, List, ◌++◌, length, ap, arith, length-append, append_assoc, refl}

-- two pieces
module _ (out x y : List ℕ) (n : ℕ) (h : length out + length (x ++ y) ≤ n) where
  pub room_first : length out + length x ≤ n
  room_first = omega (arith, length-append x y)

  module _ (mid : List ℕ) (p : mid ≡ out ++ x) where
    pub room_second : length mid + length y ≤ n
    room_second = omega (arith, length-append x y, length-append out x, ap length p)

    pub both : (last : List ℕ) → last ≡ mid ++ y → last ≡ out ++ (x ++ y)
    both last q = rw (q, p, append_assoc) refl
