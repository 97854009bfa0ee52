-- What the reads of a known input have brought so far, and what is held at its end.
-- Assumes nothing.
use Rattle.std.proofs.Common.{◌≡◌, ℕ, ◌+◌, ◌-◌, ◌^◌, ◌<◌, ◌≤◌, min, max, List, [], ◌++◌, length, take, drop, Option, Some, None, refl, sym, ap, subst, ◌∙◌, arith, append-nil, length-append, length-drop, length-take-le, take-add}
use Rattle.std.proofs.KnownBytes.{Consumes-nil, Consumes-trans}
use Rattle.std.specs.Io.KnownBytes.{Consumes, IsAtEnd}
use Rattle.input.specs.Input.{Holds}

-- the bytes that came; len of them are held
pub record Came (before after : Option (List ℕ)) (row : List ℕ) (len turn : ℕ) : Type 0 where
  pub bytes : List ℕ
  pub taken : Consumes before after bytes
  pub count : len ≡ min (length bytes) (length row)
  pub front : length bytes < length row → take (length bytes) row ≡ bytes
  pub turns : turn ≤ length bytes

pub came_none : (a : Option (List ℕ)) (row : List ℕ) → Came a a row 0 0
came_none a row = record { bytes = []; taken = Consumes-nil a; count = omega arith; front = λ _. refl; turns = omega arith }

-- where the next bytes go
module _ (old new : List ℕ) (len from : ℕ) (same : length new ≡ length old) (behind : len < length old → from ≡ len) (kept : take from new ≡ take from old) where
  front_kept : (bs : List ℕ) → len ≡ min (length bs) (length old) → (length bs < length old → take (length bs) old ≡ bs) → length bs < length old → take (length bs) new ≡ bs
  front_kept bs count front h =
      let e : from ≡ length bs = omega arith in
      subst (λ (k : ℕ). take k new ≡ bs) e (kept ∙ (subst (λ (k : ℕ). take k old ≡ bs) (sym e) (front h)))

  -- a read that brought something
  pub came_more : (a b c : Option (List ℕ)) (n turn : ℕ) → from + n ≤ length old → 0 < n → Consumes b c (take n (drop from new)) × (n ≡ 0 → 0 < length (drop from new) → IsAtEnd c)
      → Came a b old len turn → Came a c new (max len (from + n)) (turn + 1)
  came_more a b c n turn fits some brings came =
      let bs = came.bytes in
      let t = take n (drop from new) in
      let lt : length t ≡ n = length-take-le n (drop from new) (rw length-drop (omega arith)) in
      let lb : length (bs ++ t) ≡ length bs + n = length-append bs t ∙ ap (λ (k : ℕ). length bs + k) lt in
      let count = came.count in
      record {
        bytes = bs ++ t;
        taken = Consumes-trans a b c bs t came.taken brings.0;
        count = rw lb (grind arith);
        front = λ h.
            let small : length bs < length old = omega arith in
            let e : from ≡ length bs = omega arith in
            let f : take (length bs) new ≡ bs = front_kept bs count came.front small in
            rw (lb, take-add) (ap (λ (l : List ℕ). l ++ take n (drop (length bs) new)) f ∙ ap (λ (k : ℕ). bs ++ take n (drop k new)) (sym e));
        turns = let u = came.turns in rw lb (omega arith);
      }

  end_of : (a b c : Option (List ℕ)) (turn : ℕ) → from < max 1 (length old) → Consumes b c [] → (0 < length (drop from new) → IsAtEnd c)
      → Came a b old len turn → Holds len a c new
  end_of None b c turn place last end came = tt
  end_of (Some xs) None c turn place last end came = absurd came.taken
  end_of (Some xs) (Some ys) None turn place last end came = absurd last
  end_of (Some xs) (Some ys) (Some zs) turn place last end came =
      let bs = came.bytes in
      let count = came.count in
      let all : xs ≡ bs ++ zs = came.taken ∙ ap (λ (l : List ℕ). bs ++ l) last in
      let lx : length xs ≡ length bs + length zs = ap length all ∙ length-append bs zs in
      let over : 0 < length new → zs ≡ [] = λ h. end (rw length-drop (omega arith)) in
      let none : 0 < length new → length zs ≡ 0 = λ h. ap length (over h) in (
        grind arith,
        λ h.
            let room : 0 < length new = omega arith in
            let z : length zs ≡ 0 = none room in
            let e : len ≡ length bs = omega arith in
            rw e (front_kept bs count came.front (omega arith)) ∙ sym (all ∙ ap (λ (l : List ℕ). bs ++ l) (over room) ∙ append-nil bs),
        λ h _. over h,
      )

  -- a read that brought nothing
  pub holds_at_end : (a b c : Option (List ℕ)) (n turn : ℕ) → from < max 1 (length old) → n ≡ 0 → Consumes b c (take n (drop from new)) × (n ≡ 0 → 0 < length (drop from new) → IsAtEnd c)
      → Came a b old len turn → Holds len a c new
  holds_at_end a b c n turn place z brings came =
      end_of a b c turn place (subst (λ (k : ℕ). Consumes b c (take k (drop from new))) z brings.0) (brings.1 z) came

-- after as many turns as no buffer has bytes
pub holds_at_last : (a b : Option (List ℕ)) (row : List ℕ) (len turn : ℕ) → length row < 2 ^ 64 → 2 ^ 64 - 1 ≤ turn → Came a b row len turn → Holds len a b row
holds_at_last None b row len turn fits last came = tt
holds_at_last (Some xs) None row len turn fits last came = absurd came.taken
holds_at_last (Some xs) (Some ys) row len turn fits last came =
    let bs = came.bytes in
    let count = came.count in
    let turns = came.turns in
    let lx : length xs ≡ length bs + length ys = ap length came.taken ∙ length-append bs ys in
    (omega arith, λ h. absurd (omega arith), λ h k. absurd (omega arith))
