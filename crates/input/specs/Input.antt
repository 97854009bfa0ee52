-- Of a reader whose bytes are known, which of them are held.
use Rattle.std.specs.Prelude.{ℕ, ◌-◌, ◌^◌, ◌<◌, ◌≡◌, min, List, length, take, Option, Some, None}
use Rattle.std.specs.Io.KnownBytes.{IsAtEnd}

-- as many bytes are held as the row has room for, those of an input shorter than the row are its bytes, and the input was read to its end,
-- where the row has room at all and the input has fewer bytes than the loop has turns
abbrev pub Holds : ℕ → Option (List ℕ) → Option (List ℕ) → List ℕ → Type 0
Holds n (Some xs) after row =
    (n ≡ min (length xs) (length row)) × (length xs < length row → take n row ≡ xs) × (0 < length row → length xs < 2 ^ 64 - 1 → IsAtEnd after)
Holds n None after row = Unit
