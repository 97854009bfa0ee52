-- What the code hands on of what the reader of lists gives: a value, and the text that is left.
use Rattle.std.specs.Prelude.{ℕ, List, Option, Some, None, option_map}
use Rattle.std.specs.Borrow.{Bor}
use Rattle.decimals.specs.Reader.{Parsed, got, bad}

-- what a function read, with the text behind the reference
abbrev pub read_view : {V : Type 0} → Option (V × Bor (List ℕ)) → Option (V × List ℕ)
read_view r = option_map (λ p. (p.0, p.1.now)) r

-- what the reader gives, its value in words as f writes it; none where nothing of the form stands at the front
abbrev pub read_as : {A V : Type 0} → (A → V) → Parsed A → Option (V × List ℕ)
read_as f bad = None
read_as f (got a l) = Some (f a, l)

-- the text that is left alone
abbrev pub rest_of : {A : Type 0} → Parsed A → Option (List ℕ)
rest_of bad = None
rest_of (got a l) = Some l
