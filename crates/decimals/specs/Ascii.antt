-- A text as its bytes.
use Rattle.std.specs.Prelude.{ℕ, List, [], ◌∷◌}
use Prim.Native.Char.{code}
use Prim.Native.String.{String, [] as empty, ◌∷◌ as char}

unfoldable pub ascii : String → List ℕ
ascii empty = []
ascii (char c s) = code c ∷ ascii s
