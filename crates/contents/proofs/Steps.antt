-- The reader of files, as the code goes.
-- Assumes nothing.
use Rattle.std.proofs.Common.{◌≡◌, ◌≤◌, ◌≢◌, List, [], ◌∷◌, ℕ, ℤ, map, length, get_or, Some, None, refl, ap, arith}
use Rattle.paper.specs.Units.{terms_from}
use Rattle.image.specs.Lengths.{word, term_words}
use Rattle.image.specs.Places.{cells_of}
use Rattle.decimals.specs.Reader.{got, numbers, then}
use Rattle.decimals.specs.Given.{read_as}
use Rattle.decimals.proofs.Steps.{reading}
use Rattle.decimals.proofs.Exact.{numbers-only}
use Rattle.fieldfile.specs.Form.{LONGEST}
use Rattle.fieldfile.specs.Reader.{table, bodies, ends, whole, read_of}
use Rattle.fieldfile.proofs.Lists.{terms_from_lem}
use Rattle.table.specs.Given.{three_counts}
use Rattle.contents.specs.Given.{contents_of}

-- a line of twelve numbers is the terms
line_terms : (l r : List ℕ) (zs : List ℤ) → numbers 12 l ≡ got zs r → term_words (terms_from zs) ≡ map word zs
line_terms l r zs e = ap (map word) (terms_from_lem zs (numbers-only 12 l e).1)

-- the table, the terms and the bodies, and then the end of the file or more
module _ (s r t ns ts cells : List ℕ) (h : length s ≤ LONGEST) (e : Some (ns, r) ≡ read_as three_counts (table s)) (f : Some (ts, t) ≡ read_as (map word) (numbers 12 r)) where
  pub file_end : (u : List ℕ) → Some (cells, u) ≡ read_as cells_of (bodies (get_or ns 0 0) (get_or ns 1 0) (get_or ns 2 0) t)
      → length u ≡ 0 → Some (record { terms = ts; cells = cells }) ≡ contents_of (read_of s)
  unfolding contents_of read_of whole then ends
  file_end [] g z = grind (arith, reading, line_terms)
  file_end (b ∷ u) g z = absurd (omega arith)

  pub file_more : (u : List ℕ) → Some (cells, u) ≡ read_as cells_of (bodies (get_or ns 0 0) (get_or ns 1 0) (get_or ns 2 0) t)
      → length u ≢ 0 → None ≡ contents_of (read_of s)
  unfolding contents_of read_of whole then ends
  file_more [] g z = absurd (z refl)
  file_more (b ∷ u) g z = grind (arith, reading)
