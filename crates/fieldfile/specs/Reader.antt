-- A reader of files. proofs/Agreement.antt shows that it takes the files of the form, each with its terms and readings, and no others.
use Rattle.std.specs.Prelude.{ℕ, zero, suc, ◌+◌, ◌/◌, ◌%◌, cond, List, [], ◌∷◌, ◌++◌, length, get_or, leb, ℤ, pos, negsuc}
use Rattle.std.proofs.Math.Option.{Option, none, some}
use Rattle.paper.specs.Procedure.{POINTS, IN_SERIES}
use Rattle.paper.specs.Units.{Triple, Terms, terms_from, Spot, Places}
use Rattle.decimals.specs.Reader.{Parsed, got, bad, then, fixed, field, ahead, numbers}
use Rattle.fieldfile.specs.Form.{LONGEST, CONTENTS, TERMS, SERIES1, SERIES2, SERIES3}

-- ---- a series

-- the set and the point of place k, each with its space: "1 1 " for place 0, "5 2 " for place 9
abbrev pub tag : ℕ → List ℕ
tag k = (49 + k / POINTS) ∷ 32 ∷ (49 + k % POINTS) ∷ 32 ∷ []

abbrev pub triple_from : List ℤ → Triple
triple_from zs = record { x = get_or zs 0 (pos 0); y = get_or zs 1 (pos 0); h = get_or zs 2 (pos 0) }

-- a line that starts with the tag is the place's; any other leaves it empty
unfoldable pub placed : ℕ → List ℕ → Parsed (Unit {0}) → Parsed (Spot × ℕ)
placed left l bad = got (none, suc left) l
placed left l (got u r) = then (numbers 3 r) (λ v t. got (some (triple_from v), left) t)

-- of place k, where so many lines are left: what stands there, and how many lines are left then
unfoldable pub spot : (k left : ℕ) → List ℕ → Parsed (Spot × ℕ)
spot k zero l = got (none, 0) l
spot k (suc left) l = placed left l (fixed (tag k) l)

-- n places from place k on
unfoldable pub spots : (n k left : ℕ) → List ℕ → Parsed Places
spots zero k zero l = got [] l
spots zero k (suc left) l = bad
spots (suc n) k left l = then (spot k left l) (λ v r. ahead (v.0 ∷ []) (spots n (suc k) v.1 r))

-- a body of so many lines
abbrev pub series : ℕ → List ℕ → Parsed Places
series count l = spots IN_SERIES 0 count l

unfoldable pub bodies : (a b c : ℕ) → List ℕ → Parsed Places
bodies a b c l = then (series a l) (λ xs r. then (series b r) (λ ys t. then (series c t) (λ zs u. got (xs ++ (ys ++ zs)) u)))

-- ---- the table of contents

-- a number of lines
unfoldable pub line_count : ℤ → List ℕ → Parsed ℕ
line_count (pos n) l = cond (leb n IN_SERIES) (got n l) bad
line_count (negsuc n) l = bad

unfoldable pub count : List ℕ → List ℕ → Parsed ℕ
count name l = then (fixed name l) (λ u r. then (field 10 r) line_count)

unfoldable pub table : List ℕ → Parsed (ℕ × ℕ × ℕ)
table l =
    then (fixed CONTENTS l) (λ u r. then (fixed TERMS r) (λ u t.
    then (count SERIES1 t) (λ a v. then (count SERIES2 v) (λ b w. then (count SERIES3 w) (λ c m. got (a, b, c) m)))))

-- ---- the file

-- nothing follows the last line
unfoldable pub ends : {A : Type 0} → A → List ℕ → Parsed A
ends a [] = got a []
ends a (b ∷ l) = bad

unfoldable pub whole : List ℕ → Parsed (Terms × Places)
whole l =
    then (table l) (λ n r. then (numbers 12 r) (λ ts t. then (bodies n.0 n.1 n.2 t) (λ ps u. ends (terms_from ts, ps) u)))

abbrev pub taken : {A : Type 0} → Parsed A → Option A
taken bad = none
taken (got a l) = some a

-- what a file holds; none where it is not of the form
unfoldable pub read_of : List ℕ → Option (Terms × Places)
read_of bs = cond (leb (length bs) LONGEST) (taken (whole bs)) none
