-- Document 01, "The field file": the text of terms and readings, and which files are of the form.
use Rattle.std.specs.Prelude.{ℕ, suc, ◌+◌, ◌/◌, ◌≤◌, ◌≡◌, List, [], ◌∷◌, ◌++◌, length, take, drop, pos}
use Rattle.std.proofs.Math.Option.{none, some}
use Rattle.rows.specs.Lists.{All}
use Rattle.paper.specs.Procedure.{POINTS, IN_SERIES, PLACES}
use Rattle.paper.specs.Units.{coordinates, Terms, term_list, Spot, Places, in_order, point_of}
use Rattle.decimals.specs.Ascii.{ascii}
use Rattle.decimals.specs.Numbers.{AllShort, line}

-- a file has at most 4,096 bytes
abbrev pub LONGEST : ℕ
LONGEST = 4096

-- ---- the fixed strings

abbrev pub CONTENTS : List ℕ
CONTENTS = ascii "CONTENTS 4\n"

abbrev pub TERMS : List ℕ
TERMS = ascii "TERMS 1\n"

abbrev pub SERIES1 : List ℕ
SERIES1 = ascii "SERIES1 "

abbrev pub SERIES2 : List ℕ
SERIES2 = ascii "SERIES2 "

abbrev pub SERIES3 : List ℕ
SERIES3 = ascii "SERIES3 "

-- ---- the bodies

-- the places of series i
unfoldable pub of_series : ℕ → Places → Places
of_series i l = take IN_SERIES (drop (in_order i 1 1) l)

-- a series line is set, point, x, y, h: that of place k of the series, counted from 0. A missing reading is an absent line
unfoldable pub entry : ℕ → Spot → List ℕ
entry k none = []
entry k (some v) = line (pos (k / POINTS + 1) ∷ pos (point_of k) ∷ coordinates v)

-- lines rise strictly by set, then point: from place k on
unfoldable pub body : ℕ → Places → List ℕ
body k [] = []
body k (v ∷ l) = entry k v ++ body (suc k) l

-- ---- the table of contents

abbrev pub filled : Spot → ℕ
filled none = 0
filled (some v) = 1

-- the number of lines in a body
unfoldable pub lines : Places → ℕ
lines [] = 0
lines (v ∷ l) = filled v + lines l

abbrev pub listed : List ℕ → Places → List ℕ
listed name l = name ++ line (pos (lines l) ∷ [])

-- ---- the file: first the table of contents, then the bodies in its order

unfoldable pub text : Terms → Places → List ℕ
text t l =
    CONTENTS
    ++ TERMS
    ++ listed SERIES1 (of_series 1 l)
    ++ listed SERIES2 (of_series 2 l)
    ++ listed SERIES3 (of_series 3 l)
    ++ line (term_list t)
    ++ body 0 (of_series 1 l)
    ++ body 0 (of_series 2 l)
    ++ body 0 (of_series 3 l)

abbrev pub ShortSpot : Spot → Type 0
ShortSpot none = Unit
ShortSpot (some v) = AllShort (coordinates v)

abbrev pub ShortSpots : Places → Type 0
ShortSpots l = All ShortSpot l

-- what has a text: thirty places, and no number of more than 12 digits
pub record Printable (t : Terms) (l : Places) : Type 0 where
  pub thirty : length l ≡ PLACES
  pub terms : AllShort (term_list t)
  pub places : ShortSpots l

pub record OfForm (bs : List ℕ) (t : Terms) (l : Places) : Type 0 where
  pub is_text : bs ≡ text t l
  pub printable : Printable t l
  pub fits : length bs ≤ LONGEST
