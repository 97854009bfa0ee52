-- Worked examples of the field file, as one table: what the reader of files gives for each. By proofs/Agreement.antt a file that gives something is the text of it, and one that gives nothing is no text.
-- Assumes nothing.
use Prim.Native.Nat.{ℕ, zero, suc}
use mathlib.Core.Path.{◌≡◌, refl}
use mathlib.Core.Option.{Option, none, some}
use mathlib.Core.List.{List, [], ◌∷◌, ◌++◌, map}
use lib.ListN.{get_or, replicate}
use lib.IntN.{ℤ, pos, negsuc}
use Rattle.paper.specs.Units.{Triple, Terms, Places, zeros}
use Rattle.decimals.specs.Ascii.{ascii}
use Rattle.decimals.specs.Numbers.{sep_of}
use Rattle.decimals.specs.Reader.{then, fixed, stops, run, nonzero, number, field, ahead, numbers}
use Rattle.paper.proofs.Tables.{each_right}
use Rattle.fieldfile.specs.Reader.{placed, spot, spots, bodies, line_count, count, table, ends, whole, read_of}

pub record Case : Type 0 where
  pub file : List ℕ
  pub holds : Option (Terms × Places)

infix 60 ◌⇒◌
abbrev ◌⇒◌ : List ℕ → Option (Terms × Places) → Case
f ⇒ c = record { file = f; holds = c }

triple : ℤ → ℤ → ℤ → Triple
triple a b c = record { x = a; y = b; h = c }

-- ---- the file of document 01

-- sets 2 to 5 of a series, and a series that is read where it is said to be
later : List ℕ
later = ascii "2 1 0 0 0\n2 2 100000 0 0\n3 1 0 0 0\n3 2 100000 0 0\n4 1 0 0 0\n4 2 100000 0 0\n5 1 0 0 0\n5 2 100000 0 0\n"

series : List ℕ
unfolding later
series = ascii "1 1 0 0 0\n1 2 100000 0 0\n" ++ later

-- the file, whose first line of SERIES1 is l
unfoldable pub paper_file : List ℕ → List ℕ
unfolding later series
paper_file l =
    ascii "CONTENTS 4\nTERMS 1\nSERIES1 10\nSERIES2 10\nSERIES3 10\n100000 0 150 250 20 20 0 0 0 100000 0 0\n"
    ++ l
    ++ ascii "1 2 100000 0 0\n"
    ++ later
    ++ series
    ++ series

paper_terms : Terms
unfolding triple
paper_terms =
    record {
      distance = pos 100000;
      height = pos 0;
      screen_xy = pos 150;
      screen_h = pos 250;
      sigma_xy = pos 20;
      sigma_h = pos 20;
      point1 = zeros;
      point2 = triple (pos 100000) (pos 0) (pos 0);
    }

-- n sets in which the points are read where they are said to be
sets : ℕ → Places
unfolding triple
sets zero = []
sets (suc n) = some zeros ∷ some (triple (pos 100000) (pos 0) (pos 0)) ∷ sets n

paper_places : Places
unfolding triple sets
paper_places = some (triple (pos 126) (pos 0) (pos 133)) ∷ some (triple (pos 100000) (pos 0) (pos 0)) ∷ sets 14

-- ---- a small file: one reading, at set 2, point 1 of series 1

small-terms : Terms
unfolding triple
small-terms =
    record {
      distance = pos 1;
      height = negsuc 1;
      screen_xy = pos 3;
      screen_h = pos 4;
      sigma_xy = pos 5;
      sigma_h = pos 6;
      point1 = triple (pos 7) (pos 0) (negsuc 8);
      point2 = triple (pos 10) (negsuc 999_999_999_998) (pos 999_999_999_999);
    }

small-places : Places
unfolding triple
small-places = none ∷ none ∷ some (triple (pos 7) (negsuc 7) (pos 9)) ∷ replicate 27 none

-- ---- the table

unfoldable pub files : List Case
unfolding paper_file paper_terms paper_places small-terms small-places
files =
    (paper_file (ascii "1 1 126 0 133\n") ⇒ some (paper_terms, paper_places))
    ∷ (ascii "CONTENTS 4\nTERMS 1\nSERIES1 1\nSERIES2 0\nSERIES3 0\n1 -2 3 4 5 6 7 0 -9 10 -999999999999 999999999999\n2 1 7 -8 9\n" ⇒ some (small-terms, small-places))
    -- no reading at all
    ∷ (ascii "CONTENTS 4\nTERMS 1\nSERIES1 0\nSERIES2 0\nSERIES3 0\n1 -2 3 4 5 6 7 0 -9 10 -999999999999 999999999999\n" ⇒ some (small-terms, replicate 30 none))
    -- an empty file; no final LF; CR before LF; a byte, and a line, after the last line
    ∷ ([] ⇒ none)
    ∷ (ascii "CONTENTS 4\nTERMS 1\nSERIES1 1\nSERIES2 0\nSERIES3 0\n1 2 3 4 5 6 7 8 9 10 11 12\n2 1 7 -8 9" ⇒ none)
    ∷ (ascii "CONTENTS 4\r\nTERMS 1\r\nSERIES1 0\r\nSERIES2 0\r\nSERIES3 0\r\n1 2 3 4 5 6 7 8 9 10 11 12\r\n" ⇒ none)
    ∷ (ascii "CONTENTS 4\nTERMS 1\nSERIES1 0\nSERIES2 0\nSERIES3 0\n1 2 3 4 5 6 7 8 9 10 11 12\r\n" ⇒ none)
    ∷ (ascii "CONTENTS 4\nTERMS 1\nSERIES1 1\nSERIES2 0\nSERIES3 0\n1 2 3 4 5 6 7 8 9 10 11 12\n2 1 7 -8 9\n " ⇒ none)
    ∷ (ascii "CONTENTS 4\nTERMS 1\nSERIES1 1\nSERIES2 0\nSERIES3 0\n1 2 3 4 5 6 7 8 9 10 11 12\n2 1 7 -8 9\n\n" ⇒ none)
    -- two spaces, a space at the start, at the end; a comma
    ∷ (ascii "CONTENTS 4\nTERMS 1\nSERIES1 1\nSERIES2 0\nSERIES3 0\n1 2 3 4 5 6 7 8 9 10 11 12\n2 1 7  -8 9\n" ⇒ none)
    ∷ (ascii "CONTENTS 4\nTERMS 1\nSERIES1 1\nSERIES2 0\nSERIES3 0\n 1 2 3 4 5 6 7 8 9 10 11 12\n2 1 7 -8 9\n" ⇒ none)
    ∷ (ascii "CONTENTS 4\nTERMS 1\nSERIES1 1\nSERIES2 0\nSERIES3 0\n1 2 3 4 5 6 7 8 9 10 11 12 \n2 1 7 -8 9\n" ⇒ none)
    ∷ (ascii "CONTENTS 4\nTERMS 1\nSERIES1 1\nSERIES2 0\nSERIES3 0\n1 2 3 4 5 6 7 8 9 10 11 12\n2 1 7,-8 9\n" ⇒ none)
    -- a leading zero, also in a count; -0; a plus; 13 digits
    ∷ (ascii "CONTENTS 4\nTERMS 1\nSERIES1 1\nSERIES2 0\nSERIES3 0\n1 2 3 4 5 6 7 8 9 10 11 12\n2 1 07 -8 9\n" ⇒ none)
    ∷ (ascii "CONTENTS 4\nTERMS 1\nSERIES1 01\nSERIES2 0\nSERIES3 0\n1 2 3 4 5 6 7 8 9 10 11 12\n2 1 7 -8 9\n" ⇒ none)
    ∷ (ascii "CONTENTS 4\nTERMS 1\nSERIES1 1\nSERIES2 0\nSERIES3 0\n1 2 3 4 5 6 7 8 9 10 11 12\n2 1 7 -0 9\n" ⇒ none)
    ∷ (ascii "CONTENTS 4\nTERMS 1\nSERIES1 1\nSERIES2 0\nSERIES3 0\n1 2 3 4 5 6 7 8 9 10 11 12\n2 1 7 +8 9\n" ⇒ none)
    ∷ (ascii "CONTENTS 4\nTERMS 1\nSERIES1 1\nSERIES2 0\nSERIES3 0\n1 2 3 4 5 6 7 8 9 10 11 12\n2 1 7 -8 1000000000000\n" ⇒ none)
    -- lines out of order, by set and by point; a line twice
    ∷ (ascii "CONTENTS 4\nTERMS 1\nSERIES1 2\nSERIES2 0\nSERIES3 0\n1 2 3 4 5 6 7 8 9 10 11 12\n2 1 7 -8 9\n1 1 7 -8 9\n" ⇒ none)
    ∷ (ascii "CONTENTS 4\nTERMS 1\nSERIES1 2\nSERIES2 0\nSERIES3 0\n1 2 3 4 5 6 7 8 9 10 11 12\n2 2 7 -8 9\n2 1 7 -8 9\n" ⇒ none)
    ∷ (ascii "CONTENTS 4\nTERMS 1\nSERIES1 2\nSERIES2 0\nSERIES3 0\n1 2 3 4 5 6 7 8 9 10 11 12\n2 1 7 -8 9\n2 1 7 -8 9\n" ⇒ none)
    -- counts that lie: one too few, one too many, in another series
    ∷ (ascii "CONTENTS 4\nTERMS 1\nSERIES1 0\nSERIES2 0\nSERIES3 0\n1 2 3 4 5 6 7 8 9 10 11 12\n2 1 7 -8 9\n" ⇒ none)
    ∷ (ascii "CONTENTS 4\nTERMS 1\nSERIES1 2\nSERIES2 0\nSERIES3 0\n1 2 3 4 5 6 7 8 9 10 11 12\n2 1 7 -8 9\n" ⇒ none)
    ∷ (ascii "CONTENTS 4\nTERMS 1\nSERIES1 1\nSERIES2 1\nSERIES3 0\n1 2 3 4 5 6 7 8 9 10 11 12\n2 1 7 -8 9\n" ⇒ none)
    ∷ (ascii "CONTENTS 4\nTERMS 1\nSERIES1 11\nSERIES2 0\nSERIES3 0\n1 2 3 4 5 6 7 8 9 10 11 12\n2 1 7 -8 9\n" ⇒ none)
    -- no such place; a reading, and a term, too few and too many
    ∷ (ascii "CONTENTS 4\nTERMS 1\nSERIES1 1\nSERIES2 0\nSERIES3 0\n1 2 3 4 5 6 7 8 9 10 11 12\n6 1 7 -8 9\n" ⇒ none)
    ∷ (ascii "CONTENTS 4\nTERMS 1\nSERIES1 1\nSERIES2 0\nSERIES3 0\n1 2 3 4 5 6 7 8 9 10 11 12\n2 3 7 -8 9\n" ⇒ none)
    ∷ (ascii "CONTENTS 4\nTERMS 1\nSERIES1 1\nSERIES2 0\nSERIES3 0\n1 2 3 4 5 6 7 8 9 10 11 12\n2 1 7 -8\n" ⇒ none)
    ∷ (ascii "CONTENTS 4\nTERMS 1\nSERIES1 1\nSERIES2 0\nSERIES3 0\n1 2 3 4 5 6 7 8 9 10 11 12\n2 1 7 -8 9 10\n" ⇒ none)
    ∷ (ascii "CONTENTS 4\nTERMS 1\nSERIES1 0\nSERIES2 0\nSERIES3 0\n1 2 3 4 5 6 7 8 9 10 11\n" ⇒ none)
    ∷ (ascii "CONTENTS 4\nTERMS 1\nSERIES1 0\nSERIES2 0\nSERIES3 0\n1 2 3 4 5 6 7 8 9 10 11 12 13\n" ⇒ none)
    -- another table of contents
    ∷ (ascii "CONTENTS 5\nTERMS 1\nSERIES1 0\nSERIES2 0\nSERIES3 0\n1 2 3 4 5 6 7 8 9 10 11 12\n" ⇒ none)
    ∷ (ascii "CONTENTS 4\nTERMS 1\nSERIES2 0\nSERIES1 0\nSERIES3 0\n1 2 3 4 5 6 7 8 9 10 11 12\n" ⇒ none)
    ∷ []

-- ---- one test, and the law that turns it into each case

all_right : map (λ (c : Case). read_of c.file) files ≡ map (λ (c : Case). c.holds) files
unfolding files paper_file later series paper_terms paper_places sets small-terms small-places triple ascii sep_of then fixed stops run nonzero number field ahead numbers placed spot spots bodies line_count count table ends whole read_of
all_right = refl

pub case : ℕ → Case
case k = get_or files k ([] ⇒ read_of [])

pub each-case : (k : ℕ) → read_of (case k).file ≡ (case k).holds
unfolding case
each-case = each_right (λ (c : Case). read_of c.file) (λ (c : Case). c.holds) files ([] ⇒ read_of []) all_right refl
