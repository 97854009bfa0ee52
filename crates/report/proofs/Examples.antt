-- Document 01's example and K5, K6, from the bytes of the file to the bytes that are printed, with each refusal that a file can meet, as one table of the definitions.
-- Assumes nothing.
use Prim.Native.Nat.{ℕ}
use mathlib.Core.Path.{◌≡◌, refl}
use mathlib.Core.List.{List, [], ◌∷◌, map}
use lib.ListN.{get_or}
use lib.Ieee.{size, span, climb}
use Rattle.integers.specs.Sigma.{Σℤ, ΣN}
use Rattle.whole.specs.Root.{digits as rootDigits, root_of}
use Rattle.whole.specs.Greatest.{greatest_of}
use Rattle.whole.specs.Nearest.{nearest_of}
use Rattle.paper.specs.Units.{on_earth, within, in_range, in_order, all_near}
use Rattle.paper.specs.Screening.{q, D, distance_off, height_off, passes, suspicious, each, sheet_order, first, first_suspect}
use Rattle.paper.specs.Figures.{offset, S, Q, P, shown, figures}
use Rattle.paper.specs.Verdicts.{bound_xy, bound_h, judged_xy, judged_h, evaluation}
use Rattle.paper.specs.Books.{sight}
use Rattle.paper.specs.TurnedAway.{short, suspect_of, lowest, evaluating, evaluated, questioned}
use Rattle.paper.specs.Answers.{suspect_in, given, beside, says}
use Rattle.paper.specs.Alone.{asked_alone, refused_file, book_of, evaluated_file}
use Rattle.decimals.specs.Ascii.{ascii}
use Rattle.decimals.specs.Numbers.{digits_in, digits, numeral, sep_of, line}
use Rattle.decimals.specs.Reader.{then, fixed, stops, run, nonzero, number, field, ahead, numbers}
use Rattle.paper.proofs.Tables.{each_right}
use Rattle.fieldfile.specs.Reader.{placed, spot, spots, bodies, line_count, count, table, ends, whole, read_of}
use Rattle.fieldfile.proofs.Examples.{paper_file}
use Rattle.axes.specs.Text.{axis_line}
use Rattle.verdicts.specs.Text.{verdict_text}
use Rattle.report.specs.Text.{refusal_numbers, refusal_text, report_text, value_text, report_of}

-- what is printed of a file
unfoldable pub printed : List ℕ → List ℕ
printed file = report_of (evaluated_file (read_of file))

pub record Case : Type 0 where
  pub bytes : List ℕ
  pub prints : List ℕ

infix 60 ◌⇒◌
abbrev ◌⇒◌ : List ℕ → List ℕ → Case
f ⇒ t = record { bytes = f; prints = t }

unfoldable pub cases : List Case
cases =
    (paper_file (ascii "1 1 126 0 133\n") ⇒ ascii "XY WITHIN 2355 2361\nH WITHIN 2486 2488\nPASS\n")
    -- K5, K6
    ∷ (paper_file (ascii "1 1 127 0 133\n") ⇒ ascii "XY BEYOND 2374 2361\nH WITHIN 2486 2488\nFAIL\n")
    ∷ (paper_file (ascii "1 1 126 0 134\n") ⇒ ascii "XY WITHIN 2355 2361\nH BEYOND 2505 2488\nFAIL\n")
    -- K1, K2
    ∷ (paper_file (ascii "1 1 531 0 0\n") ⇒ ascii "REFUSED 11 1 1 1\n")
    ∷ (paper_file (ascii "1 1 0 0 -884\n") ⇒ ascii "REFUSED 11 1 1 2\n")
    -- no reading at all
    ∷ (ascii "CONTENTS 4\nTERMS 1\nSERIES1 0\nSERIES2 0\nSERIES3 0\n100000 0 150 250 20 20 0 0 0 100000 0 0\n" ⇒ ascii "REFUSED 10\n")
    -- no file, a distance of 0, a reading too far
    ∷ ([] ⇒ ascii "REFUSED 14\n")
    ∷ (ascii "CONTENTS 4\nTERMS 1\nSERIES1 1\nSERIES2 0\nSERIES3 0\n0 0 150 250 20 20 0 0 0 100000 0 0\n1 1 100001 0 0\n" ⇒ ascii "REFUSED 4\n")
    ∷ (ascii "CONTENTS 4\nTERMS 1\nSERIES1 1\nSERIES2 0\nSERIES3 0\n100000 0 150 250 20 20 0 0 0 100000 0 0\n1 1 100001 0 0\n" ⇒ ascii "REFUSED 8\n")
    ∷ []

all_right : map (λ (c : Case). printed c.bytes) cases ≡ map (λ (c : Case). c.prints) cases
unfolding cases paper_file printed report_of value_text report_text verdict_text axis_line refusal_text refusal_numbers evaluated_file asked_alone says questioned book_of refused_file ascii digits_in digits numeral sep_of line then fixed stops run nonzero number field ahead numbers placed spot spots bodies line_count count table ends whole read_of size span climb Σℤ ΣN rootDigits root_of greatest_of nearest_of on_earth within in_range in_order all_near q D distance_off height_off passes suspicious each sheet_order first first_suspect offset S Q P shown figures bound_xy bound_h judged_xy judged_h evaluation sight short suspect_of lowest evaluating evaluated suspect_in given beside
all_right = refl

pub case : ℕ → Case
case k = get_or cases k ([] ⇒ printed [])

pub each-case : (k : ℕ) → printed (case k).bytes ≡ (case k).prints
unfolding case
each-case = each_right (λ (c : Case). printed c.bytes) (λ (c : Case). c.prints) cases ([] ⇒ printed []) all_right refl
