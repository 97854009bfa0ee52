-- Document 01, "The field file": what the program prints.
use Rattle.std.specs.Prelude.{ℕ, cond, List, [], ◌∷◌, ◌++◌, eqb, ℤ, pos}
use Rattle.paper.specs.Refusals.{SUSPECT}
use Rattle.paper.specs.Screening.{Suspect}
use Rattle.paper.specs.Answers.{Value, done, lengths, count, evaluates, same, listed, Answer}
use Rattle.paper.specs.declared.Judged.{Judged}
use Rattle.decimals.specs.Ascii.{ascii}
use Rattle.decimals.specs.Numbers.{line}
use Rattle.verdicts.specs.Text.{verdict_text}

abbrev pub REFUSED : List ℕ
REFUSED = ascii "REFUSED "

-- the number of a refusal, for 11 followed by series, set and quantity
unfoldable pub refusal_numbers : ℕ → Suspect → List ℤ
refusal_numbers n s = cond (eqb n SUSPECT) (pos n ∷ pos s.series ∷ pos s.set ∷ pos s.quantity ∷ []) (pos n ∷ [])

unfoldable pub refusal_text : ℕ → Suspect → List ℕ
refusal_text n s = REFUSED ++ line (refusal_numbers n s)

unfoldable pub report_text : ℕ → Suspect → Judged → Judged → List ℕ
report_text n s xy h = cond (eqb n 0) (verdict_text xy h) (refusal_text n s)

-- the answer of an evaluation; the program asks for no other
unfoldable pub value_text : ℕ → Suspect → Value → List ℕ
value_text n s done = []
value_text n s (lengths v) = []
value_text n s (count k) = []
value_text n s (evaluates e) = report_text n s e.xy e.h
value_text n s (same b) = []
value_text n s (listed l) = []

unfoldable pub report_of : Answer → List ℕ
report_of a = value_text a.refused a.suspect a.value
