-- The answer to a comparison as the record of the boundary.
use Rattle.std.specs.Prelude.{ℕ, Bool, true, false}
use Rattle.paper.specs.Answers.{Answer}
use Rattle.procedure.specs.declared.refusal.Named.{Named}
use Rattle.comparison.specs.Comparing.{same_in}
use Rattle.judges.specs.declared.Comparison.{Comparison}

-- 1 the same, 0 not
abbrev pub bit : Bool → ℕ
bit true = 1
bit false = 0

unfoldable pub comparison_of : Answer → Comparison
comparison_of a =
    record {
      refusal = a.refused;
      series = a.suspect.series;
      set = a.suspect.set;
      quantity = a.suspect.quantity;
      same = bit (same_in a.value);
    }

-- of a refusal number, what it names, and whether they are the same
abbrev pub comparison_by : ℕ → Named → Bool → Comparison
comparison_by n s b = record { refusal = n; series = s.series; set = s.set; quantity = s.quantity; same = bit b }
