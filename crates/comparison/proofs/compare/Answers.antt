-- `comparison::compare` meets its contract. Assumes nothing.
use Rattle.std.proofs.Common.{ap, ◌∙◌}
use Rattle.std.proofs.lemmas.Result.{err_from_is_err_and}
use Rattle.procedure.proofs.Told.{handed_on}
use Rattle.comparison.specs.Comparing.{comparison_told}
use Rattle.comparison.proofs.Comparing.{short-first, short_second, suspect-first, suspect_second, by_sums_lem}
use Rattle.comparison.proofs.compare.Goals as goal

pub returns-in_err-one : goal.returns-in_err-one
returns-in_err-one c = let h = c.in_err-one.ensures in
    let p = err_from_is_err_and c.from_residual.result c.from_residual.ensures.1 in
    let empty = rw h.ok_part at c.full.ensures in
    ap comparison_told (handed_on _ _ _ _ _ h.ok_part h.value p.2 p.1) ∙ short-first _ _ _ _ _ empty

pub returns-in_err-other : goal.returns-in_err-other
returns-in_err-other c = let h = c.in_err-other.ensures in
    let p = err_from_is_err_and c.from_residual-in_err-other.result c.from_residual-in_err-other.ensures.1 in
    let e = rw c.in_ok-one.ensures.ok_part at c.full.ensures in
    let empty = rw h.ok_part at c.full-2.ensures in
    ap comparison_told (handed_on _ _ _ _ _ h.ok_part h.value p.2 p.1) ∙ rw (← e.1, ← e.2) (short_second _ _ _ _ _ e.0 empty)

pub returns-in-Some : goal.returns-in-Some
returns-in-Some c = let e = rw c.in_ok-one.ensures.ok_part at c.full.ensures in
    let f = rw c.in_ok-other.ensures.ok_part at c.full-2.ensures in
    rw (← e.1, ← e.2, ← f.1, ← f.2) (suspect-first _ _ _ _ _ e.0 f.0 _ c.in-Some.ensures)

pub returns-in-Some-first_suspect : goal.returns-in-Some-first_suspect
returns-in-Some-first_suspect c = let e = rw c.in_ok-one.ensures.ok_part at c.full.ensures in
    let f = rw c.in_ok-other.ensures.ok_part at c.full-2.ensures in
    rw (← e.1, ← e.2, ← f.1, ← f.2) (suspect_second _ _ _ _ _ e.0 f.0 c.in_default.ensures _ c.in-Some-first_suspect.ensures)

pub returns-in-None : goal.returns-in-None
returns-in-None c = let e = rw c.in_ok-one.ensures.ok_part at c.full.ensures in
    let f = rw c.in_ok-other.ensures.ok_part at c.full-2.ensures in
    rw (← e.1, ← e.2, ← f.1, ← f.2, c.by_sums.ensures, c.total.ensures.0, c.total-in-None.ensures.0) (by_sums_lem _ _ _ _ _ e.0 f.0 c.in_default.ensures c.in-None.ensures)
