-- The answer to the check of the form.
use Rattle.std.specs.Prelude.{ℕ, cond, List}
use Rattle.paper.specs.Refusals.{REGISTER}
use Rattle.lent.specs.Image.{in_form}

-- REGISTER exactly when the bytes are not in form
abbrev pub checked : List ℕ → ℕ
checked bs = cond (in_form bs) 0 REGISTER
