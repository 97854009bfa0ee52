-- The first three refusals of a comparison.
use Rattle.std.specs.Prelude.{ℕ, Bool, cond, ◌&&◌, ◌||◌, eqb, Result, Ok, Err}
use Rattle.paper.specs.Units.{one_to}
use Rattle.procedure.specs.declared.refusal.Refusal.{Refusal}
use Rattle.procedure.specs.declared.refusal.Refusal.TheVariants as is
use Rattle.comparison.specs.declared.axis.Axis.{Axis}
use Rattle.comparison.specs.declared.axis.Axis.TheVariants.{Xy, H}
use Rattle.book.specs.declared.Book.{Book}
use Rattle.book.specs.Meaning.{book_form}

-- the axis with that number, 1 or 2; PLACE for every other
abbrev pub axis_of : ℕ → Result Axis Refusal
axis_of n = cond (one_to 2 n) (Ok (cond (eqb n 1) Xy H)) (Err is.Place)

-- the axis, unless a book is closed
abbrev pub unless_closed : Bool → Result Axis Refusal → Result Axis Refusal
unless_closed closed (Ok axis) = cond closed (Err is.Closed) (Ok axis)
unless_closed closed (Err r) = Err r

-- REGISTER, PLACE or CLOSED, each looked for in both books; the axis where none applies
unfoldable pub axis_met : Book → Book → ℕ → Result Axis Refusal
axis_met a b axis = cond (book_form a && book_form b) (unless_closed (eqb a.opened 0 || eqb b.opened 0) (axis_of axis)) (Err is.Register)
