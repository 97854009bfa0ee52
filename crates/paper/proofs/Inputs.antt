-- What the tables of worked cases put in, and what the definitions compute from it, as numbers.
-- Assumes nothing.
use Prim.Native.Nat.{ℕ, suc}
use mathlib.Core.Path.{◌≡◌, refl}
use mathlib.Core.Bool.{Bool, true, false, cond, ◌&&◌}
use mathlib.Core.Option.{Option, none, some}
use mathlib.Core.List.{List, [], ◌∷◌, ◌++◌, map}
use lib.ListN.{length, get_or, set, replicate}
use lib.Dec.{eqb}
use lib.IntN.{ℤ, pos, negsuc, neg_ℤ}
use lib.Ieee.{size, span, climb}
use Rattle.integers.specs.Sigma.{Σℤ, ΣN}
use Rattle.whole.specs.Root.{digits, root_of}
use Rattle.whole.specs.Greatest.{greatest_of}
use Rattle.whole.specs.Nearest.{nearest_of}
use Rattle.paper.specs.Procedure.{SERIES, SETS, POINTS, PLACES}
use Rattle.paper.specs.Units.{Triple, zeros, Terms, terms_from, on_earth, within, in_range, near, Place, in_sheet, in_order, all_near, Places}
use Rattle.paper.specs.Screening.{q, D, distance_off, height_off, passes, Suspect, suspicious, each, sheet_order, first, first_suspect}
use Rattle.paper.specs.Figures.{x-axis, offset, S, Q, residual15, P, shown, figures}
use Rattle.paper.specs.Verdicts.{bound_xy, bound_h, judged_xy, judged_h, evaluation, sum, same_population}
use Rattle.paper.specs.declared.Judged.{Judged}
use Rattle.paper.specs.declared.Shown.{Shown}
use Rattle.paper.specs.Books.{Book, Register, make, inverse, nothing, blank, changed, undone, closed, sight, sights}
use Rattle.paper.specs.Calls.{Act, begin, enter, Question, Call, on, effect, affected}
use Rattle.paper.specs.TurnedAway.{empty, far, nothing_kept, short, suspect_of, sum_of, lowest, rules, evaluating, refusal, evaluated, on_list, passing, questioned}
use Rattle.paper.specs.Answers.{Value, done, lengths, count, evaluates, same, listed, Answer, suspect_in, given, beside, says, after, run}
use Rattle.paper.specs.Alone.{refused_alone, next, asked_alone, compared_alone, refused_file, book_of, evaluated_file}
use Rattle.paper.proofs.Tables.{each_right}

-- ---- terms, places and calls

abbrev pub minus : ℕ → ℤ
minus n = neg_ℤ (pos n)

unfoldable pub triple : ℤ → ℤ → ℤ → Triple
triple a b c = record { x = a; y = b; h = c }

unfoldable pub place : ℕ → ℕ → ℕ → Place
place i j k = record { series = i; set = j; point = k }

-- the terms of the example's file, in the order of its TERMS line
numbers : List ℤ
numbers =
    pos 100000 ∷ pos 0 ∷ pos 150 ∷ pos 250 ∷ pos 20 ∷ pos 20 ∷ pos 0 ∷ pos 0 ∷ pos 0 ∷ pos 100000 ∷ pos 0 ∷ pos 0 ∷ []

-- others in the place of some, counted from 0
replaced : List (ℕ × ℤ) → List ℤ → List ℤ
replaced [] l = l
replaced (o ∷ os) l = replaced os (set l o.0 o.1)

unfoldable pub terms_with : List (ℕ × ℤ) → Terms
unfolding replaced numbers
terms_with os = terms_from (replaced os numbers)

unfoldable pub terms : Terms
unfolding terms_with
terms = terms_with []

-- every point 2 reading is 100000 0 0, the point 1 readings are those of g
unfoldable sheet : (ℕ → ℕ → Triple) → ℕ → ℕ → ℕ → Triple
unfolding triple
sheet g i j k = cond (eqb k 2) (triple (pos 100000) (pos 0) (pos 0)) (g i j)

-- at series a, set b it is x 0 h, elsewhere 0 0 0
unfoldable pub single : ℕ → ℕ → ℕ → ℕ → ℕ → ℕ → Triple
unfolding triple
single a b x h i j = cond (eqb i a && eqb j b) (triple (pos x) (pos 0) (pos h)) zeros

-- f of each place, in sheet order
unfoldable pub throughout : {A : Type 0} → (ℕ → ℕ → ℕ → A) → List A
unfolding each
throughout f = each SERIES (λ i. each SETS (λ j. each POINTS (λ k. f i j k ∷ [])))

-- a full sheet
unfoldable pub full : (ℕ → ℕ → Triple) → Places
unfolding throughout sheet
full g = throughout (λ i j k. some (sheet g i j k))

-- book b is opened with the example's terms, and all thirty readings are entered
unfoldable pub filled : ℕ → (ℕ → ℕ → Triple) → List Call
unfolding terms place throughout sheet
filled b g = on b (begin terms) ∷ throughout (λ i j k. on b (enter (place i j k) (sheet g i j k)))

-- ---- what is put in

pub data Input : Type 0 where
  -- does d pass, with the screening s
  screens : ℤ → ℕ → Input
  -- the root of q, rounded to the nearest
  roots : ℕ → Input
  -- D and d, of two points that differ by x and y, with the nominal distance D*
  distances : ℤ → ℤ → ℤ → Input
  -- Q of one point and axis, where all offsets are e
  alike : ℤ → Input
  -- on an axis, are these two sums of one population
  populations : (axis first second : ℕ) → Input
  -- the answer to a call, after other calls on a fresh register: refusal and values
  calls : List Call → Call → Input
  -- the same: refusal, and what SUSPECT names
  names : List Call → Call → Input
  -- the refusal of each of a list of calls, one after another
  in_turn : List Call → List Call → Input
  -- a book by itself, of which `none` is one not in form: the refusal of an act, and the book then
  alone : Act → Option (Option Book) → Input
  -- the answer to a question on such a book: refusal and values
  asks_alone : (ℕ → Question) → Option (Option Book) → Input
  -- and to a comparison of two: refusal and values
  compares_alone : ℕ → Option (Option Book) → Option (Option Book) → Input
  -- a file, of which `none` is one not of the form: the refusal of reading it, and its book
  file : Option (Terms × Places) → Input
  -- the answer where it is evaluated: refusal, what SUSPECT names, the sheet of four, values
  evaluates_file : Option (Terms × Places) → Input
  -- are the example's terms in range, with each of these in the place of some
  ranged : List (List (ℕ × ℤ)) → Input
  -- are these readings near point k, with the example's terms but for some
  reaches : List (ℕ × ℤ) → ℕ → List Triple → Input
  -- are these places of the sheet
  placed : List Place → Input

-- ---- what comes out, as numbers

bit : Bool → ℕ
bit true = 1
bit false = 0

-- a length: whether it is below 0, and how long
signed : ℤ → List ℕ
signed (pos n) = 0 ∷ n ∷ []
signed (negsuc n) = 1 ∷ suc n ∷ []

figured : Shown → List ℕ
figured f = f.sx ∷ f.sy ∷ f.sxy ∷ f.sh ∷ []

-- the sheet of an evaluation; no other answer has one
sheet_of : Value → List ℕ
unfolding figured
sheet_of done = []
sheet_of (lengths v) = []
sheet_of (count n) = []
sheet_of (evaluates e) = figured e.sheet
sheet_of (same b) = []
sheet_of (listed l) = []

judged : Judged → List ℕ
unfolding bit
judged j = bit j.within ∷ j.m ∷ j.b ∷ []

values : Value → List ℕ
unfolding judged bit signed
values done = []
values (lengths v) = signed v.x ++ signed v.y ++ signed v.h
values (count n) = n ∷ []
values (evaluates e) = judged e.xy ++ judged e.h
values (same b) = bit b ∷ []
values (listed l) = l

answer : Answer → List ℕ
unfolding values
answer a = a.refused ∷ values a.value

suspected : Suspect → List ℕ
suspected s = s.series ∷ s.set ∷ s.quantity ∷ []

readings : Places → ℕ
readings [] = 0
readings (none ∷ l) = readings l
readings (some v ∷ l) = suc (readings l)

-- a book: open, how many readings, how many changes can be taken back
state : Option Book → List ℕ
unfolding readings
state none = 0 ∷ []
state (some b) = 1 ∷ readings b.places ∷ length b.kept ∷ []

state_o : Option (Option Book) → List ℕ
unfolding state
state_o none = []
state_o (some o) = state o

-- two points that differ by x and y
pair : ℤ → ℤ → Places
unfolding triple
pair x y = some zeros ∷ some (triple x y (pos 0)) ∷ []

refusals : Register → List Call → List ℕ
refusals r [] = []
refusals r (c ∷ cs) = (says c (sights r)).refused ∷ refusals (after c r) cs

unfoldable gives : Input → List ℕ
unfolding bit answer suspected sheet_of state state_o terms terms_with triple pair refusals each size span climb Σℤ ΣN digits root_of greatest_of nearest_of on_earth within in_range in_sheet in_order all_near q D distance_off height_off passes suspicious sheet_order first first_suspect offset S Q residual15 P shown figures bound_xy bound_h judged_xy judged_h evaluation sum same_population make inverse nothing blank changed undone closed sight sights empty far nothing_kept short suspect_of sum_of lowest rules evaluating refusal evaluated on_list passing questioned suspect_in given beside says effect affected after run refused_alone next asked_alone compared_alone refused_file book_of evaluated_file
gives (screens s d) = bit (passes s d) ∷ []
gives (roots n) = nearest_of n ∷ []
gives (distances x y d) = D (pair x y) 1 1 ∷ distance_off (terms_with ((0, d) ∷ [])) (pair x y) 1 1 ∷ []
gives (alike e) = Q terms (replicate PLACES (some (triple e (pos 0) (pos 0)))) x-axis 1 ∷ []
gives (populations axis s t) = bit (same_population axis s t) ∷ []
gives (calls cs c) = answer (says c (sights (run closed cs)))
gives (names cs c) = let a = says c (sights (run closed cs)) in a.refused ∷ suspected a.suspect
gives (in_turn cs ds) = refusals (run closed cs) ds
gives (alone a o) = refused_alone a o ∷ state_o (next a o)
gives (asks_alone q o) = answer (asked_alone q o)
gives (compares_alone axis o p) = answer (compared_alone axis o p)
gives (file c) = refused_file c ∷ state (book_of c)
gives (evaluates_file c) = let a = evaluated_file c in a.refused ∷ suspected a.suspect ++ sheet_of a.value ++ values a.value
gives (ranged l) = map (λ (os : List (ℕ × ℤ)). bit (in_range (terms_with os))) l
gives (reaches os k l) = map (λ (v : Triple). bit (near (terms_with os) k v)) l
gives (placed l) = map (λ (p : Place). bit (in_sheet p)) l

-- ---- a case of a table: what is put in, and what is to come out

pub record Case : Type 0 where
  pub input : Input
  pub expected : List ℕ

infix 60 ◌⇒◌
abbrev pub ◌⇒◌ : Input → List ℕ → Case
i ⇒ l = record { input = i; expected = l }

unfoldable pub computed : Case → List ℕ
unfolding gives
computed c = gives c.input

unfoldable pub marked : Case → List ℕ
marked c = c.expected

-- behind the end of a table
unfoldable pub no-case : Case
no-case = roots 0 ⇒ 0 ∷ []

-- one equation that is computed over a table gives each case of it
pub holds : (l : List Case) → map computed l ≡ map marked l → (k : ℕ) → computed (get_or l k no-case) ≡ (get_or l k no-case).expected
unfolding computed marked no-case
holds l e = each_right computed marked l no-case e refl
