-- The edges that K1 to K10 leave, computed like them: equality in each verdict and comparison and the least beyond it, which refusal
-- is given where several apply, what SUSPECT names, what a change leaves, a book by itself, and a file. The ranges are in Ranges.antt.
-- Assumes nothing.
use Prim.Native.Nat.{ℕ, ◌*◌}
use mathlib.Core.Path.{◌≡◌, refl}
use mathlib.Core.Bool.{cond}
use mathlib.Core.Option.{Option, none, some}
use mathlib.Core.List.{List, [], ◌∷◌, ◌++◌, map}
use lib.ListN.{get_or, replicate}
use lib.Dec.{eqb}
use lib.IntN.{ℤ, pos}
use Rattle.paper.specs.Units.{Triple, zeros, Terms, Place, Places}
use Rattle.paper.specs.Books.{Book, nothing, blank}
use Rattle.paper.specs.Calls.{Act, begin, strike, enter, correct, withdraw, take_back, read, changes, residual, evaluate, compare, pass_list, Call, fresh, on, ask}
use Rattle.paper.proofs.Inputs.{Input, populations, calls, names, in_turn, alone, asks_alone, compares_alone, file, evaluates_file, minus, triple, place, terms_with, terms, single, throughout, full, filled, Case, ◌⇒◌, computed, marked, no-case, holds}
use Rattle.paper.proofs.Examples.{first-place, example}

-- ---- verdicts, comparison, screening, the list

three : ℤ → ℤ → ℤ → ℕ → ℤ
three u v w j = cond (eqb j 1) u (cond (eqb j 2) v (cond (eqb j 3) w (pos 0)))

-- three x offsets, or three h offsets, of point 1, in series 1
in_x : ℤ → ℤ → ℤ → ℕ → ℕ → Triple
unfolding three triple
in_x u v w i j = cond (eqb i 1) (triple (three u v w j) (pos 0) (pos 0)) zeros

in_h : ℤ → ℤ → ℤ → ℕ → ℕ → Triple
unfolding three triple
in_h u v w i j = cond (eqb i 1) (triple (pos 0) (pos 0) (three u v w j)) zeros

-- book b with them
offsets_x : ℕ → ℤ → ℤ → ℤ → List Call
unfolding filled in_x
offsets_x b u v w = filled b (in_x u v w)

offsets_h : ℕ → ℤ → ℤ → ℤ → List Call
unfolding filled in_h
offsets_h b u v w = filled b (in_h u v w)

-- x, y and h off, each at another place
scattered : ℕ → ℕ → Triple
unfolding in_x triple
scattered i j = cond (eqb i 3) (triple (pos 0) (pos (j * 30)) (pos 0)) (in_x (pos 60) (minus 8) (pos 5) i j)

-- the height is suspect in set 5 of series 1, the distance in set 1 of series 2
two_suspects : ℕ → ℕ → Triple
unfolding single triple
two_suspects i j = cond (eqb i 1) (single 1 5 0 884 i j) (single 2 1 531 0 i j)

-- book b where in set 3 of series 2 the distance is off by x, the height by h
off : ℕ → ℕ → ℕ → List Call
unfolding filled single
off b x h = filled b (single 2 3 x h)

-- book b where every distance is off by 1,000, so that all sums are 0
far-off : ℕ → List Call
unfolding filled triple
far-off b = filled b (λ i j. triple (pos 1000) (pos 0) (pos 0))

abbrev judging : List Call → Input
judging cs = calls cs (ask (evaluate 1))

-- a file with the example's terms but for some
abbrev evaluating : List (ℕ × ℤ) → (ℕ → ℕ → Triple) → Input
evaluating os g = evaluates_file (some (terms_with os, full g))

abbrev comparing : ℕ → List Call → List Call → Input
comparing axis cs ds = calls (cs ++ ds) (ask (compare 1 2 axis))

decided : List Case
unfolding example in_x in_h offsets_x offsets_h scattered two_suspects off first-place terms_with full single
decided =
    -- 40·P = 22,341·sigma² is within; beyond, with figure and bound shown equal
    (judging (offsets_x 1 (pos 2) (minus 53) (pos 111)) ⇒ 0 ∷ 1 ∷ 2361 ∷ 2361 ∷ 1 ∷ 0 ∷ 2488 ∷ [])
    ∷ (judging (offsets_x 1 (pos 2) (minus 126) (minus 20)) ⇒ 0 ∷ 0 ∷ 2361 ∷ 2361 ∷ 1 ∷ 0 ∷ 2488 ∷ [])
    -- 10·Qh = 6,201·sigma² is within; beyond, with figure and bound shown equal
    ∷ (judging (offsets_h 1 (pos 2) (minus 76) (pos 104)) ⇒ 0 ∷ 1 ∷ 0 ∷ 2361 ∷ 1 ∷ 2488 ∷ 2488 ∷ [])
    ∷ (judging (offsets_h 1 (pos 0) (minus 132) (minus 29)) ⇒ 0 ∷ 1 ∷ 0 ∷ 2361 ∷ 0 ∷ 2488 ∷ 2488 ∷ [])
    -- of two sums for h: 47·Q2 = 100·Q1, and 1 more; 100·Q1 = 213·Q2, and 1 more
    ∷ (populations 2 47 100 ⇒ 1 ∷ [])
    ∷ (populations 2 39 83 ⇒ 0 ∷ [])
    ∷ (populations 2 213 100 ⇒ 1 ∷ [])
    ∷ (populations 2 49 23 ⇒ 0 ∷ [])
    -- for xy: 59·P2 = 100·P1, and 1 more; 100·P1 = 170·P2, and 10 more, which is the least
    ∷ (populations 1 59 100 ⇒ 1 ∷ [])
    ∷ (populations 1 23 39 ⇒ 0 ∷ [])
    ∷ (populations 1 17 10 ⇒ 1 ∷ [])
    ∷ (populations 1 12 7 ⇒ 0 ∷ [])
    -- and of readings: 59·P2 = 100·P1, and 4 more
    ∷ (comparing 1 (offsets_x 1 (pos 3) (pos 9) (pos 9)) (offsets_x 2 (pos 10) (pos 10) (pos 10)) ⇒ 0 ∷ 1 ∷ [])
    ∷ (comparing 1 (offsets_x 1 (pos 1) (minus 3) (pos 2)) (offsets_x 2 (pos 1) (pos 1) (pos 5)) ⇒ 0 ∷ 0 ∷ [])
    -- each axis is held to its own sigma, and its bound is of that
    ∷ (evaluating ((5, pos 21) ∷ []) (in_x (pos 2) (minus 126) (minus 20)) ⇒ 0 ∷ 0 ∷ 0 ∷ 0 ∷ 2361 ∷ 0 ∷ 2361 ∷ 0 ∷ 0 ∷ 2361 ∷ 2361 ∷ 1 ∷ 0 ∷ 2612 ∷ [])
    ∷ (evaluating ((4, pos 21) ∷ []) (in_h (pos 0) (minus 132) (minus 29)) ⇒ 0 ∷ 0 ∷ 0 ∷ 0 ∷ 0 ∷ 0 ∷ 0 ∷ 2488 ∷ 1 ∷ 0 ∷ 2479 ∷ 0 ∷ 2488 ∷ 2488 ∷ [])
    -- the sheet of four, no two alike
    ∷ (evaluating [] scattered ⇒ 0 ∷ 0 ∷ 0 ∷ 0 ∷ 1140 ∷ 3671 ∷ 3844 ∷ 0 ∷ 0 ∷ 3844 ∷ 2361 ∷ 1 ∷ 0 ∷ 2488 ∷ [])
    -- the height difference is point 2 less point 1, and the nominal one is taken from it
    ∷ (evaluating ((1, pos 500) ∷ []) (single 2 3 0 383) ⇒ 0 ∷ 0 ∷ 0 ∷ 0 ∷ 0 ∷ 0 ∷ 0 ∷ 7160 ∷ 1 ∷ 0 ∷ 2361 ∷ 0 ∷ 7160 ∷ 2488 ∷ [])
    ∷ (evaluating ((1, pos 500) ∷ []) (single 2 3 0 384) ⇒ 11 ∷ 2 ∷ 3 ∷ 2 ∷ replicate 10 0)
    -- the order of the field sheet: series, set, then distance before height
    ∷ (evaluating [] two_suspects ⇒ 11 ∷ 1 ∷ 5 ∷ 2 ∷ replicate 10 0)
    -- SUSPECT: distance before height; beside it all figures are 0
    ∷ (names (off 1 531 884) (ask (evaluate 1)) ⇒ 11 ∷ 2 ∷ 3 ∷ 1 ∷ [])
    ∷ (names (off 1 530 884) (ask (evaluate 1)) ⇒ 11 ∷ 2 ∷ 3 ∷ 2 ∷ [])
    ∷ (judging (off 1 531 884) ⇒ 11 ∷ 0 ∷ 0 ∷ 0 ∷ 0 ∷ 0 ∷ 0 ∷ [])
    -- of a comparison: the second book alone; both, and the first is named
    ∷ (names (off 1 0 0 ++ off 2 530 884) (ask (compare 1 2 2)) ⇒ 11 ∷ 2 ∷ 3 ∷ 2 ∷ [])
    ∷ (names (off 1 531 884 ++ off 2 530 884) (ask (compare 1 2 2)) ⇒ 11 ∷ 2 ∷ 3 ∷ 1 ∷ [])
    -- the list, its room: one short, and just enough; nothing on it needs none
    ∷ (calls (off 5 0 0 ++ off 3 0 0) (ask (pass_list 1)) ⇒ 13 ∷ [])
    ∷ (calls (off 5 0 0 ++ off 3 0 0) (ask (pass_list 2)) ⇒ 0 ∷ 3 ∷ 5 ∷ [])
    ∷ (calls (off 3 531 0) (ask (pass_list 0)) ⇒ 0 ∷ [])
    -- 15·r = S - 15·e
    ∷ (calls (example 126 133) (ask (residual 1 first-place)) ⇒ 0 ∷ 1 ∷ 1764 ∷ 0 ∷ 0 ∷ 1 ∷ 1862 ∷ [])
    ∷ []

-- ---- where several refusals apply. Of places out of range the first has the number of the first place, the second that of none

below-place : Place
unfolding place
below-place = place 0 1 1

above_place : Place
unfolding place
above_place = place 4 1 1

second_place : Place
unfolding place
second_place = place 1 1 2

far-reading : Triple
unfolding triple
far-reading = triple (pos 0) (pos 0) (minus 100001)

-- a term out of its range
bad_terms : Terms
unfolding terms_with
bad_terms = terms_with ((0, pos 0) ∷ [])

-- book 1 has one reading; book 2 is closed; book 3 has none, and nothing to take back; book 4 has one set, and that is suspect
few : List Call
unfolding terms first-place second_place triple
few =
    on 1 (begin terms) ∷ on 1 (enter first-place zeros) ∷ on 3 (begin terms) ∷ on 4 (begin terms) ∷ on 4 (enter first-place zeros)
    ∷ on 4 (enter second_place (triple (pos 99000) (pos 0) (pos 0)))
    ∷ []

-- book 1 has sums for xy and h, 5 for xy alone, 6 for h alone; 7 fails screening, and its sums are 0; 3 is short, 2 is closed
many : List Call
unfolding terms example far-off offsets_x offsets_h
many = on 3 (begin terms) ∷ example 126 133 ++ offsets_x 5 (pos 5) (pos 0) (pos 0) ++ offsets_h 6 (pos 5) (pos 0) (pos 0) ++ far-off 7

refused : List Case
unfolding few many below-place above_place second_place first-place far-reading bad_terms terms
refused =
    -- no book has these numbers
    (in_turn few (on 0 (begin terms) ∷ on 17 (begin terms) ∷ on 18446744073709551616 (begin terms) ∷ on 16 (begin terms) ∷ []) ⇒ 2 ∷ 2 ∷ 2 ∷ 0 ∷ [])
    -- open: 2, a second time too; 2 and 4; 3 and 4
    ∷ (in_turn (on 17 (begin terms) ∷ few) (on 17 (begin terms) ∷ on 0 (begin bad_terms) ∷ on 1 (begin bad_terms) ∷ on 2 (begin bad_terms) ∷ []) ⇒ 2 ∷ 2 ∷ 3 ∷ 4 ∷ [])
    -- strike: 2 and 5
    ∷ (in_turn few (on 17 strike ∷ on 2 strike ∷ on 1 strike ∷ on 1 strike ∷ []) ⇒ 2 ∷ 5 ∷ 0 ∷ 5 ∷ [])
    -- a fresh register closes every book
    ∷ (in_turn few (fresh ∷ on 1 strike ∷ ask (changes 3) ∷ on 4 (begin terms) ∷ []) ⇒ 0 ∷ 5 ∷ 5 ∷ 0 ∷ [])
    -- enter: 2 and 5, of the book and of the place; 5, whatever is entered; 2 and 6; 2 and 8; 6 and 8
    ∷ (in_turn few (on 17 (enter first-place zeros) ∷ on 2 (enter above_place zeros) ∷ on 2 (enter first-place far-reading) ∷ []) ⇒ 2 ∷ 2 ∷ 5 ∷ [])
    ∷ (in_turn few (on 1 (enter below-place zeros) ∷ on 1 (enter above_place far-reading) ∷ on 1 (enter first-place far-reading) ∷ on 1 (enter second_place far-reading) ∷ []) ⇒ 2 ∷ 2 ∷ 6 ∷ 8 ∷ [])
    -- correct: 2 and 5; 5 and 7, whatever it is corrected to; 2 and 7; 2 and 8; 7 and 8
    ∷ (in_turn few (on 17 (correct first-place zeros) ∷ on 2 (correct above_place zeros) ∷ on 2 (correct first-place far-reading) ∷ []) ⇒ 2 ∷ 2 ∷ 5 ∷ [])
    ∷ (in_turn few (on 1 (correct above_place zeros) ∷ on 1 (correct below-place far-reading) ∷ on 1 (correct second_place far-reading) ∷ on 1 (correct first-place far-reading) ∷ []) ⇒ 2 ∷ 2 ∷ 7 ∷ 8 ∷ [])
    -- withdraw: 2 and 5; 5 and 7; 2 and 7
    ∷ (in_turn few (on 17 (withdraw first-place) ∷ on 2 (withdraw above_place) ∷ on 2 (withdraw first-place) ∷ on 1 (withdraw above_place) ∷ on 1 (withdraw second_place) ∷ []) ⇒ 2 ∷ 2 ∷ 5 ∷ 2 ∷ 7 ∷ [])
    -- take back: 2, 5 and 9; 5 and 9
    ∷ (in_turn few (on 17 take_back ∷ on 2 take_back ∷ on 3 take_back ∷ on 1 take_back ∷ on 1 take_back ∷ []) ⇒ 2 ∷ 5 ∷ 9 ∷ 0 ∷ 9 ∷ [])
    -- read: 2 and 5; 5 and 7; 2 and 7
    ∷ (in_turn few (ask (read 17 first-place) ∷ ask (read 2 above_place) ∷ ask (read 2 first-place) ∷ ask (read 1 above_place) ∷ ask (read 1 second_place) ∷ []) ⇒ 2 ∷ 2 ∷ 5 ∷ 2 ∷ 7 ∷ [])
    -- changes: 2 and 5
    ∷ (in_turn few (ask (changes 17) ∷ ask (changes 2) ∷ []) ⇒ 2 ∷ 5 ∷ [])
    -- residual: 2, 5 and 10; 5 and 10; 2 and 10
    ∷ (in_turn few (ask (residual 17 first-place) ∷ ask (residual 2 above_place) ∷ ask (residual 2 first-place) ∷ ask (residual 1 above_place) ∷ ask (residual 1 first-place) ∷ []) ⇒ 2 ∷ 2 ∷ 5 ∷ 2 ∷ 10 ∷ [])
    -- evaluate: 2, 5 and 10; 5 and 10; 10 and 11
    ∷ (in_turn few (ask (evaluate 17) ∷ ask (evaluate 2) ∷ ask (evaluate 3) ∷ ask (evaluate 4) ∷ []) ⇒ 2 ∷ 5 ∷ 10 ∷ 10 ∷ [])
    -- compare: 2 of the first book, of the second and of the axis, and 5; 2, and 10, 11 or 12; 5 of either, and 10 or 11 of the other
    ∷ (in_turn many (ask (compare 17 2 1) ∷ ask (compare 2 17 1) ∷ ask (compare 2 2 0) ∷ ask (compare 2 2 3) ∷ []) ⇒ 2 ∷ 2 ∷ 2 ∷ 2 ∷ [])
    ∷ (in_turn many (ask (compare 3 17 1) ∷ ask (compare 3 1 3) ∷ ask (compare 7 17 1) ∷ ask (compare 1 7 0) ∷ ask (compare 1 5 3) ∷ []) ⇒ 2 ∷ 2 ∷ 2 ∷ 2 ∷ 2 ∷ [])
    ∷ (in_turn many (ask (compare 2 3 1) ∷ ask (compare 3 2 1) ∷ ask (compare 2 7 1) ∷ ask (compare 7 2 1) ∷ []) ⇒ 5 ∷ 5 ∷ 5 ∷ 5 ∷ [])
    -- 10 of either, and 11 of the other; 11 of either, and 12 of the second
    ∷ (in_turn many (ask (compare 3 7 1) ∷ ask (compare 7 3 1) ∷ ask (compare 1 7 1) ∷ ask (compare 7 6 1) ∷ []) ⇒ 10 ∷ 10 ∷ 11 ∷ 11 ∷ [])
    -- 12: h, xy; the other axis; the first book's sum does not matter
    ∷ (in_turn many (ask (compare 1 5 2) ∷ ask (compare 1 6 1) ∷ ask (compare 1 5 1) ∷ ask (compare 1 6 2) ∷ ask (compare 5 1 2) ∷ ask (compare 6 1 1) ∷ []) ⇒ 12 ∷ 12 ∷ 0 ∷ 0 ∷ 0 ∷ 0 ∷ [])
    -- beside 10, 11 and 12: what is named, and not the same
    ∷ (names many (ask (compare 7 3 1)) ⇒ 10 ∷ 0 ∷ 0 ∷ 0 ∷ [])
    ∷ (names many (ask (compare 1 7 1)) ⇒ 11 ∷ 1 ∷ 1 ∷ 1 ∷ [])
    ∷ (calls many (ask (compare 1 5 2)) ⇒ 12 ∷ 0 ∷ [])
    ∷ []

-- ---- what a change and a take-back leave

-- a reading at the first place of book 1, and then these acts
reading-then : List Act → List Call
unfolding terms first-place triple
reading-then acts = on 1 (begin terms) ∷ on 1 (enter first-place (triple (pos 1) (minus 2) (pos 3))) ∷ map (on 1) acts

-- what is read there: refusal, x, y, h, each with its sign
then-reads : List Act → Input
unfolding reading-then first-place
then-reads acts = calls (reading-then acts) (ask (read 1 first-place))

then-counts : List Act → Input
unfolding reading-then
then-counts acts = calls (reading-then acts) (ask (changes 1))

left : List Case
unfolding then-reads then-counts first-place second_place terms
left =
    -- a correction, also to the same value; a withdrawal; each taken back
    (then-reads [] ⇒ 0 ∷ 0 ∷ 1 ∷ 1 ∷ 2 ∷ 0 ∷ 3 ∷ [])
    ∷ (then-reads (correct first-place zeros ∷ []) ⇒ 0 ∷ 0 ∷ 0 ∷ 0 ∷ 0 ∷ 0 ∷ 0 ∷ [])
    ∷ (then-reads (correct first-place zeros ∷ correct first-place zeros ∷ take_back ∷ take_back ∷ []) ⇒ 0 ∷ 0 ∷ 1 ∷ 1 ∷ 2 ∷ 0 ∷ 3 ∷ [])
    ∷ (then-reads (withdraw first-place ∷ []) ⇒ 7 ∷ replicate 6 0)
    ∷ (then-reads (withdraw first-place ∷ take_back ∷ []) ⇒ 0 ∷ 0 ∷ 1 ∷ 1 ∷ 2 ∷ 0 ∷ 3 ∷ [])
    ∷ (then-reads (enter second_place zeros ∷ take_back ∷ take_back ∷ []) ⇒ 7 ∷ replicate 6 0)
    ∷ (then-counts (correct first-place zeros ∷ withdraw first-place ∷ take_back ∷ []) ⇒ 0 ∷ 2 ∷ [])
    -- a struck book is closed, and opened again it is empty, with nothing to take back
    ∷ (then-reads (strike ∷ []) ⇒ 5 ∷ replicate 6 0)
    ∷ (then-reads (strike ∷ begin terms ∷ []) ⇒ 7 ∷ replicate 6 0)
    ∷ (then-counts (strike ∷ begin terms ∷ []) ⇒ 0 ∷ 0 ∷ [])
    ∷ []

-- ---- a book by itself, which may be not in form (`none`) or closed (`some none`); a file, which may be not of the form (`none`)

-- open, and nothing else
opened : Option (Option Book)
unfolding terms blank
opened = some (some (blank terms))

one-far : Places
unfolding throughout far-reading
one-far = throughout (λ i j k. cond (eqb i 3) none (some far-reading))

by_itself : List Case
unfolding above_place first-place second_place far-reading bad_terms terms_with terms opened full single one-far nothing
by_itself =
    -- 1, 2 and 5; 1 and 5; 2 and 5; 5 and 9. Beside a refusal the book is the one handed in
    (alone (enter above_place zeros) none ⇒ 1 ∷ [])
    ∷ (alone take_back none ⇒ 1 ∷ [])
    ∷ (alone (enter above_place zeros) (some none) ⇒ 2 ∷ 0 ∷ [])
    ∷ (alone (correct first-place far-reading) (some none) ⇒ 5 ∷ 0 ∷ [])
    ∷ (alone take_back (some none) ⇒ 5 ∷ 0 ∷ [])
    ∷ (alone take_back opened ⇒ 9 ∷ 1 ∷ 0 ∷ 0 ∷ [])
    ∷ (alone (withdraw second_place) opened ⇒ 7 ∷ 1 ∷ 0 ∷ 0 ∷ [])
    -- a reading whose offsets are 0 is a reading
    ∷ (alone (enter first-place zeros) opened ⇒ 0 ∷ 1 ∷ 1 ∷ 1 ∷ [])
    ∷ (asks_alone evaluate none ⇒ 1 ∷ 0 ∷ 0 ∷ 0 ∷ 0 ∷ 0 ∷ 0 ∷ [])
    ∷ (asks_alone evaluate (some none) ⇒ 5 ∷ 0 ∷ 0 ∷ 0 ∷ 0 ∷ 0 ∷ 0 ∷ [])
    ∷ (asks_alone evaluate opened ⇒ 10 ∷ 0 ∷ 0 ∷ 0 ∷ 0 ∷ 0 ∷ 0 ∷ [])
    ∷ (compares_alone 3 (some none) none ⇒ 1 ∷ 0 ∷ [])
    ∷ (compares_alone 3 (some none) opened ⇒ 2 ∷ 0 ∷ [])
    -- a file: 14; 4 and 8; 8. Its book is then closed
    ∷ (file none ⇒ 14 ∷ 0 ∷ [])
    ∷ (file (some (bad_terms, one-far)) ⇒ 4 ∷ 0 ∷ [])
    ∷ (file (some (terms, one-far)) ⇒ 8 ∷ 0 ∷ [])
    ∷ (file (some (terms, nothing)) ⇒ 0 ∷ 1 ∷ 0 ∷ 0 ∷ [])
    ∷ (file (some (terms, full (single 1 1 126 133))) ⇒ 0 ∷ 1 ∷ 30 ∷ 0 ∷ [])
    -- evaluated: these first, 4 before 10 and 11; then 10 and 11
    ∷ (evaluates_file none ⇒ 14 ∷ replicate 13 0)
    ∷ (evaluates_file (some (bad_terms, nothing)) ⇒ 4 ∷ replicate 13 0)
    ∷ (evaluates_file (some (bad_terms, full (single 2 3 530 884))) ⇒ 4 ∷ replicate 13 0)
    ∷ (evaluates_file (some (terms, one-far)) ⇒ 8 ∷ replicate 13 0)
    ∷ (evaluates_file (some (terms, nothing)) ⇒ 10 ∷ replicate 13 0)
    ∷ (evaluating [] (single 2 3 530 884) ⇒ 11 ∷ 2 ∷ 3 ∷ 2 ∷ replicate 10 0)
    ∷ (evaluating [] (single 1 1 126 133) ⇒ 0 ∷ 0 ∷ 0 ∷ 0 ∷ 2355 ∷ 0 ∷ 2355 ∷ 2486 ∷ 1 ∷ 2355 ∷ 2361 ∷ 1 ∷ 2486 ∷ 2488 ∷ [])
    ∷ []

-- ---- one equation, and each case

unfoldable pub edges : List Case
unfolding decided refused left by_itself
edges = decided ++ refused ++ left ++ by_itself

all_right : map computed edges ≡ map marked edges
unfolding computed marked edges
all_right = refl

pub each_edge : (k : ℕ) → computed (get_or edges k no-case) ≡ (get_or edges k no-case).expected
each_edge = holds edges all_right
