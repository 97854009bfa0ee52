-- Laws of kept changes and their words.
-- Assumes nothing.
use Prim.Native.Nat.{ℕ, zero, suc, ◌-◌, ◌*◌, ◌≤◌, ◌<◌}
use native.Mathlib.Omega.{arith}
use mathlib.Core.Path.{◌≡◌, refl, sym, ap, ◌∙◌}
use mathlib.Core.Bool.{true}
use mathlib.Core.List.{List, [], ◌∷◌, ◌++◌, append-nil}
use lib.ListN.{length, get_or, take, drop, replicate, length-drop, take-append-drop, get_or-eq_default}
use lib.Seq.{take_at, drop_at}
use lib.Dec.{eqb}
use borrow.Author.Tests.{eqb-true}
use Rattle.rows.specs.Lists.{all?}
use Rattle.rows.specs.Blocks.{laid}
use Rattle.rows.proofs.Elements.{elements, elements-take}
use Rattle.rows.proofs.Blocks.{length-blocks, blocks_turn, blocks-laid, laid-blocks, length-laid, laid-append, laid-zeros}
use Rattle.paper.specs.Procedure.{PLACES}
use Rattle.paper.specs.Books.{Change}
use Rattle.paper.proofs.Tests.{and_left, and_right}
use Rattle.image.specs.Places.{spot_words}
use Rattle.image.specs.Changes.{change, change_in, entries, change_words, unused, padded, changes_of, zeros}
use Rattle.image.proofs.Places.{length-spot, words-spot, Short, spot-words}

-- ---- one change

wide : (c : Change) → length (change_words c) ≡ 4
unfolding change_words
wide c = ap suc (length-spot c.put)

words_in : (l : List ℕ) → 4 ≤ length l → change_words (change_in l) ≡ take 4 l
unfolding change_words elements
words_in l h = ap (λ (k : List ℕ). get_or l 0 0 ∷ k) (words-spot (get_or l 1 0) (get_or l 2 0) (get_or l 3 0)) ∙ elements-take 0 4 l 0 h

change-words : (c : Change) (l : List ℕ) → Short c.put → change_in (change_words c ++ l) ≡ c
unfolding change_words
change-words c l f = ap (change c.place) (spot-words c.put l f)

-- ---- filled up

length-padded : (n : ℕ) (cs : List Change) → length (padded n cs) ≡ n
unfolding padded
length-padded zero cs = refl
length-padded (suc n) [] = ap suc (length-padded n [])
length-padded (suc n) (c ∷ cs) = ap suc (length-padded n cs)

padded-few : (n : ℕ) (cs : List Change) → length cs ≤ n → padded n cs ≡ cs ++ replicate (n - length cs) unused
unfolding padded
padded-few zero [] h = refl
padded-few (suc n) [] h = let e : suc n - 0 ≡ suc (n - 0) = omega arith in rw e (ap (λ (l : List Change). unused ∷ l) (padded-few n [] (omega arith)))
padded-few zero (c ∷ cs) h = absurd (omega arith)
padded-few (suc n) (c ∷ cs) h = let e : suc n - suc (length cs) ≡ n - length cs = omega arith in rw e (ap (λ (l : List Change). c ∷ l) (padded-few n cs (omega arith)))

padded-take : (n : ℕ) (cs : List Change) → padded n (take n cs) ≡ padded n cs
unfolding padded
padded-take zero cs = refl
padded-take (suc n) [] = refl
padded-take (suc n) (c ∷ cs) = ap (λ (l : List Change). c ∷ l) (padded-take n cs)

padded-more : (n : ℕ) (cs : List Change) → padded (suc n) cs ≡ padded n cs ++ get_or cs n unused ∷ []
unfolding padded
padded-more zero [] = refl
padded-more zero (c ∷ cs) = refl
padded-more (suc n) [] = ap (λ (l : List Change). unused ∷ l) (padded-more n [])
padded-more (suc n) (c ∷ cs) = ap (λ (l : List Change). c ∷ l) (padded-more n cs)

-- ---- each change names a place, and what stood there is short

abbrev pub KeptShort : List Change → Type 0
KeptShort cs = (i : ℕ) → ((get_or cs i unused).place < PLACES) × Short (get_or cs i unused).put

pub padded-short : (n : ℕ) (cs : List Change) → KeptShort cs → KeptShort (padded n cs)
unfolding padded Short
padded-short zero cs f i = (omega arith, tt)
padded-short (suc n) [] f zero = (omega arith, tt)
padded-short (suc n) [] f (suc i) = padded-short n [] f i
padded-short (suc n) (c ∷ cs) f zero = f 0
padded-short (suc n) (c ∷ cs) f (suc i) = padded-short n cs (λ j. f (suc j)) i

-- ---- their words

pub length_changes : (n : ℕ) (cs : List Change) → length (changes_of n cs) ≡ 4 * n
length_changes n cs = omega (arith, length-laid 4 change_words unused (padded n cs) (λ i. wide (get_or (padded n cs) i unused)), length-padded n cs)

pub length-entries : (n : ℕ) (l : List ℕ) → length (entries n l) ≡ n
length-entries n l = length-blocks 4 change_in n l

pub entries-cons : (n : ℕ) (l : List ℕ) → 0 < n → entries n l ≡ change_in l ∷ entries (n - 1) (drop 4 l)
entries-cons n l h = let e : n - 0 ≡ n = omega arith in rw e at (blocks_turn 4 change_in n 0 l h)

unused-words : (n : ℕ) → laid change_words (replicate n unused) ≡ replicate (n * 4) 0
unfolding change_words spot_words
unused-words n = laid-zeros change_words 4 n unused refl

few_words : (n : ℕ) (cs : List Change) → length cs ≤ n → changes_of n cs ≡ laid change_words cs ++ replicate ((n - length cs) * 4) 0
few_words n cs h = rw (padded-few n cs h, laid-append change_words cs (replicate (n - length cs) unused), unused-words (n - length cs))

pub none_kept : (n : ℕ) → changes_of n [] ≡ replicate (n * 4) 0
unfolding laid
none_kept n = let e : n - 0 ≡ n = omega arith in rw e at (few_words n [] (omega arith))

-- ---- words not used

pub zeros-all : (l : List ℕ) → zeros l ≡ true → l ≡ replicate (length l) 0
unfolding all?
zeros-all [] e = refl
zeros-all (w ∷ l) e = rw (eqb-true w 0 (and_left (eqb w 0) (zeros l) e)) (ap (λ (k : List ℕ). 0 ∷ k) (zeros-all l (and_right (eqb w 0) (zeros l) e)))

pub zeros-replicate : (n : ℕ) → zeros (replicate n 0) ≡ true
unfolding all?
zeros-replicate zero = refl
zeros-replicate (suc n) = zeros-replicate n

pub zeros_rest : (n : ℕ) (cs : List Change) → length cs ≤ n → zeros (drop (length cs * 4) (changes_of n cs)) ≡ true
zeros_rest n cs h =
    rw (few_words n cs h, drop_at (laid change_words cs) (replicate ((n - length cs) * 4) 0) (length cs * 4) (length-laid 4 change_words unused cs (λ i. wide (get_or cs i unused))))
    (zeros-replicate ((n - length cs) * 4))

-- ---- both ways

-- words to changes to words
pub changes_entries : (n k : ℕ) (l : List ℕ) → length l ≡ 4 * n → k ≤ n → zeros (drop (k * 4) l) ≡ true → changes_of n (entries k l) ≡ l
changes_entries n k l e h z =
    let m = length-entries k l in
    let r : (n - length (entries k l)) * 4 ≡ length (drop (k * 4) l) = rw (m, length-drop) (omega arith) in
    few_words n (entries k l) (omega arith)
    ∙ rw (laid-blocks 4 change_words unused change_in k l (λ j g. words_in (drop (j * 4) l) (rw length-drop (omega arith))), r, ← zeros-all (drop (k * 4) l) z)
    (take-append-drop (k * 4) l)

-- changes to words to changes
pub entries_changes : (n : ℕ) (cs : List Change) → length cs ≤ n → KeptShort cs → entries (length cs) (changes_of n cs) ≡ cs
entries_changes n cs h f =
    rw (few_words n cs h)
    (blocks-laid 4 change_words unused change_in cs (replicate ((n - length cs) * 4) 0) (λ i. wide (get_or cs i unused)) (λ i l. change-words (get_or cs i unused) l (f i).1))

-- ---- one more, and one less

more-words : (n : ℕ) (cs : List Change) → changes_of (suc n) cs ≡ changes_of n cs ++ change_words (get_or cs n unused)
unfolding laid
more-words n cs =
    rw (padded-more n cs, laid-append change_words (padded n cs) (get_or cs n unused ∷ []))
    (ap (λ (l : List ℕ). changes_of n cs ++ l) (append-nil (change_words (get_or cs n unused))))

pub changes_push : (n : ℕ) (c : Change) (cs : List Change) → changes_of (suc n) (take (suc n) (c ∷ cs)) ≡ change_words c ++ take (4 * n) (changes_of (suc n) cs)
unfolding laid padded
changes_push n c cs =
    rw (padded-take n cs, more-words n cs, take_at (changes_of n cs) (change_words (get_or cs n unused)) (4 * n) (length_changes n cs))

pub changes_pop : (n : ℕ) (cs : List Change) → length cs ≤ n → changes_of n cs ++ (0 ∷ 0 ∷ 0 ∷ 0 ∷ []) ≡ changes_of (suc n) cs
unfolding change_words spot_words
changes_pop n cs h = sym (more-words n cs ∙ ap (λ (c : Change). changes_of n cs ++ change_words c) (get_or-eq_default cs unused h))
