-- The reader of a series, step by step, with its places as words.
-- Assumes nothing.
use Rattle.std.proofs.Common.{◌≡◌, ℕ, suc, ◌+◌, ◌-◌, ◌<◌, ◌≢◌, List, [], ◌∷◌, ◌++◌, map, length, take, set, flat_map, Option, Some, None, refl, sym, ap, ◌∙◌, append-nil, arith}
use Rattle.std.proofs.lemmas.List.{take_more_set}
use Rattle.rows.specs.Blocks.{laid}
use Rattle.rows.proofs.Blocks.{laid-append}
use Rattle.paper.specs.Procedure.{IN_SERIES}
use Rattle.paper.specs.Units.{Places}
use Rattle.image.specs.Places.{spot_words, cells_of}
use Rattle.decimals.specs.Reader.{then, ahead}
use Rattle.decimals.specs.Given.{read_as}
use Rattle.decimals.proofs.Steps.{reading}
use Rattle.lines.proofs.Steps.{after, after_twice}
use Rattle.fieldfile.specs.Reader.{spot, spots, series, bodies}
use Rattle.spots.specs.Given.{placed_words}

-- the words of n places from place k on, and the text that is left
abbrev pub words_of : (n k left : ℕ) → List ℕ → Option (List (List ℕ) × List ℕ)
words_of n k left l = read_as (map spot_words) (spots n k left l)

words_bad : (n k left : ℕ) (l : List ℕ) → None ≡ read_as placed_words (spot k left l) → words_of (suc n) k left l ≡ None
unfolding spots then ahead
words_bad n k left l e = grind (arith, reading)

words_on : (n k left m : ℕ) (l r ws : List ℕ) → Some ((ws, m), r) ≡ read_as placed_words (spot k left l)
    → words_of (suc n) k left l ≡ after (ws ∷ []) (words_of n (suc k) m r)
unfolding spots then ahead
words_on n k left m l r ws e = grind (arith, reading)

-- after k of the places of a series, what stands in the words
module _ (count k left : ℕ) (s l : List ℕ) (wss : List (List ℕ)) (so_far : words_of IN_SERIES 0 count s ≡ after (take k wss) (words_of (IN_SERIES - k) k left l)) where
  module _ (p : k < IN_SERIES) where
    room : IN_SERIES - k ≡ suc (IN_SERIES - k - 1)
    room = omega arith

    pub place_bad : None ≡ read_as placed_words (spot k left l) → None ≡ words_of IN_SERIES 0 count s
    place_bad e = sym (so_far ∙ rw (room, words_bad (IN_SERIES - k - 1) k left l e))

    pub place_on : (m : ℕ) (r ws : List ℕ) → Some ((ws, m), r) ≡ read_as placed_words (spot k left l) → length wss ≡ IN_SERIES
        → words_of IN_SERIES 0 count s ≡ after (take (k + 1) (set wss k ws)) (words_of (IN_SERIES - (k + 1)) (k + 1) m r)
    place_on m r ws e h =
        let f : IN_SERIES - (k + 1) ≡ IN_SERIES - k - 1 = omega arith in
        let next : suc k ≡ k + 1 = omega arith in
        let on : words_of (IN_SERIES - k) k left l ≡ after (ws ∷ []) (words_of (IN_SERIES - k - 1) (suc k) m r) =
        ap (λ n. words_of n k left l) room ∙ words_on (IN_SERIES - k - 1) k left m l r ws e in
        let put : take (k + 1) (set wss k ws) ≡ take k wss ++ ws ∷ [] = take_more_set wss k ws (omega arith) in
        so_far ∙ (ap (after (take k wss)) on ∙ (after_twice (take k wss) (ws ∷ []) (words_of (IN_SERIES - k - 1) (suc k) m r) ∙ rw (f, put, next)))

  module _ (p : IN_SERIES ≡ k) (h : length wss ≡ IN_SERIES) where
    over : IN_SERIES - k ≡ 0
    over = omega arith

    pub places_end : left ≡ 0 → Some (wss, l) ≡ words_of IN_SERIES 0 count s
    unfolding spots
    places_end e = let t : take k wss ≡ wss = grind (arith, reading) in sym (so_far ∙ rw (over, e, t, append-nil))

    pub places_more : left ≢ 0 → None ≡ words_of IN_SERIES 0 count s
    unfolding spots
    places_more e = let one : left ≡ suc (left - 1) = omega arith in sym (so_far ∙ rw (over, one))

-- the words of places, laid one after another
pub laid_words : (l : Places) → flat_map (λ x. x) (map spot_words l) ≡ cells_of l
unfolding laid
laid_words [] = refl
laid_words (v ∷ l) = ap (λ r. spot_words v ++ r) (laid_words l)

-- three series, one after another
pub three_series : (a b c : ℕ) (s r t u : List ℕ) (xs ys zs : List (List ℕ)) → Some (xs, r) ≡ read_as (map spot_words) (series a s)
    → Some (ys, t) ≡ read_as (map spot_words) (series b r) → Some (zs, u) ≡ read_as (map spot_words) (series c t)
    → Some (flat_map (λ x. x) (flat_map (λ x. x) (xs ∷ ys ∷ zs ∷ [])), u) ≡ read_as cells_of (bodies a b c s)
unfolding bodies then
three_series a b c s r t u xs ys zs e f g = grind (arith, reading, laid_words, laid-append spot_words)
