-- Laws of words in a row of bytes.
-- Assumes nothing.
use mathlib.Core.Path.{◌≡◌, refl, sym, ap, ◌∙◌, subst}
use mathlib.Core.List.{List, [], ◌∷◌, ◌++◌, append-nil}
use Prim.Native.Nat.{ℕ, zero, suc, ◌+◌, ◌*◌, ◌/◌, ◌%◌, ◌^◌, ◌≤◌, ◌<◌}
use native.Mathlib.Numerals.{add-one}
use native.Mathlib.Omega.{arith}
use native.Mathlib.Nat.{suc-add, zero-add, mul_assoc, pow-suc, pow-succ', div-one, div-div-eq-div-mul}
use lib.ListN.{set, length, take, drop, get_or, length-drop}
use lib.Seq.{set_at, append_snoc, drop-cons, drop-drop, length-take-le, take_all, take_at, take-suc}
use Rattle.std.specs.Int.{w64, byte_at, byte_worth, bytes_low_first, sum_through, to_le_bytes, from_le_bytes}
use Rattle.rows.specs.Blocks.{blocks, laid}
use Rattle.words.specs.Words.{le, digits, word_in, words, bytes_of}
use Rattle.rows.specs.Paste.{pasted}
use Rattle.rows.proofs.Paste.{pasted-then}
use Rattle.rows.proofs.Sizes.{Bytes, Small, bytes_drop, bytes_take}
use Rattle.rows.proofs.Blocks.{length-blocks, blocks-add, blocks-laid, laid-blocks, length-laid, laid-append}

-- ---- digits

pub length_digits : (n w : ℕ) → length (digits n w) ≡ n
unfolding digits
length_digits zero w = refl
length_digits (suc n) w = ap suc (length_digits n (w / 256))

pub le-digits : (n w : ℕ) → w < 256 ^ n → le (digits n w) ≡ w
unfolding digits le
le-digits zero w h = let e : 256 ^ 0 ≡ 1 = refl in omega arith
le-digits (suc n) w h =
    let e : 256 ^ suc n ≡ 256 * 256 ^ n = pow-succ' 256 n in
    rw (le-digits n (w / 256) (omega arith)) (omega arith)

digits_le : (bs : List ℕ) → ((i : ℕ) → get_or bs i 0 < 256) → digits (length bs) (le bs) ≡ bs
unfolding digits le
digits_le [] h = refl
digits_le (b ∷ bs) h =
    let hb : b < 256 = h 0 in
    let em : (b + 256 * le bs) % 256 ≡ b = omega arith in
    let ed : (b + 256 * le bs) / 256 ≡ le bs = omega arith in
    rw (em, ed) (ap (λ (l : List ℕ). b ∷ l) (digits_le bs (λ i. h (suc i))))

-- ---- in two parts

le_parts : (n m : ℕ) (l : List ℕ) → n ≤ length l → le (take (n + m) l) ≡ le (take n l) + 256 ^ n * le (take m (drop n l))
unfolding le
le_parts zero m l h = let e : 256 ^ 0 ≡ 1 = refl in rw (zero-add, e) (omega arith)
le_parts (suc n) m [] h = absurd (omega arith)
le_parts (suc n) m (b ∷ l) h =
    let r = le (take m (drop n l)) in
    let e : 256 ^ suc n * r ≡ 256 * (256 ^ n * r) = rw (pow-succ' 256 n, mul_assoc) in
    rw (suc-add, e, le_parts n m l (omega arith)) (omega arith)

-- ---- words

pub length-bytes_of : (ws : List ℕ) → length (bytes_of ws) ≡ 8 * length ws
length-bytes_of ws = omega (arith, length-laid 8 (digits 8) 0 ws (λ i. length_digits 8 (get_or ws i 0)))

-- bytes to words to bytes
pub bytes_of-words : (n : ℕ) (bs : List ℕ) → 8 * n ≤ length bs → Bytes bs → bytes_of (words n bs) ≡ take (n * 8) bs
bytes_of-words n bs e h = laid-blocks 8 (digits 8) 0 word_in n bs back
  where
    back : (k : ℕ) → k < n → digits 8 (word_in (drop (k * 8) bs)) ≡ take 8 (drop (k * 8) bs)
    back k m =
        let l = take 8 (drop (k * 8) bs) in
        let n8 : length l ≡ 8 = length-take-le 8 (drop (k * 8) bs) (rw length-drop (omega arith)) in
        subst (λ (i : ℕ). digits i (le l) ≡ l) n8 (digits_le l (bytes_take 8 (drop (k * 8) bs) (bytes_drop (k * 8) bs h)))

-- words to bytes to words
pub word_front : (w : ℕ) (z : List ℕ) → w < 2 ^ 64 → word_in (digits 8 w ++ z) ≡ w
word_front w z h = rw (take_at (digits 8 w) z 8 (length_digits 8 w)) (le-digits 8 w h)

pub words_front : (ws z : List ℕ) → Small ws → words (length ws) (bytes_of ws ++ z) ≡ ws
words_front ws z h = blocks-laid 8 (digits 8) 0 word_in ws z (λ i. length_digits 8 (get_or ws i 0)) (λ i l. word_front (get_or ws i 0) l (h i))

-- ---- a word as std reads and writes it

bytes_worth : (k : ℕ) (bs : List ℕ) → k < length bs → le (take (suc k) bs) ≡ sum_through (λ i. byte_worth i (get_or bs i 0)) k
unfolding le
bytes_worth zero [] h = absurd (omega arith)
bytes_worth zero (b ∷ bs) h = omega arith
bytes_worth (suc k) bs h =
    let e : suc (suc k) ≡ suc k + 1 = omega arith in
    rw (e, le_parts (suc k) 1 bs (omega arith), bytes_worth k bs (omega arith), drop-cons bs (suc k) 0 h) (omega arith)

pub le-read : (bs : List ℕ) → length bs ≡ 8 → from_le_bytes w64 bs ≡ le bs
le-read bs e = sym (bytes_worth 7 bs (omega arith)) ∙ ap le (take_all 8 bs (omega arith))

byte_digit : (i w : ℕ) → byte_at i w ≡ w / 256 ^ i % 256
byte_digit zero w = let e : 256 ^ 0 ≡ 1 = refl in rw (e, div-one)
byte_digit (suc i) w = refl

bytes_digits : (k i w : ℕ) → bytes_low_first i k w ≡ digits k (w / 256 ^ i)
unfolding digits
bytes_digits zero i w = refl
bytes_digits (suc k) i w =
    let e : w / 256 ^ suc i ≡ w / 256 ^ i / 256 = ap (λ (p : ℕ). w / p) (pow-suc 256 i) ∙ sym (div-div-eq-div-mul w (256 ^ i) 256) in
    rw (byte_digit i w, bytes_digits k (suc i) w, e)

pub digits-written : (w : ℕ) → to_le_bytes w64 w ≡ digits 8 w
digits-written w = bytes_digits 8 0 w ∙ ap (digits 8) (let e : 256 ^ 0 ≡ 1 = refl in rw (e, div-one))

-- ---- a turn of each loop

load_turn : (bs out₀ : List ℕ) (i : ℕ) → i < length out₀
    → set (words i bs ++ drop i out₀) i (word_in (drop (i * 8) bs)) ≡ words (i + 1) bs ++ drop (i + 1) out₀
unfolding blocks
load_turn bs out₀ i h =
    rw (drop-cons out₀ i 0, set_at (words i bs) _ _ _ i (length-blocks 8 word_in i bs), blocks-add 8 word_in i 1 bs, append_snoc, add-one i)

pub load_at_turn : (bs out₀ : List ℕ) (at i : ℕ) → i < length out₀
    → set (words i (drop at bs) ++ drop i out₀) i (word_in (drop (at + i * 8) bs)) ≡ words (i + 1) (drop at bs) ++ drop (i + 1) out₀
load_at_turn bs out₀ at i h = rw (← drop-drop (i * 8) at bs) (load_turn (drop at bs) out₀ i h)

one_word : (w : ℕ) → bytes_of (w ∷ []) ≡ digits 8 w
unfolding laid
one_word w = append-nil (digits 8 w)

pub store_at_turn : (r ws : List ℕ) (at i : ℕ) → i < length ws → at + 8 * length ws ≤ length r
    → pasted (pasted r at (bytes_of (take i ws))) (at + i * 8) (digits 8 (get_or ws i 0)) ≡ pasted r at (bytes_of (take (i + 1) ws))
store_at_turn r ws at i h k =
    let l : length (bytes_of (take i ws)) ≡ 8 * i = rw (length-bytes_of, length-take-le i ws (omega arith)) in
    pasted-then r at (bytes_of (take i ws)) (at + i * 8) (digits 8 (get_or ws i 0)) (omega arith) (rw length_digits (omega arith))
    ∙ rw (add-one i, take-suc ws i 0, laid-append) (ap (λ (l : List ℕ). pasted r at (bytes_of (take i ws) ++ l)) (sym (one_word (get_or ws i 0))))
