-- Words as bytes, and bytes as words.
use Rattle.std.specs.Prelude.{◌≡◌, ℕ, zero, suc, ◌+◌, ◌*◌, ◌/◌, ◌%◌, ◌^◌, ◌<◌, ◌≤◌, List, [], ◌∷◌, map, length, take, drop, slice_index, refl}
use Rattle.std.proofs.Common.{sym, ap, ◌∙◌, arith, mod-eq_of_lt, ext_get_or, get_or-take, get_or-drop, length-drop, length-take-le}
use Rattle.std.proofs.Math.Nat.{div-div-eq-div-mul}
use Rattle.plank_core.specs.Lists.{bind, upto}
use Rattle.plank_core.specs.laws.Loops.{length_map_upto, get_or_map_upto, map_same}
use Rattle.plank_core.specs.laws.Folds.{bind_long, bind_at}
use Rattle.sir_data.specs.Pages.{word_at, bytes_of}
use Rattle.sir_data.specs.Paging.{words_of}

-- each below 256, as the elements of a byte slice are
abbrev pub Bytes : List ℕ → Type 0
Bytes s = (i : ℕ) → i < length s → slice_index s i < 256

-- each below 2^32, as words are
abbrev pub Words : List ℕ → Type 0
Words w = (i : ℕ) → i < length w → slice_index w i < 2 ^ 32

pub length_bytes : (xs : List ℕ) → length (bind xs bytes_of) ≡ 4 * length xs
length_bytes xs = bind_long bytes_of 4 xs (λ x. refl)

-- ---- words to bytes to words

-- word i of some words as bytes
pub word_bytes : (xs : List ℕ) (i : ℕ) → i < length xs → slice_index xs i < 4294967296 → word_at (bind xs bytes_of) i ≡ slice_index xs i
word_bytes [] i h l = absurd (omega arith)
word_bytes (x ∷ xs) zero h l =
    let p : x / 65536 ≡ x / 256 / 256 = omega arith in
    let q : x / 16777216 ≡ x / 65536 / 256 = omega arith in
    let a : x ≡ 256 * (x / 256) + x % 256 = omega arith in
    let b : x / 256 ≡ 256 * (x / 65536) + x / 256 % 256 = omega arith in
    let d : x / 65536 ≡ 256 * (x / 16777216) + x / 65536 % 256 = omega arith in
    let f : x / 16777216 % 256 ≡ x / 16777216 = omega arith in
    rw f (omega (arith, a, b, d))
word_bytes (x ∷ xs) (suc i) h l =
    let e₀ : 4 * suc i ≡ suc (suc (suc (suc (4 * i)))) = omega arith in
    let e₁ : 4 * suc i + 1 ≡ suc (suc (suc (suc (4 * i + 1)))) = omega arith in
    let e₂ : 4 * suc i + 2 ≡ suc (suc (suc (suc (4 * i + 2)))) = omega arith in
    let e₃ : 4 * suc i + 3 ≡ suc (suc (suc (suc (4 * i + 3)))) = omega arith in
    rw (e₁, e₂, e₃, e₀) (word_bytes xs i (omega arith) l)

pub length_words : (s : List ℕ) → length (words_of s) ≡ length s / 4
unfolding words_of
length_words s = length_map_upto (word_at s) (length s / 4)

pub words_at : (s : List ℕ) (i : ℕ) → i < length s / 4 → slice_index (words_of s) i ≡ word_at s i
unfolding words_of
words_at s i l = get_or_map_upto (word_at s) (length s / 4) i 0 l

-- word i of n bytes from word a on
pub word_part : (s : List ℕ) (a n i : ℕ) → 4 * i + 4 ≤ n → word_at (take n (drop (4 * a) s)) i ≡ word_at s (a + i)
word_part s a n i h =
    let byte : (k : ℕ) → k < 4 → slice_index (take n (drop (4 * a) s)) (4 * i + k) ≡ slice_index s (4 * (a + i) + k) =
    λ k l. get_or-take n (drop (4 * a) s) (4 * i + k) 0 (omega arith) ∙ get_or-drop (4 * a) s (4 * i + k) 0 ∙ ap (λ (j : ℕ). slice_index s j) (omega arith) in
    let e : 4 * i + 0 ≡ 4 * i = omega arith in
    let f : 4 * (a + i) + 0 ≡ 4 * (a + i) = omega arith in
    let first = rw (e, f) at (byte 0 (omega arith)) in
    rw (first, byte 1 (omega arith), byte 2 (omega arith), byte 3 (omega arith))

-- n words from word a on
pub words_part : (s : List ℕ) (a n : ℕ) → 4 * a + 4 * n ≤ length s → words_of (take (4 * n) (drop (4 * a) s)) ≡ map (λ i. word_at s (a + i)) (upto n)
unfolding words_of
words_part s a n h =
    let l : length (take (4 * n) (drop (4 * a) s)) / 4 ≡ n = omega (arith, length-take-le (4 * n) (drop (4 * a) s), length-drop (4 * a) s) in
    rw l (map_same (word_at (take (4 * n) (drop (4 * a) s))) (λ i. word_at s (a + i)) n (λ i k. word_part s a (4 * n) i (omega arith)))

pub words_back : (ws : List ℕ) → Words ws → words_of (bind ws bytes_of) ≡ ws
words_back ws h =
    let n : length (bind ws bytes_of) / 4 ≡ length ws = omega (arith, length_bytes ws) in
    let e : length (words_of (bind ws bytes_of)) ≡ length ws = length_words (bind ws bytes_of) ∙ n in
    ext_get_or 0 (words_of (bind ws bytes_of)) ws e (λ i l. words_at (bind ws bytes_of) i (omega arith) ∙ word_bytes ws i (omega arith) (h i (omega arith)))

-- ---- bytes to words to bytes

-- a word taken apart by its lowest byte
low : (a b : ℕ) → a < 256 → (a + 256 * b) % 256 ≡ a
low a b h = omega arith

high : (a b : ℕ) → a < 256 → (a + 256 * b) / 256 ≡ b
high a b h = omega arith

nested : (a b c d : ℕ) → a + 256 * b + 65536 * c + 16777216 * d ≡ a + 256 * (b + 256 * (c + 256 * d))
nested a b c d = omega arith

-- four bytes, and the bytes of their word
apart : (a b c d : ℕ) → a < 256 → b < 256 → c < 256 → d < 256 → bytes_of (a + 256 * b + 65536 * c + 16777216 * d) ≡ a ∷ b ∷ c ∷ d ∷ []
apart a b c d ha hb hc hd =
    let n = a + 256 * (b + 256 * (c + 256 * d)) in
    let e2 : n / 65536 ≡ c + 256 * d = sym (div-div-eq-div-mul n 256 256) ∙ rw (high a (b + 256 * (c + 256 * d)) ha) (high b (c + 256 * d) hb) in
    let e3 : n / 16777216 ≡ d = sym (div-div-eq-div-mul n 65536 256) ∙ rw e2 (high c d hc) in
    rw (nested a b c d, e2, e3, high a (b + 256 * (c + 256 * d)) ha, low a (b + 256 * (c + 256 * d)) ha, low b (c + 256 * d) hb, low c d hc, mod-eq_of_lt hd)

-- one of the four from place 4 i on
one_of : (s : List ℕ) (i k : ℕ) → k < 4 → slice_index (slice_index s (4 * i) ∷ slice_index s (4 * i + 1) ∷ slice_index s (4 * i + 2) ∷ slice_index s (4 * i + 3) ∷ []) k ≡ slice_index s (4 * i + k)
one_of s i zero h = let e : 4 * i + 0 ≡ 4 * i = omega arith in rw e
one_of s i (suc zero) h = refl
one_of s i (suc (suc zero)) h = refl
one_of s i (suc (suc (suc zero))) h = refl
one_of s i (suc (suc (suc (suc k)))) h = absurd (omega arith)

module _ (s : List ℕ) (bytes : Bytes s) where
  -- a word of bytes fits 32 bits
  pub word_small : (i : ℕ) → 4 * i + 4 ≤ length s → word_at s i < 2 ^ 32
  word_small i l = omega (arith, bytes (4 * i) (omega arith), bytes (4 * i + 1) (omega arith), bytes (4 * i + 2) (omega arith), bytes (4 * i + 3) (omega arith))

  pub words_small : Words (words_of s)
  words_small i l =
      let k : i < length s / 4 = omega (arith, length_words s) in
      rw (words_at s i k) (word_small i (omega arith))

  -- byte k of word i
  byte_back : (i k : ℕ) → i < length s / 4 → k < 4 → slice_index (bytes_of (word_at s i)) k ≡ slice_index s (4 * i + k)
  byte_back i k l h =
      ap (λ (xs : List ℕ). slice_index xs k) (apart (slice_index s (4 * i)) (slice_index s (4 * i + 1)) (slice_index s (4 * i + 2)) (slice_index s (4 * i + 3))
      (bytes (4 * i) (omega arith)) (bytes (4 * i + 1) (omega arith)) (bytes (4 * i + 2) (omega arith)) (bytes (4 * i + 3) (omega arith)))
      ∙ one_of s i k h

  pub bytes_back : length s % 4 ≡ 0 → bind (words_of s) bytes_of ≡ s
  bytes_back whole =
      let long : length (bind (words_of s) bytes_of) ≡ length s = omega (arith, length_bytes (words_of s), length_words s) in
      ext_get_or 0 (bind (words_of s) bytes_of) s long (λ j l.
      let q : 4 * (j / 4) + j % 4 ≡ j = omega arith in
      let i : j / 4 < length s / 4 = omega arith in
      let k : j % 4 < 4 = omega arith in
      rw q at (bind_at bytes_of 4 (words_of s) (λ x. refl) (j / 4) (j % 4) 0 0 (omega (arith, length_words s)) k
      ∙ ap (λ (x : ℕ). slice_index (bytes_of x) (j % 4)) (words_at s (j / 4) i) ∙ byte_back (j / 4) (j % 4) i k))
