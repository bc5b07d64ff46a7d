-- Pages made and read: words to pages to words, and pages to words to pages.
use Rattle.std.specs.Prelude.{◌≡◌, ℕ, zero, suc, ◌+◌, ◌-◌, ◌*◌, ◌/◌, ◌%◌, ◌^◌, ◌<◌, ◌≤◌, Bool, true, false, not, List, [], ◌∷◌, ◌++◌, map, length, replicate, ◌==◌, nat_lt}
use Rattle.std.proofs.Math.Path.{refl, sym, ap}
use Rattle.std.proofs.Common.{◌∙◌, mod-lt, ext_get_or, eq-eqb, ne_eqb, le-ltb, ltb-true, ltb-false, eqb-true}
use native.Mathlib.Omega.{arith}
use Rattle.std.proofs.Math.ListN.{length-append, get_or-append, get_or-eq_default}
use Rattle.std.proofs.lemmas.List.{length-replicate}
use Rattle.std.proofs.Math.Seq.{get_or-append_seam}
use Rattle.std.proofs.lemmas.Bool.{not-false}
use Rattle.plank_core.specs.Lists.{upto, bind, sum}
use Rattle.plank_core.specs.laws.Lists.{zero_at, any_none, any_not}
use Rattle.plank_core.specs.laws.Loops.{upto_more, bind_snoc, bind_append, length_count, get_or_count, length_map_upto, get_or_map_upto, map_same, bind_same}
use Rattle.plank_core.specs.laws.Folds.{bind_long, bind_at}
use Rattle.sir_data.specs.Pages.{word_at, pages, pages_for, page_word, check_of, payload, bytes_of, bad_number, bad_check}
use Rattle.sir_data.specs.Records.{word}
use Rattle.sir_data.specs.Rules.{first, page_rules}
use Rattle.sir_data.specs.Paging.{padded, unchecked, page_of, page_words, pages_of, words_of}
use Rattle.sir_data.specs.laws.Bytes.{Bytes, Words, length_bytes, word_bytes, length_words, words_at, word_small, bytes_back}
use Rattle.sir_data.specs.laws.Image.{length_payload}
use Rattle.sir_data.specs.laws.Rules.{kept}
use Rattle.sir_data.specs.laws.WellFormed.{ors_each}

-- ---- words and their padding

-- zeros after words change no word
pub zeros_after : (w : List ℕ) (n i : ℕ) → word (w ++ replicate n 0) i ≡ word w i
zeros_after [] n i = zero_at n i
zeros_after (x ∷ w) n zero = refl
zeros_after (x ∷ w) n (suc i) = zeros_after w n i

pub padded_word : (w : List ℕ) (i : ℕ) → word (padded w) i ≡ word w i
padded_word w i = zeros_after w (126 * pages_for (length w) - length w) i

pub padded_length : (w : List ℕ) → length (padded w) ≡ 126 * pages_for (length w)
padded_length w =
    let z : ℕ = 126 * pages_for (length w) - length w in
    let most : length w ≤ 126 * pages_for (length w) = omega arith in
    length-append w (replicate z 0) ∙ omega (arith, length-replicate z zero)

-- a word past the last is 0
pub word_range : (w : List ℕ) → Words w → (i : ℕ) → word w i < 2 ^ 32
word_range w ws i = go (nat_lt i (length w)) refl
  where
    go : (t : Bool) → nat_lt i (length w) ≡ t → word w i < 2 ^ 32
    go true e = ws i (ltb-true i (length w) e)
    go false e = rw (get_or-eq_default w 0 (ltb-false i (length w) e)) (omega arith)

-- ---- the check

-- it goes by the words below 127
pub check_same : (f g : ℕ → ℕ) → ((i : ℕ) → i < 127 → f i ≡ g i) → check_of f ≡ check_of g
unfolding check_of
check_same f g h = ap (λ (xs : List ℕ). sum xs % 2 ^ 32) (map_same (λ i. f i * (253 - 2 * i)) (λ i. g i * (253 - 2 * i)) 127 (λ i l. ap (λ (x : ℕ). x * (253 - 2 * i)) (h i l)))

check_small : (f : ℕ → ℕ) → check_of f < 2 ^ 32
unfolding check_of
check_small f = mod-lt (sum (map (λ i. f i * (253 - 2 * i)) (upto 127))) {m = 2 ^ 32} (omega arith)

-- ---- one page

module _ (w : List ℕ) (p : ℕ) where
  pub unchecked_length : length (unchecked w p) ≡ 127
  unfolding unchecked
  unchecked_length = ap suc (length_map_upto (λ k. word w (126 * p + k)) 126)

  unchecked_first : word (unchecked w p) 0 ≡ p
  unfolding unchecked
  unchecked_first = refl

  unchecked_next : (k : ℕ) → k < 126 → word (unchecked w p) (1 + k) ≡ word w (126 * p + k)
  unfolding unchecked
  unchecked_next k h = let e : 1 + k ≡ suc k = omega arith in rw e (get_or_map_upto (λ j. word w (126 * p + j)) 126 k 0 h)

  pub page_length : length (page_of w p) ≡ 128
  unfolding page_of
  page_length = length-append (unchecked w p) _ ∙ omega (arith, unchecked_length)

  page_part : (i : ℕ) → i < 127 → word (page_of w p) i ≡ word (unchecked w p) i
  unfolding page_of
  page_part i h = get_or-append (unchecked w p) _ 0 i (omega (arith, unchecked_length))

  page_payload : (k : ℕ) → k < 126 → word (page_of w p) (1 + k) ≡ word w (126 * p + k)
  page_payload k h = page_part (1 + k) (omega arith) ∙ unchecked_next k h

  page_check : word (page_of w p) 127 ≡ check_of (word (unchecked w p))
  unfolding page_of
  page_check = rw (← unchecked_length) (get_or-append_seam (unchecked w p) (check_of (word (unchecked w p))) [] 0)

  -- its words below the check fit 32 bits where those of w do
  pub unchecked_small : Words w → p < 2 ^ 32 → (i : ℕ) → i < 127 → word (unchecked w p) i < 2 ^ 32
  unchecked_small ws far zero h = rw unchecked_first far
  unchecked_small ws far (suc k) h =
      let z : 1 + k ≡ suc k = omega arith in
      rw (← z) (rw (unchecked_next k (omega arith)) (word_range w ws (126 * p + k)))

-- ---- all pages

module _ (w : List ℕ) where
  abbrev n : ℕ
  n = pages_for (length w)

  pub page_words_length : length (page_words w) ≡ 128 * n
  page_words_length = bind_long (page_of w) 128 (upto n) (page_length w) ∙ rw (length_count 0 n)

  -- word i of page q
  page_words_at : (q i : ℕ) → q < n → i < 128 → word (page_words w) (128 * q + i) ≡ word (page_of w q) i
  page_words_at q i l h =
      bind_at (page_of w) 128 (upto n) (page_length w) q i 0 0 (omega (arith, length_count 0 n)) h
      ∙ ap (λ (p : ℕ). word (page_of w p) i) (get_or_count 0 n q 0 l ∙ omega arith)

  pub pages_length : length (pages_of w) ≡ 512 * n
  unfolding pages_of
  pages_length = length_bytes (page_words w) ∙ omega (arith, page_words_length)

  pages_count : pages (pages_of w) ≡ n
  pages_count = omega (arith, pages_length)

  -- word i of page q, as it is read
  page_word_lem : (q i : ℕ) → q < n → i < 128 → word (page_of w q) i < 2 ^ 32 → page_word (pages_of w) q i ≡ word (page_of w q) i
  unfolding pages_of
  page_word_lem q i l h b =
      let e = page_words_at q i l h in
      word_bytes (page_words w) (128 * q + i) (omega (arith, page_words_length)) (rw e b) ∙ e

  module _ (ws : Words w) where
    -- read as payload, words stand with their padding
    pub payload_pages : payload (pages_of w) ≡ padded w
    unfolding payload
    payload_pages =
        let at : ℕ → ℕ = λ k. page_word (pages_of w) (k / 126) (1 + k % 126) in
        rw pages_count
        (ext_get_or 0 (map at (upto (126 * n))) (padded w) (length_map_upto at (126 * n) ∙ sym (padded_length w)) (λ k l.
        let lk : k < 126 * n = omega (arith, length_map_upto at (126 * n)) in
        let lq : k / 126 < n = omega arith in
        let lr : k % 126 < 126 = omega arith in
        let q : 126 * (k / 126) + k % 126 ≡ k = omega arith in
        let e : word (page_of w (k / 126)) (1 + k % 126) ≡ word w k = page_payload w (k / 126) (k % 126) lr ∙ rw q in
        get_or_map_upto at (126 * n) k 0 lk
        ∙ page_word_lem (k / 126) (1 + k % 126) lq (omega arith) (rw e (word_range w ws k)) ∙ e ∙ sym (padded_word w k)))

    module _ (few : n ≤ 117) where
      -- the words of a page below its check, as they are read
      below_check : (q i : ℕ) → q < n → i < 127 → page_word (pages_of w) q i ≡ word (unchecked w q) i
      below_check q i l h =
          let e = page_part w q i h in
          page_word_lem q i l (omega arith) (rw e (unchecked_small w q ws (omega arith) i h)) ∙ e

      number_kept : (q : ℕ) → q < n → page_word (pages_of w) q 0 ≡ q
      number_kept q l = below_check q 0 l (omega arith) ∙ unchecked_first w q

      check_kept : (q : ℕ) → q < n → page_word (pages_of w) q 127 ≡ check_of (page_word (pages_of w) q)
      check_kept q l =
          page_word_lem q 127 l (omega arith) (rw (page_check w q) (check_small (word (unchecked w q)))) ∙ page_check w q
          ∙ check_same (word (unchecked w q)) (page_word (pages_of w) q) (λ i h. sym (below_check q i l h))

      no_bad_number : bad_number (pages_of w) ≡ false
      no_bad_number = rw pages_count (any_none (λ p. not (page_word (pages_of w) p 0 == p)) 0 n (λ q a l. ap not (eq-eqb (page_word (pages_of w) q 0) q (number_kept q (omega arith)))))

      no_bad_check : bad_check (pages_of w) ≡ false
      no_bad_check =
          rw pages_count
          (any_none (λ p. not (page_word (pages_of w) p 127 == check_of (page_word (pages_of w) p))) 0 n
          (λ q a l. ap not (eq-eqb (page_word (pages_of w) q 127) (check_of (page_word (pages_of w) q)) (check_kept q (omega arith)))))

      -- pages that are made are in order
      pub pages_kept : 0 < length w → first (page_rules (pages_of w)) ≡ 0
      pages_kept some =
          let len = length (pages_of w) in
          let e = pages_length in
          let n1 : ¬ (len ≡ 0) = λ z. omega arith in
          let e2 : len % 512 ≡ 0 = omega arith in
          let e3 : len ≤ 59904 = omega arith in
          rw (ne_eqb len 0 n1, eq-eqb (len % 512) 0 e2, le-ltb 59904 len e3, no_bad_number, no_bad_check)

-- ---- one page more

pub pages_next : (w : List ℕ) (p : ℕ) → bind (bind (upto (p + 1)) (page_of w)) bytes_of ≡ bind (bind (upto p) (page_of w)) bytes_of ++ bind (page_of w p) bytes_of
pages_next w p =
    ap (λ (ps : List ℕ). bind (bind ps (page_of w)) bytes_of) (upto_more p)
    ∙ ap (λ (ws : List ℕ). bind ws bytes_of) (bind_snoc (page_of w) (upto p) p) ∙ bind_append bytes_of (bind (upto p) (page_of w)) (page_of w p)

-- ---- pages go by the words and their number alone

page_same : (w v : List ℕ) (p : ℕ) → ((i : ℕ) → word w i ≡ word v i) → page_of w p ≡ page_of v p
unfolding page_of unchecked
page_same w v p h =
    ap (λ (xs : List ℕ). (p ∷ xs) ++ (check_of (word (p ∷ xs)) ∷ [])) (map_same (λ k. word w (126 * p + k)) (λ k. word v (126 * p + k)) 126 (λ k l. h (126 * p + k)))

pub pages_same : (w v : List ℕ) → pages_for (length w) ≡ pages_for (length v) → ((i : ℕ) → word w i ≡ word v i) → pages_of w ≡ pages_of v
unfolding pages_of
pages_same w v e h =
    rw e (ap (λ (xs : List ℕ). bind xs bytes_of) (bind_same (page_of w) (page_of v) (upto (pages_for (length v))) (λ p. page_same w v p h)))

-- words with their padding have the pages of the words alone
pub padded_pages : (w : List ℕ) → pages_of (padded w) ≡ pages_of w
padded_pages w = pages_same (padded w) w (omega (arith, padded_length w)) (padded_word w)

-- ---- pages in order, read and made again

pub payload_small : (s : List ℕ) → Bytes s → Words (payload s)
unfolding payload
payload_small s bytes i l =
    let at : ℕ → ℕ = λ k. word_at s (128 * (k / 126) + (1 + k % 126)) in
    let k : i < 126 * pages s = omega (arith, length_map_upto at (126 * pages s)) in
    rw (get_or_map_upto at (126 * pages s) i 0 k) (word_small s bytes (128 * (i / 126) + (1 + i % 126)) (omega arith))

module _ (s : List ℕ) (bytes : Bytes s) (kept_pages : first (page_rules s) ≡ 0) where
  abbrev w : List ℕ
  w = payload s

  abbrev m : ℕ
  m = pages s

  size : length s ≡ 512 * m
  size =
      let k = ors_each (length s == 0) (not (length s % 512 == 0) ∷ nat_lt 59904 (length s) ∷ []) (kept 1 (page_rules s) refl kept_pages) in
      let whole = eqb-true (length s % 512) 0 (not-false _ k.1.0) in
      omega arith

  payload_word : (q k : ℕ) → q < m → k < 126 → word w (126 * q + k) ≡ page_word s q (1 + k)
  unfolding payload
  payload_word q k l h =
      let a : (126 * q + k) / 126 ≡ q = omega arith in
      let b : (126 * q + k) % 126 ≡ k = omega arith in
      get_or_map_upto (λ j. page_word s (j / 126) (1 + j % 126)) (126 * m) (126 * q + k) 0 (omega arith) ∙ rw (a, b)

  number_is : (q : ℕ) → q < m → page_word s q 0 ≡ q
  number_is q l = eqb-true (page_word s q 0) q (not-false _ (any_not (λ p. not (page_word s p 0 == p)) 0 m q (kept 2 (page_rules s) refl kept_pages) (omega arith) (omega arith)))

  read_below : (q i : ℕ) → q < m → i < 127 → page_word s q i ≡ word (unchecked w q) i
  read_below q zero l h = number_is q l ∙ sym (unchecked_first w q)
  read_below q (suc k) l h =
      let z : 1 + k ≡ suc k = omega arith in
      rw (← z) (sym (payload_word q k l (omega arith)) ∙ sym (unchecked_next w q k (omega arith)))

  check_is : (q : ℕ) → q < m → page_word s q 127 ≡ check_of (word (unchecked w q))
  check_is q l =
      eqb-true (page_word s q 127) (check_of (page_word s q)) (not-false _ (any_not (λ p. not (page_word s p 127 == check_of (page_word s p))) 0 m q (kept 3 (page_rules s) refl kept_pages) (omega arith) (omega arith)))
      ∙ check_same (page_word s q) (word (unchecked w q)) (λ i h. read_below q i l h)

  one_page : (q i : ℕ) → q < m → i < 128 → page_word s q i ≡ word (page_of w q) i
  one_page q i l h = go (nat_lt i 127) refl
    where
      go : (t : Bool) → nat_lt i 127 ≡ t → page_word s q i ≡ word (page_of w q) i
      go true e = let k = ltb-true i 127 e in read_below q i l k ∙ sym (page_part w q i k)
      go false e = let k = ltb-false i 127 e in let z : i ≡ 127 = omega arith in rw z (check_is q l ∙ sym (page_check w q))

  same_words : words_of s ≡ page_words w
  same_words =
      let count_is : pages_for (length w) ≡ m = omega (arith, length_payload s) in
      let e : length (words_of s) ≡ 128 * m = omega (arith, length_words s, size) in
      ext_get_or 0 (words_of s) (page_words w) (e ∙ sym (page_words_length w ∙ rw count_is)) (λ j l.
      let lq : j / 128 < m = omega arith in
      let li : j % 128 < 128 = omega arith in
      let q : 128 * (j / 128) + j % 128 ≡ j = omega arith in
      words_at s j (omega (arith, size)) ∙ ap (word_at s) (sym q) ∙ one_page (j / 128) (j % 128) lq li
      ∙ sym (page_words_at w (j / 128) (j % 128) (omega arith) li) ∙ ap (word (page_words w)) q)

  -- byte for byte
  pub pages_back : pages_of (payload s) ≡ s
  unfolding pages_of
  pages_back = ap (λ (xs : List ℕ). bind xs bytes_of) (sym same_words) ∙ bytes_back s bytes (omega (arith, size))
