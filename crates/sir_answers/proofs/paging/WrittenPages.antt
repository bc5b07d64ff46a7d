-- Pages written into a slice: one, and all of an answer.
use mathlib.Core.Path.{◌≡◌, sym, ap, ◌∙◌}
use mathlib.Core.List.{List, [], ◌∷◌, ◌++◌}
use Prim.Native.Nat.{ℕ, ◌+◌, ◌-◌, ◌*◌, ◌/◌, ◌^◌, ◌≤◌, ◌<◌}
use native.Mathlib.Omega.{arith}
use lib.ListN.{length, get_or, take, drop, get_or-append}
use lib.Seq.{length-take-le}
use Rattle.plank_core.specs.Lists.{upto, bind}
use Rattle.plank_core.specs.laws.Loops.{length_count, fill_more}
use Rattle.plank_core.specs.laws.Folds.{bind_long}
use Rattle.sir_data.specs.Pages.{word_at, pages_for, page_word, check_of, bytes_of}
use Rattle.sir_data.specs.Records.{word}
use Rattle.sir_data.specs.Paging.{unchecked, page_of, page_words}
use Rattle.sir_data.specs.laws.Bytes.{Words, length_bytes, word_bytes}
use Rattle.sir_data.specs.laws.Paging.{check_same, unchecked_length, unchecked_small, page_length, page_words_length, pages_next}
use Rattle.sir_data.specs.laws.Records.{count_part}
use Rattle.std.specs.Prelude.{Ok}
use Rattle.sir_analyses.specs.inner.Outcomes.{Finished}
use Rattle.sir_analyses.specs.inner.Writing.{Puts}
use Rattle.sir_analyses.proofs.answers.Calls.{finish_is, finish_fits}
use Rattle.sir_analyses.proofs.answers.Writing.{puts_then, puts_as, puts_within}

-- word i of words that were written to the front
word_front : (xs rest : List ℕ) (i : ℕ) → i < length xs → get_or xs i 0 < 2 ^ 32 → word_at (bind xs bytes_of ++ rest) i ≡ get_or xs i 0
word_front xs rest i l h =
    let e : 4 * i + 0 ≡ 4 * i = omega arith in
    let at_0 : get_or (bind xs bytes_of ++ rest) (4 * i) 0 ≡ get_or (bind xs bytes_of) (4 * i) 0 = rw e at (at 0 (omega arith)) in
    rw (at_0, at 1 (omega arith), at 2 (omega arith), at 3 (omega arith)) (word_bytes xs i l h)
  where
    at : (k : ℕ) → k < 4 → get_or (bind xs bytes_of ++ rest) (4 * i + k) 0 ≡ get_or (bind xs bytes_of) (4 * i + k) 0
    at k m = get_or-append (bind xs bytes_of) rest 0 (4 * i + k) (omega (arith, length_bytes xs))

-- what is put into a slice with room for it
put_within : {xs out out' : List ℕ} {r : ℕ} → 4 * length xs ≤ length out → Puts 0 xs out out' r → out' ≡ bind xs bytes_of ++ drop (4 * length xs) out
put_within {xs} {out} h p = p.left ∙ puts_within (length out) xs out h h

-- ---- one page: its number, its words, then the check of what stands there

module _ (w : List ℕ) (page : ℕ) (ws : Words w) (held : 126 * page + 126 ≤ length w) (few : length w ≤ 14742) where
  numbered : page ∷ take 126 (drop (126 * page) w) ≡ unchecked w page
  unfolding unchecked
  numbered =
      let e : 126 * page + 0 ≡ 126 * page = omega arith in
      ap (λ (xs : List ℕ). page ∷ xs) (ap (λ (k : ℕ). take 126 (drop k w)) (sym e) ∙ sym (count_part w (126 * page) 0 126 (omega arith)))

  module _ (out : List ℕ) (room : 512 ≤ length out) {out₁ : List ℕ} {m : ℕ} (p : Puts 0 (unchecked w page) out out₁ m) where
    -- the check of the bytes is that of the words
    check_written : check_of (page_word out₁ 0) ≡ check_of (word (unchecked w page))
    check_written =
        let long = unchecked_length w page in
        check_same (page_word out₁ 0) (word (unchecked w page)) (λ i h.
        ap (word_at out₁) (omega arith) ∙ ap (λ (xs : List ℕ). word_at xs i) (put_within (omega arith) p)
        ∙ word_front (unchecked w page) (drop (4 * length (unchecked w page)) out) i (omega arith) (unchecked_small w page ws (omega arith) i h))

    pub page_written : {out₂ : List ℕ} {check r : ℕ} → check ≡ check_of (page_word out₁ 0) → Puts m (check ∷ []) out₁ out₂ r → out₂ ≡ bind (page_of w page) bytes_of ++ drop 512 out
    unfolding page_of
    page_written {check = check} e q =
        let whole : unchecked w page ++ (check ∷ []) ≡ page_of w page = ap (λ (x : ℕ). unchecked w page ++ (x ∷ [])) (e ∙ check_written) in
        let long : length (page_of w page) ≡ 128 = page_length w page in
        let n : 4 * length (page_of w page) ≡ 512 = omega arith in
        rw n at (put_within (omega arith) (puts_as whole (puts_then p q)))

  pub numbered_put : (out : List ℕ) {mid out' part : List ℕ} {n m : ℕ} → part ≡ take 126 (drop (126 * page) w) → Puts 0 (page ∷ []) out mid n → Puts n part mid out' m → Puts 0 (unchecked w page) out out' m
  numbered_put out {part = part} e a b = puts_as (ap (λ (xs : List ℕ). page ∷ xs) e ∙ numbered) (puts_then a b)

-- ---- some pages, and one more

module _ (w : List ℕ) where
  -- the bytes of the first p pages
  abbrev pub pages_to : ℕ → List ℕ
  pages_to p = bind (bind (upto p) (page_of w)) bytes_of

  pub pages_to_length : (p : ℕ) → length (pages_to p) ≡ 512 * p
  pages_to_length p = length_bytes (bind (upto p) (page_of w)) ∙ omega (arith, bind_long (page_of w) 128 (upto p) (page_length w), length_count 0 p)

  pub page_more : (p start : ℕ) (d : List ℕ) {out part : List ℕ} → start ≡ 512 * p → out ≡ pages_to p ++ drop start d
      → part ≡ bind (page_of w p) bytes_of ++ drop 512 (take (length out - start) (drop start out))
      → take start out ++ (part ++ drop (length out - start) (drop start out)) ≡ pages_to (p + 1) ++ drop (start + 512) d
  page_more p start d s e h =
      fill_more (pages_to p) (bind (page_of w p) bytes_of) start 512 d (pages_to_length p ∙ sym s) e h
      ∙ ap (λ (xs : List ℕ). xs ++ drop (start + 512) d) (sym (pages_next w p))

-- ---- all pages of an answer

pub pages_put : (w out : List ℕ) {end : ℕ} {part : List ℕ} → Finished (length (page_words w)) (length out) (Ok end)
    → part ≡ pages_to w (length (take end out) / 512) ++ drop (512 * (length (take end out) / 512)) (take end out)
    → Puts 0 (page_words w) (take end out) part (length (page_words w))
pages_put w out {end} {part} f e =
    let l : length (take end out) ≡ end = length-take-le end out (finish_fits f) in
    let k : length (take end out) / 512 ≡ pages_for (length w) = omega (arith, finish_is f, page_words_length w) in
    let m : 512 * pages_for (length w) ≡ 4 * length (page_words w) = omega (arith, page_words_length w) in
    record { next = omega arith; left = e ∙ rw (k, m) (sym (puts_within (length (take end out)) (page_words w) (take end out) (omega (arith, finish_is f)) (omega (arith, finish_is f)))) }
