-- Laws of putting words into a slice.
use Rattle.std.specs.Prelude.{◌≡◌, refl, Bool, true, false, cond, List, [], ◌∷◌, ◌++◌, ℕ, suc, ◌+◌, ◌*◌, ◌≤◌, ◌<◌, length, take, drop, leb}
use Rattle.std.proofs.Common.{sym, ap, ◌∙◌, append_assoc, arith, length-append, length-drop, take_at, drop_at, drop-drop, length-take-le, le-leb, leb-true}
use Rattle.std.proofs.lemmas.Bool.{lt-leb}
use Rattle.plank_core.specs.Lists.{bind}
use Rattle.plank_core.specs.laws.Folds.{bind_long}
use Rattle.sir_data.specs.Pages.{bytes_of}
pub use Rattle.sir_data.specs.laws.Bytes.{length_bytes}
use Rattle.sir_analyses.specs.Liveness.{Interval}
use Rattle.sir_analyses.specs.Answers.{interval_words}
use Rattle.sir_analyses.specs.inner.Writing.{word_put, words_put}

-- an interval is three words
pub interval_count : (is : List Interval) → length (interval_words is) ≡ 3 * length is
interval_count is = bind_long (λ i. i.block ∷ i.from ∷ i.to ∷ []) 3 is (λ i. refl)

put_past : (limit n x : ℕ) (out : List ℕ) → limit < 4 * n + 4 → word_put limit n x out ≡ out
unfolding word_put
put_past limit n x out h = rw (lt-leb (4 * n + 4) limit h)

-- nothing is put past the limit
pub puts_past : (limit n : ℕ) (xs out : List ℕ) → limit < 4 * n + 4 → words_put limit n xs out ≡ out
unfolding words_put
puts_past limit n [] out h = refl
puts_past limit n (x ∷ xs) out h = rw (put_past limit n x out h) (puts_past limit (n + 1) xs out (omega arith))

pub puts_append : (limit n : ℕ) (xs ys out : List ℕ) → words_put limit n (xs ++ ys) out ≡ words_put limit (n + length xs) ys (words_put limit n xs out)
unfolding words_put
puts_append limit n [] ys out = let e : n + 0 ≡ n = omega arith in rw e
puts_append limit n (x ∷ xs) ys out =
    let e : n + 1 + length xs ≡ n + suc (length xs) = omega arith in
    puts_append limit (n + 1) xs ys (word_put limit n x out) ∙ rw e

put_length : (limit n x : ℕ) (out : List ℕ) → limit ≤ length out → length (word_put limit n x out) ≡ length out
unfolding word_put
put_length limit n x out h = go (leb (4 * n + 4) limit) refl
  where
    go : (t : Bool) → leb (4 * n + 4) limit ≡ t → length (cond t (take (4 * n) out ++ bytes_of x ++ drop (4 * n + 4) out) out) ≡ length out
    go true e =
        let l : 4 * n + 4 ≤ limit = leb-true (4 * n + 4) limit e in
        simp (length-append, length-drop) (omega (arith, length-take-le (4 * n) out (omega arith)))
    go false e = refl

pub puts_length : (limit n : ℕ) (xs out : List ℕ) → limit ≤ length out → length (words_put limit n xs out) ≡ length out
unfolding words_put
puts_length limit n [] out h = refl
puts_length limit n (x ∷ xs) out h =
    let e = put_length limit n x out h in
    puts_length limit (n + 1) xs (word_put limit n x out) (omega arith) ∙ e

-- what stands before the words that fit: front ++ bytes of xs ++ the rest
pub puts_fit : (limit n : ℕ) (xs front back : List ℕ) → length front ≡ 4 * n → 4 * n + 4 * length xs ≤ limit → 4 * length xs ≤ length back
    → words_put limit n xs (front ++ back) ≡ front ++ (bind xs bytes_of ++ drop (4 * length xs) back)
unfolding words_put word_put
puts_fit limit n [] front back f h l = refl
puts_fit limit n (x ∷ xs) front back f h l =
    let t : leb (4 * n + 4) limit ≡ true = le-leb (4 * n + 4) limit (omega arith) in
    let a : take (4 * n) (front ++ back) ≡ front = take_at front back (4 * n) f in
    let d : drop (4 * n + 4) (front ++ back) ≡ drop 4 back = sym (drop-drop 4 (4 * n) (front ++ back)) ∙ ap (drop 4) (drop_at front back (4 * n) f) in
    let g : length (front ++ bytes_of x) ≡ 4 * (n + 1) = length-append front (bytes_of x) ∙ omega arith in
    let k : 4 * length xs ≤ length (drop 4 back) = simp length-drop (omega arith) in
    let e : 4 + 4 * length xs ≡ 4 * suc (length xs) = omega arith in
    rw (t, a, d)
    (puts_fit limit (n + 1) xs (front ++ bytes_of x) (drop 4 back) g (omega arith) k
    ∙ append_assoc front (bytes_of x) _
    ∙ ap (λ (y : List ℕ). front ++ (bytes_of x ++ (bind xs bytes_of ++ y))) (drop-drop (4 * length xs) 4 back ∙ ap (λ (i : ℕ). drop i back) e))

-- an answer within the limit is written whole, and the bytes past it stay
pub puts_within : (limit : ℕ) (xs out : List ℕ) → 4 * length xs ≤ limit → 4 * length xs ≤ length out → words_put limit 0 xs out ≡ bind xs bytes_of ++ drop (4 * length xs) out
puts_within limit xs out h l = puts_fit limit 0 xs [] out refl (omega arith) l
