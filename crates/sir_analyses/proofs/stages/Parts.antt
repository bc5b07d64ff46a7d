-- Parts of a flat array: what is read of them, and what becomes of them where another part, or one place, is written.
use mathlib.Core.Path.{◌≡◌, refl, sym, ap, ap₂, ◌∙◌}
use mathlib.Core.List.{List, [], ◌∷◌, ◌++◌}
use Prim.Native.Nat.{ℕ, ◌+◌, ◌-◌, ◌*◌, ◌/◌, ◌%◌, ◌≤◌, ◌<◌}
use native.Mathlib.Omega.{arith}
use native.Mathlib.Numerals.{add-one}
use lib.ListN.{length, get_or, take, drop, set, length-append, length-take, length-drop, take-append-drop}
use lib.Seq.{length-take-le, take-append-le, drop-append-le, take_at, drop_at, drop-drop, drop-set-add, drop-set-lt, take-set-lt, take-set-le, take-suc-set, take-take, get_or-take, get_or-drop}
use Rattle.plank_core.specs.inner.DenseIndexSet.{bit, contains}
use Rattle.sir_analyses.specs.inner.Stages.{part}

pub length_part : (from n : ℕ) (t : List ℕ) → from + n ≤ length t → length (part from n t) ≡ n
unfolding part
length_part from n t h = length-take-le n (drop from t) (omega (arith, length-drop from t))

-- a part goes by what stands before its end
part_front : (from n m : ℕ) (t : List ℕ) → from + n ≤ m → m ≤ length t → part from n t ≡ part from n (take m t)
unfolding part
part_front from n m t h l =
    let long : length (take m t) ≡ m = length-take-le m t l in
    ap (part from n) (sym (take-append-drop m t))
    ∙ ap (take n) (drop-append-le from (take m t) (drop m t) (omega arith))
    ∙ take-append-le n (drop from (take m t)) (drop m t) (omega (arith, length-drop from (take m t)))

pub same_front : (from n m : ℕ) (t u : List ℕ) → from + n ≤ m → m ≤ length t → m ≤ length u → take m t ≡ take m u → part from n t ≡ part from n u
same_front from n m t u h l k e = part_front from n m t h l ∙ ap (part from n) e ∙ sym (part_front from n m u h k)

-- a part goes by what stands from its start on
part_back : (from n m : ℕ) (t : List ℕ) → m ≤ from → part from n t ≡ part (from - m) n (drop m t)
unfolding part
part_back from n m t h =
    let e : m + (from - m) ≡ from = omega arith in
    ap (take n) (sym (drop-drop (from - m) m t ∙ ap (λ (i : ℕ). drop i t) e))

pub same_back : (from n m : ℕ) (t u : List ℕ) → m ≤ from → drop m t ≡ drop m u → part from n t ≡ part from n u
same_back from n m t u h e = part_back from n m t h ∙ ap (part (from - m) n) e ∙ sym (part_back from n m u h)

-- the numbers that a part of whole rows holds
pub contains_part : (k n : ℕ) (t : List ℕ) (i : ℕ) → i < 64 * n → contains (part (8 * k) n t) i ≡ contains t (512 * k + i)
unfolding part contains
contains_part k n t i h =
    let word : 8 * k + i / 64 ≡ (512 * k + i) / 64 = omega arith in
    let digit : i % 64 ≡ (512 * k + i) % 64 = omega arith in
    ap₂ (λ (x j : ℕ). bit x j) (get_or-take n (drop (8 * k) t) (i / 64) 0 (omega arith) ∙ get_or-drop (8 * k) t (i / 64) 0 ∙ ap (λ (j : ℕ). get_or t j 0) word) digit

-- ---- a part was lent, and is put back as ys

abbrev pub put_back : ℕ → ℕ → List ℕ → List ℕ → List ℕ
put_back a k t ys = take a t ++ (ys ++ drop k (drop a t))

module _ (a k : ℕ) (t ys : List ℕ) (long : length ys ≡ k) (fits : a + k ≤ length t) where
  front_long : length (take a t) ≡ a
  front_long = length-take-le a t (omega arith)

  pub put_part : part a k (put_back a k t ys) ≡ ys
  unfolding part
  put_part = ap (take k) (drop_at (take a t) (ys ++ drop k (drop a t)) a front_long) ∙ take_at ys (drop k (drop a t)) k long

  pub put_before : take a (put_back a k t ys) ≡ take a t
  put_before = take_at (take a t) (ys ++ drop k (drop a t)) a front_long

  pub put_after : drop (a + k) (put_back a k t ys) ≡ drop (a + k) t
  put_after = sym (drop-drop k a (put_back a k t ys)) ∙ ap (drop k) (drop_at (take a t) (ys ++ drop k (drop a t)) a front_long) ∙ drop_at ys (drop k (drop a t)) k long ∙ drop-drop k a t

  pub put_long : length (put_back a k t ys) ≡ length t
  put_long = omega (arith, length-append (take a t) (ys ++ drop k (drop a t)), length-append ys (drop k (drop a t)), front_long, length-drop k (drop a t), length-drop a t)

  pub put_low : (from n : ℕ) → from + n ≤ a → part from n (put_back a k t ys) ≡ part from n t
  put_low from n h = same_front from n a (put_back a k t ys) t h (omega (arith, put_long)) (omega arith) put_before

  pub put_high : (from n : ℕ) → a + k ≤ from → part from n (put_back a k t ys) ≡ part from n t
  put_high from n h = same_back from n (a + k) (put_back a k t ys) t h put_after

-- ---- one place is written

module _ (from n j x : ℕ) (t : List ℕ) where
  pub part_set : j < n → part from n (set t (from + j) x) ≡ set (part from n t) j x
  unfolding part
  part_set h = ap (take n) (drop-set-add from t j x) ∙ take-set-lt n (drop from t) j x h

  pub part_set_past : n ≤ j → part from n (set t (from + j) x) ≡ part from n t
  unfolding part
  part_set_past h = ap (take n) (drop-set-add from t j x) ∙ take-set-le n (drop from t) j x h

pub part_set_low : (from n i x : ℕ) (t : List ℕ) → i < from → part from n (set t i x) ≡ part from n t
unfolding part
part_set_low from n i x t h = ap (take n) (drop-set-lt from t i x h)

pub part_set_high : (from n i x : ℕ) (t : List ℕ) → from + n ≤ i → part from n (set t i x) ≡ part from n t
part_set_high from n i x t h =
    let e : i ≡ from + (i - from) = omega arith in
    ap (λ (k : ℕ). part from n (set t k x)) e ∙ part_set_past from n (i - from) x t (omega arith)

-- ---- a part that grows, and a shorter one

pub part_none : (from : ℕ) (t : List ℕ) → part from 0 t ≡ []
unfolding part
part_none from t = refl

pub part_most : (from n : ℕ) (t : List ℕ) → length (part from n t) ≤ n
unfolding part
part_most from n t = omega (arith, length-take n (drop from t))

pub part_get : (from n j : ℕ) (t : List ℕ) → j < n → get_or (part from n t) j 0 ≡ get_or t (from + j) 0
unfolding part
part_get from n j t h = get_or-take n (drop from t) j 0 h ∙ get_or-drop from t j 0

-- one element more
pub part_next : (from n x : ℕ) (t : List ℕ) → from + n < length t → part from (n + 1) (set t (from + n) x) ≡ part from n t ++ (x ∷ [])
unfolding part
part_next from n x t h =
    ap (take (n + 1)) (drop-set-add from t n x)
    ∙ ap (λ (k : ℕ). take k (set (drop from t) n x)) (add-one n)
    ∙ take-suc-set (drop from t) n x (omega (arith, length-drop from t))

pub part_shorter : (from m n : ℕ) (t : List ℕ) → m ≤ n → part from m t ≡ take m (part from n t)
unfolding part
part_shorter from m n t h = sym (take-take m n (drop from t) h)

-- a part of what stands from a place on
pub part_drop : (from a n : ℕ) (t : List ℕ) → from ≤ a → part a n t ≡ part (a - from) n (drop from t)
part_drop from a n t h = part_back a n from t h
