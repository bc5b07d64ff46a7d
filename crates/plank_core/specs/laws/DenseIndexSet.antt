-- Laws of sets and of tables of sets: what each contains after an operation, other rows untouched, whether a row grows.
use Rattle.std.specs.Prelude.{◌≡◌, Bool, not, ◌&&◌, ◌||◌, List, length, set, drop, replicate}
use Rattle.std.proofs.Math.Path.{refl}
use Rattle.std.proofs.Common.{MatchBool, sym, ap, ap₂, ◌∙◌, ⊎_elim, pos_of_ne-zero, le_refl, add-one, get_or-set_same, ext_get_or}
use Rattle.std.proofs.Math.Bool.{true, false, cond, or-false, or_comm, and_comm}
use Prim.Native.Nat.{ℕ, zero, suc, ◌+◌, ◌-◌, ◌*◌, ◌/◌, ◌%◌, ◌^◌, ◌≤◌, ◌<◌}
use native.Mathlib.Omega.{arith}
use Rattle.std.proofs.Math.ListN.{get_or, length-set, length-drop, get_or-eq_default}
use Rattle.std.proofs.Math.Seq.{get_or-set_other, get_or-take, get_or-drop, set_out, length-take-le}
use Rattle.std.proofs.Math.Dec.{eqb}
use Rattle.std.specs.Int.Bits.{bit_and, bit_or}
use Rattle.std.proofs.lemmas.Nat.{or_lt, and_le_l}
use Rattle.std.proofs.Math.Pow.{pow-lt}
use Rattle.std.specs.Int.Count.{count_trailing_zeros}
use borrow.Author.Tests.{eq-eqb, ne_eqb, eqb-true, eqb-false, not-true, not-false}
use Rattle.std.specs.List.{AllWithin, HoldsAt}
use Rattle.plank_core.specs.Lists.{upto, any}
use Rattle.plank_core.specs.inner.DenseIndexSet.{bit, contains, word_of, set_of, empty_set, added, removed, in_row, row_union, row_difference, grows, row_of, is_empty}
use Rattle.plank_core.specs.laws.Lists.{split, bool_or, any_some, any_none, any_find, any_not}
use Rattle.plank_core.specs.laws.Loops.{upto_more, any_append, length_map_upto, get_or_map_upto}
use Rattle.plank_core.specs.laws.Bits.{bit_or_lem, bit_and_lem, bit_not, bit_pow, bit_of_zero, bit_ext, word_of_lt, bit_word_of, tz_lt, tz_set}

-- every word has at most 64 digits
abbrev pub Fit : List ℕ → Type 0
Fit ws = (j : ℕ) → get_or ws j 0 < 2 ^ 64

-- ---- the words of a test

pub length_set_of : (m : ℕ) (p : ℕ → Bool) → length (set_of m p) ≡ m
unfolding set_of
length_set_of m p = length_map_upto (λ j. word_of 64 (λ k. p (64 * j + k))) m

word_set_of : (m j : ℕ) (p : ℕ → Bool) → j < m → get_or (set_of m p) j 0 ≡ word_of 64 (λ k. p (64 * j + k))
unfolding set_of
word_set_of m j p h = get_or_map_upto (λ j. word_of 64 (λ k. p (64 * j + k))) m j 0 h

pub contains_set_of : (m n : ℕ) (p : ℕ → Bool) → n < 64 * m → contains (set_of m p) n ≡ p n
unfolding contains
contains_set_of m n p h =
    let e : 64 * (n / 64) + n % 64 ≡ n = omega arith in
    rw (word_set_of m (n / 64) p (omega arith), bit_word_of 64 (n % 64) (λ k. p (64 * (n / 64) + k)) (omega arith), e)

pub contains_past : (ws : List ℕ) (n : ℕ) → 64 * length ws ≤ n → contains ws n ≡ false
unfolding contains
contains_past ws n h = ap (λ (w : ℕ). bit w (n % 64)) (get_or-eq_default ws 0 (omega arith)) ∙ bit_of_zero (n % 64)

pub fit_set_of : (m : ℕ) (p : ℕ → Bool) → Fit (set_of m p)
fit_set_of m p j = ⊎_elim
    (λ (h : j < m). rw (word_set_of m j p h) (word_of_lt 64 (λ k. p (64 * j + k))))
    (λ (h : m ≤ j). rw (get_or-eq_default (set_of m p) 0 {n = j} (omega (arith, length_set_of m p))) (omega arith))
    (split j m)

-- words are equal where they contain the same numbers
pub same_words : (xs ys : List ℕ) → length xs ≡ length ys → Fit xs → Fit ys → ((n : ℕ) → n < 64 * length xs → contains xs n ≡ contains ys n) → xs ≡ ys
unfolding contains
same_words xs ys l fx fy h =
    ext_get_or 0 xs ys l (λ j i.
    bit_ext 64 (get_or xs j 0) (get_or ys j 0) (fx j) (fy j) (λ k b.
    let q : (64 * j + k) / 64 ≡ j = omega arith in
    let r : (64 * j + k) % 64 ≡ k = omega arith in
    rw (q, r) at (h (64 * j + k) (omega arith))))

pub is_set_of : (ws : List ℕ) (m : ℕ) (p : ℕ → Bool) → length ws ≡ m → Fit ws → ((n : ℕ) → n < 64 * m → contains ws n ≡ p n) → ws ≡ set_of m p
is_set_of ws m p l f h =
    same_words ws (set_of m p) (l ∙ sym (length_set_of m p)) f (fit_set_of m p) (λ n i. h n (omega arith) ∙ sym (contains_set_of m n p (omega arith)))

-- ---- one word replaced

pub fit_set : (ws : List ℕ) (at x : ℕ) → Fit ws → x < 2 ^ 64 → Fit (set ws at x)
fit_set ws at x f h j = by (eqb j at) refl
  where
    by : (t : Bool) → eqb j at ≡ t → get_or (set ws at x) j 0 < 2 ^ 64
    by true e = ⊎_elim
        (λ (l : at < length ws). rw (eqb-true j at e, get_or-set_same ws at x 0 l) h)
        (λ (l : length ws ≤ at). rw (eqb-true j at e, set_out ws at x l) (f at))
        (split at (length ws))
    by false e = rw (get_or-set_other ws at j x 0 (eqb-false j at e)) (f j)

pub contains_set : (ws : List ℕ) (at x n : ℕ) → at < length ws → contains (set ws at x) n ≡ cond (eqb (n / 64) at) (bit x (n % 64)) (contains ws n)
unfolding contains
contains_set ws at x n h = by (eqb (n / 64) at) refl
  where
    by : (t : Bool) → eqb (n / 64) at ≡ t → contains (set ws at x) n ≡ cond (eqb (n / 64) at) (bit x (n % 64)) (contains ws n)
    by true e = let q : n / 64 ≡ at = eqb-true (n / 64) at e in rw (e, q, get_or-set_same ws at x 0 h)
    by false e = rw (e, get_or-set_other ws at (n / 64) x 0 (eqb-false (n / 64) at e))

-- two numbers are the same digit of the same word exactly if they are equal
same_place : (n i : ℕ) → n / 64 ≡ i / 64 → eqb (n % 64) (i % 64) ≡ eqb n i
same_place n i e = by (eqb n i) refl
  where
    by : (t : Bool) → eqb n i ≡ t → eqb (n % 64) (i % 64) ≡ eqb n i
    by true q = eq-eqb _ _ (ap (λ (x : ℕ). x % 64) (eqb-true n i q)) ∙ sym q
    by false q = ne_eqb _ _ (λ (p : n % 64 ≡ i % 64). eqb-false n i q (omega arith)) ∙ sym q

-- one digit of one word is set anew: f says how, from whether it is the digit and what it was
at_digit : (ws : List ℕ) (i x : ℕ) (f : Bool → Bool → Bool) → i < 64 * length ws → Fit ws → x < 2 ^ 64
    → ((k : ℕ) → k < 64 → bit x k ≡ f (eqb k (i % 64)) (bit (get_or ws (i / 64) 0) k))
    → ((t : Bool) → f false t ≡ t)
    → set ws (i / 64) x ≡ set_of (length ws) (λ n. f (eqb n i) (contains ws n))
unfolding contains
at_digit ws i x f h fit lt here other =
    is_set_of (set ws (i / 64) x) (length ws) _ (length-set ws (i / 64) x) (fit_set ws (i / 64) x fit lt)
    (λ n l. contains_set ws (i / 64) x n (omega arith) ∙ by n (eqb (n / 64) (i / 64)) refl)
  where
    by : (n : ℕ) (t : Bool) → eqb (n / 64) (i / 64) ≡ t → cond (eqb (n / 64) (i / 64)) (bit x (n % 64)) (contains ws n) ≡ f (eqb n i) (contains ws n)
    by n true q =
        let e : n / 64 ≡ i / 64 = eqb-true (n / 64) (i / 64) q in
        rw (q, here (n % 64) (omega arith), same_place n i e, e)
    by n false q =
        let d : eqb n i ≡ false = ne_eqb n i (λ u. eqb-false (n / 64) (i / 64) q (ap (λ (y : ℕ). y / 64) u)) in
        rw (q, d) (sym (other _))

pub added_word : (ws : List ℕ) (i : ℕ) → i < 64 * length ws → Fit ws → set ws (i / 64) (bit_or (get_or ws (i / 64) 0) (2 ^ (i % 64))) ≡ added ws i
unfolding added
added_word ws i h fit =
    let l : i % 64 < 64 = omega arith in
    at_digit ws i _ (λ s t. s || t) h fit (or_lt 64 _ _ (fit (i / 64)) (pow-lt l))
    (λ k b. bit_or_lem k (get_or ws (i / 64) 0) (2 ^ (i % 64)) ∙ rw bit_pow (or_comm (bit (get_or ws (i / 64) 0) k) (eqb k (i % 64))))
    (λ t. refl)

pub removed_word : (ws : List ℕ) (i : ℕ) → i < 64 * length ws → Fit ws → set ws (i / 64) (bit_and (get_or ws (i / 64) 0) (2 ^ 64 - 1 - 2 ^ (i % 64))) ≡ removed ws i
unfolding removed
removed_word ws i h fit =
    let l : i % 64 < 64 = omega arith in
    at_digit ws i _ (λ s t. not s && t) h fit (and_lt_left _ _ (fit (i / 64)))
    (λ k b.
    bit_and_lem k (get_or ws (i / 64) 0) (2 ^ 64 - 1 - 2 ^ (i % 64))
    ∙ ap (λ (t : Bool). bit (get_or ws (i / 64) 0) k && t) (bit_not k 64 (2 ^ (i % 64)) b (pow-lt l) ∙ ap not (bit_pow k (i % 64)))
    ∙ and_comm (bit (get_or ws (i / 64) 0) k) (not (eqb k (i % 64))))
    (λ t. refl)
  where
    and_lt_left : (a b : ℕ) → a < 2 ^ 64 → bit_and a b < 2 ^ 64
    and_lt_left a b g = omega (arith, and_le_l a b)

-- ---- a row changed word by word: the first k words of row r, each by f with the word of s

unfoldable pub row_to : (ℕ → ℕ → ℕ) → ℕ → List ℕ → ℕ → List ℕ → List ℕ
row_to f zero ws r s = ws
row_to f (suc k) ws r s = set (row_to f k ws r s) (8 * r + k) (f (get_or ws (8 * r + k) 0) (get_or s k 0))

module _ (f : ℕ → ℕ → ℕ) (ws : List ℕ) (r : ℕ) (s : List ℕ) where
  pub length_row_to : (k : ℕ) → length (row_to f k ws r s) ≡ length ws
  unfolding row_to
  length_row_to zero = refl
  length_row_to (suc k) = length-set (row_to f k ws r s) (8 * r + k) _ ∙ length_row_to k

  pub row_to_other : (k j : ℕ) → (8 * r ≤ j → j < 8 * r + k → ⊥) → get_or (row_to f k ws r s) j 0 ≡ get_or ws j 0
  unfolding row_to
  row_to_other zero j h = refl
  row_to_other (suc k) j h =
      get_or-set_other (row_to f k ws r s) (8 * r + k) j _ 0 (λ (e : j ≡ 8 * r + k). h (omega arith) (omega arith))
      ∙ row_to_other k j (λ a b. h a (omega arith))

  pub row_to_there : (k m : ℕ) → k ≤ 8 → 8 * r + 8 ≤ length ws → m < k → get_or (row_to f k ws r s) (8 * r + m) 0 ≡ f (get_or ws (8 * r + m) 0) (get_or s m 0)
  unfolding row_to
  row_to_there zero m h l i = absurd (omega arith)
  row_to_there (suc k) m h l i = by (eqb m k) refl (row_to_there k m (omega arith) l)
    where
      by : (t : Bool) → eqb m k ≡ t → (m < k → get_or (row_to f k ws r s) (8 * r + m) 0 ≡ f (get_or ws (8 * r + m) 0) (get_or s m 0))
          → get_or (set (row_to f k ws r s) (8 * r + k) (f (get_or ws (8 * r + k) 0) (get_or s k 0))) (8 * r + m) 0 ≡ f (get_or ws (8 * r + m) 0) (get_or s m 0)
      by true e rest = rw (eqb-true m k e) (get_or-set_same (row_to f k ws r s) (8 * r + k) _ 0 (omega (arith, length_row_to k)))
      by false e rest =
          let ne : m ≡ k → ⊥ = eqb-false m k e in
          get_or-set_other (row_to f k ws r s) (8 * r + k) (8 * r + m) _ 0 (λ (q : 8 * r + m ≡ 8 * r + k). ne (omega arith)) ∙ rest (omega arith)

  -- the next word, read from a table under change
  pub row_to_next : (k : ℕ) {l : List ℕ} → l ≡ row_to f k ws r s → set l (8 * r + k) (f (get_or l (8 * r + k) 0) (get_or s k 0)) ≡ row_to f (k + 1) ws r s
  unfolding row_to
  row_to_next k e = rw (add-one, e, row_to_other k (8 * r + k) (λ a b. omega arith))

  -- once a word is changed it is known that all fit
  pub row_to_fit : (k : ℕ) {l : List ℕ} → l ≡ row_to f k ws r s → (0 < k → Fit ws × Fit s) → Fit l → Fit s → Fit ws × Fit s
  unfolding row_to
  row_to_fit zero e h a b = (rw e at a, b)
  row_to_fit (suc k) e h a b = h (omega arith)

  -- digit by digit: g is what f does to each digit
  row_digits : (g : Bool → Bool → Bool) → length s ≡ 8 → 8 * r + 8 ≤ length ws
      → ((a b k : ℕ) → k < 64 → b < 2 ^ 64 → bit (f a b) k ≡ g (bit a k) (bit b k)) → Fit s
      → (n : ℕ) → contains (row_to f 8 ws r s) n ≡ cond (in_row r n) (g (contains ws n) (contains s (n % 512))) (contains ws n)
  unfolding contains
  row_digits g l h d fit n = by (in_row r n) refl
    where
      by : (t : Bool) → in_row r n ≡ t
          → bit (get_or (row_to f 8 ws r s) (n / 64) 0) (n % 64)
          ≡ cond (in_row r n) (g (bit (get_or ws (n / 64) 0) (n % 64)) (bit (get_or s (n % 512 / 64) 0) (n % 512 % 64))) (bit (get_or ws (n / 64) 0) (n % 64))
      by true e =
          let q : n / 512 ≡ r = eqb-true (n / 512) r e in
          let a : n / 64 ≡ 8 * r + n % 512 / 64 = omega arith in
          let m : n % 512 % 64 ≡ n % 64 = omega arith in
          rw (e, a, m, row_to_there 8 (n % 512 / 64) (omega arith) h (omega arith)) (d _ _ (n % 64) (omega arith) (fit _))
      by false e =
          let q : n / 512 ≡ r → ⊥ = eqb-false (n / 512) r e in
          rw (e, row_to_other 8 (n / 64) (λ a b. q (omega arith)))

  fit_row_to : Fit ws → Fit s → ((a b : ℕ) → a < 2 ^ 64 → b < 2 ^ 64 → f a b < 2 ^ 64) → (k : ℕ) → Fit (row_to f k ws r s)
  unfolding row_to
  fit_row_to a b h zero = a
  fit_row_to a b h (suc k) = fit_set (row_to f k ws r s) (8 * r + k) _ (fit_row_to a b h k) (h _ _ (a (8 * r + k)) (b k))

abbrev pub minus : ℕ → ℕ → ℕ
minus a b = bit_and a (2 ^ 64 - 1 - b)

in_row_or : (t a b : Bool) → cond t (a || b) a ≡ (a || (t && b))
in_row_or true a b = refl
in_row_or false a b = sym (or-false a)

in_row_minus : (t a b : Bool) → cond t (a && not b) a ≡ (a && not (t && b))
in_row_minus true a b = refl
in_row_minus false true b = refl
in_row_minus false false b = refl

pub union_words : (ws : List ℕ) (r : ℕ) (s : List ℕ) → length s ≡ 8 → 8 * r + 8 ≤ length ws → Fit ws → Fit s → row_to bit_or 8 ws r s ≡ row_union ws r s
unfolding row_union
union_words ws r s l h a b =
    is_set_of (row_to bit_or 8 ws r s) (length ws) _ (length_row_to bit_or ws r s 8) (fit_row_to bit_or ws r s a b (or_lt 64) 8)
    (λ n i. row_digits bit_or ws r s (λ x y. x || y) l h (λ x y k u v. bit_or_lem k x y) b n ∙ in_row_or (in_row r n) (contains ws n) (contains s (n % 512)))

pub difference_words : (ws : List ℕ) (r : ℕ) (s : List ℕ) → length s ≡ 8 → 8 * r + 8 ≤ length ws → Fit ws → Fit s → row_to minus 8 ws r s ≡ row_difference ws r s
unfolding row_difference
difference_words ws r s l h a b =
    is_set_of (row_to minus 8 ws r s) (length ws) _ (length_row_to minus ws r s 8) (fit_row_to minus ws r s a b (λ x y u v. omega (arith, and_le_l x (2 ^ 64 - 1 - y))) 8)
    (λ n i.
    row_digits minus ws r s (λ x y. x && not y) l h (λ x y k u v. bit_and_lem k x (2 ^ 64 - 1 - y) ∙ ap (λ (t : Bool). bit x k && t) (bit_not k 64 y u v)) b n
    ∙ in_row_minus (in_row r n) (contains ws n) (contains s (n % 512)))

-- ---- a test that is the digits of eight words

-- p n is digit n % 64 of word n / 64 of f
abbrev pub Shows : (ℕ → Bool) → (ℕ → ℕ) → Type 0
Shows p f = (j k : ℕ) → k < 64 → p (64 * j + k) ≡ bit (f j) k

pub none_of : (p : ℕ → Bool) (f : ℕ → ℕ) → Shows p f → ((j : ℕ) → j < 8 → f j ≡ 0) → any p (upto 512) ≡ false
none_of p f sh z =
    any_none p 0 512 (λ n a b.
    let e : n ≡ 64 * (n / 64) + n % 64 = omega arith in
    ap p e ∙ sh (n / 64) (n % 64) (omega arith) ∙ ap (λ (w : ℕ). bit w (n % 64)) (z (n / 64) (omega arith)) ∙ bit_of_zero (n % 64))

pub some_of : (p : ℕ → Bool) (f : ℕ → ℕ) (j : ℕ) → Shows p f → j < 8 → f j < 2 ^ 64 → (f j ≡ 0 → ⊥) → any p (upto 512) ≡ true
some_of p f j sh i l z =
    let q : 0 < f j = pos_of_ne-zero z in
    let t : count_trailing_zeros 64 (f j) < 64 = tz_lt 64 64 (f j) q l (le_refl 64) in
    any_some p 0 512 (64 * j + count_trailing_zeros 64 (f j)) (omega arith) (omega arith) (sh j (count_trailing_zeros 64 (f j)) t ∙ tz_set 64 (f j) q l)

-- whether some of the eight words is not 0, as a test of each item answers it, and whether all are 0
module _ {A : Type 0} (p : ℕ → Bool) (f : ℕ → ℕ) (sh : Shows p f) (fit : (j : ℕ) → f j < 2 ^ 64) (xs : List A) (d : A) (long : length xs ≡ 8) (v : A → ℕ) (same : (k : ℕ) → k < 8 → v (get_or xs k d) ≡ f k) where
  pub some_word : (r : Bool) → MatchBool r ((k : ℕ) × (k < length xs) × HoldsAt (λ x. v x ≡ 0 → ⊥) xs k) (AllWithin (λ x. v x ≡ 0) xs 0 (length xs)) → r ≡ any p (upto 512)
  some_word true m = let h : m.0 < 8 = omega (arith, m.1) in sym (some_of p f m.0 sh h (fit m.0) (λ e. m.2 d (same m.0 h ∙ e)))
  some_word false z = sym (none_of p f sh (λ j h. sym (same j h) ∙ z j d (omega arith) (omega arith)))

  pub no_word : (r : Bool) → MatchBool r (AllWithin (λ x. v x ≡ 0) xs 0 (length xs)) ((k : ℕ) × (k < length xs) × HoldsAt (λ x. v x ≡ 0 → ⊥) xs k) → r ≡ not (any p (upto 512))
  no_word true z = ap not (some_word false z)
  no_word false m = ap not (some_word true m)

pub shows_contains : (s : List ℕ) → Shows (contains s) (λ j. get_or s j 0)
unfolding contains
shows_contains s j k h =
    let q : (64 * j + k) / 64 ≡ j = omega arith in
    let r : (64 * j + k) % 64 ≡ k = omega arith in
    rw (q, r)

pub shows_meets : (s t : List ℕ) → Shows (λ n. contains s n && contains t n) (λ j. bit_and (get_or s j 0) (get_or t j 0))
shows_meets s t j k h = ap₂ (λ x y. x && y) (shows_contains s j k h) (shows_contains t j k h) ∙ sym (bit_and_lem k (get_or s j 0) (get_or t j 0))

-- a row's digits stand 512 * r further on
contains_at : (ws : List ℕ) (r j k : ℕ) → k < 64 → contains ws (512 * r + (64 * j + k)) ≡ bit (get_or ws (8 * r + j) 0) k
contains_at ws r j k h = let e : 512 * r + (64 * j + k) ≡ 64 * (8 * r + j) + k = omega arith in rw e (shows_contains ws (8 * r + j) k h)

-- a member of s that row r lacks, and the words of all of them
abbrev lacked : List ℕ → ℕ → List ℕ → ℕ → Bool
lacked ws r s n = contains s n && not (contains ws (512 * r + n))

abbrev news : List ℕ → ℕ → List ℕ → ℕ → ℕ
news ws r s j = minus (get_or s j 0) (get_or ws (8 * r + j) 0)

shows_grows : (ws : List ℕ) (r : ℕ) (s : List ℕ) → Fit ws → Shows (lacked ws r s) (news ws r s)
shows_grows ws r s fit j k h =
    ap₂ (λ x y. x && y) (shows_contains s j k h) (ap not (contains_at ws r j k h) ∙ sym (bit_not k 64 (get_or ws (8 * r + j) 0) h (fit (8 * r + j))))
    ∙ sym (bit_and_lem k (get_or s j 0) (2 ^ 64 - 1 - get_or ws (8 * r + j) 0))

-- a word that takes in another stays what it was exactly if the other has no digit more
and_not_false : (a b : Bool) → (a || b) ≡ a → (b && not a) ≡ false
and_not_false true true h = refl
and_not_false true false h = refl
and_not_false false true h = h
and_not_false false false h = refl

or_of_not : (a b : Bool) → (b && not a) ≡ false → (a || b) ≡ a
or_of_not true b h = refl
or_of_not false true h = h
or_of_not false false h = refl

bit_minus : (a b k : ℕ) → k < 64 → b < 2 ^ 64 → bit (minus a b) k ≡ (bit a k && not (bit b k))
bit_minus a b k h l = bit_and_lem k a (2 ^ 64 - 1 - b) ∙ ap (λ (t : Bool). bit a k && t) (bit_not k 64 b h l)

same_or : (a b : ℕ) → a < 2 ^ 64 → b < 2 ^ 64 → bit_or a b ≡ a → minus b a ≡ 0
same_or a b ha hb e =
    bit_ext 64 (minus b a) 0 (omega (arith, and_le_l b (2 ^ 64 - 1 - a))) (omega arith)
    (λ k l. bit_minus b a k l ha ∙ and_not_false (bit a k) (bit b k) (sym (bit_or_lem k a b) ∙ ap (λ (w : ℕ). bit w k) e) ∙ sym (bit_of_zero k))

or_same : (a b : ℕ) → a < 2 ^ 64 → b < 2 ^ 64 → minus b a ≡ 0 → bit_or a b ≡ a
or_same a b ha hb e =
    bit_ext 64 (bit_or a b) a (or_lt 64 a b ha hb) ha
    (λ k l. bit_or_lem k a b ∙ or_of_not (bit a k) (bit b k) (sym (bit_minus b a k l ha) ∙ ap (λ (w : ℕ). bit w k) e ∙ bit_of_zero k))

-- does word j of row r change as s is taken in?
abbrev pub changes : List ℕ → ℕ → List ℕ → ℕ → Bool
changes ws r s j = not (eqb (bit_or (get_or ws (8 * r + j) 0) (get_or s j 0)) (get_or ws (8 * r + j) 0))

-- a table under change shows whether its next word changes
pub changes_next : (ws : List ℕ) (r : ℕ) (s : List ℕ) (k : ℕ) {l : List ℕ} {g : Bool} (t : Bool) → l ≡ row_to bit_or k ws r s → g ≡ any (changes ws r s) (upto k)
    → eqb (bit_or (get_or l (8 * r + k) 0) (get_or s k 0)) (get_or l (8 * r + k) 0) ≡ t → (not t || g) ≡ any (changes ws r s) (upto (k + 1))
changes_next ws r s k {l} {g} t e h q =
    let here : get_or l (8 * r + k) 0 ≡ get_or ws (8 * r + k) 0 = rw e (row_to_other bit_or ws r s k (8 * r + k) (λ a b. omega arith)) in
    let q' : eqb (bit_or (get_or ws (8 * r + k) 0) (get_or s k 0)) (get_or ws (8 * r + k) 0) ≡ t = rw here at q in
    rw (upto_more k, any_append, ← h, q') (or_comm (not t) g ∙ ap (λ (x : Bool). g || x) (sym (or-false (not t))))

pub grows_words : (ws : List ℕ) (r : ℕ) (s : List ℕ) → Fit ws → Fit s → any (changes ws r s) (upto 8) ≡ grows ws r s
unfolding grows
grows_words ws r s a b = ⊎_elim yes no (bool_or (any (changes ws r s) (upto 8)))
  where
    sh : Shows (lacked ws r s) (news ws r s)
    sh = shows_grows ws r s a

    yes : any (changes ws r s) (upto 8) ≡ true → any (changes ws r s) (upto 8) ≡ grows ws r s
    yes e =
        let w = any_find (changes ws r s) 0 8 e in
        let ne : bit_or (get_or ws (8 * r + w.0) 0) (get_or s w.0 0) ≡ get_or ws (8 * r + w.0) 0 → ⊥ = eqb-false (bit_or (get_or ws (8 * r + w.0) 0) (get_or s w.0 0)) (get_or ws (8 * r + w.0) 0) (not-true _ w.3) in
        e ∙ sym (some_of (lacked ws r s) (news ws r s) w.0 sh w.2 (omega (arith, and_le_l (get_or s w.0 0) (2 ^ 64 - 1 - get_or ws (8 * r + w.0) 0), b w.0)) (λ z. ne (or_same _ _ (a (8 * r + w.0)) (b w.0) z)))

    no : any (changes ws r s) (upto 8) ≡ false → any (changes ws r s) (upto 8) ≡ grows ws r s
    no e =
        e ∙ sym (none_of (lacked ws r s) (news ws r s) sh (λ j h.
        same_or _ _ (a (8 * r + j)) (b j)
        (eqb-true (bit_or (get_or ws (8 * r + j) 0) (get_or s j 0)) (get_or ws (8 * r + j) 0)
        (not-false _ (any_not (changes ws r s) 0 8 j e (omega arith) h)))))

-- ---- what callers use: members after each operation, lengths, digits that fit, growth

pub contains_empty : (n : ℕ) → contains empty_set n ≡ false
unfolding empty_set
contains_empty n = ⊎_elim (λ (h : n < 512). contains_set_of 8 n (λ n. false) h) (λ (h : 512 ≤ n). contains_past (set_of 8 (λ n. false)) n (omega (arith, length_set_of 8 (λ n. false)))) (split n 512)

pub empty_none : (s : List ℕ) → is_empty s ≡ true → (n : ℕ) → n < 512 → contains s n ≡ false
unfolding is_empty
empty_none s e n h = any_not (contains s) 0 512 n (not-true _ e) (omega arith) (omega arith)

pub contains_cleared : (m n : ℕ) → contains (replicate m 0) n ≡ false
unfolding contains
contains_cleared m n = rw (zeros m (n / 64)) (bit_of_zero (n % 64))
  where
    zeros : (m j : ℕ) → get_or {A = ℕ} (replicate m 0) j 0 ≡ 0
    zeros zero j = refl
    zeros (suc m) zero = refl
    zeros (suc m) (suc j) = zeros m j

-- two numbers of a table are one exactly if they are one number of one row
row_place : (r i q n : ℕ) → i < 512 → n < 512 → eqb (512 * q + n) (512 * r + i) ≡ (eqb q r && eqb n i)
row_place r i q n h l = by (eqb q r) (eqb n i) refl refl
  where
    by : (s t : Bool) → eqb q r ≡ s → eqb n i ≡ t → eqb (512 * q + n) (512 * r + i) ≡ (s && t)
    by true true a b = let x : q ≡ r = eqb-true q r a in let y : n ≡ i = eqb-true n i b in eq-eqb (512 * q + n) (512 * r + i) (omega arith)
    by true false a b = let y : n ≡ i → ⊥ = eqb-false n i b in ne_eqb _ _ (λ (e : 512 * q + n ≡ 512 * r + i). y (omega (arith, eqb-true q r a)))
    by false t a b = let x : q ≡ r → ⊥ = eqb-false q r a in ne_eqb _ _ (λ (e : 512 * q + n ≡ 512 * r + i). x (omega arith))

module _ (ws : List ℕ) where
  pub contains_added : (i n : ℕ) → n < 64 * length ws → contains (added ws i) n ≡ (eqb n i || contains ws n)
  unfolding added
  contains_added i n h = contains_set_of (length ws) n _ h

  -- number n of row q, once i is added to row r
  pub contains_row_added : (r i q n : ℕ) → i < 512 → n < 512 → 8 * q + 8 ≤ length ws
      → contains (added ws (512 * r + i)) (512 * q + n) ≡ (contains ws (512 * q + n) || (eqb q r && eqb n i))
  contains_row_added r i q n h l k =
      contains_added (512 * r + i) (512 * q + n) (omega arith) ∙ ap (λ (t : Bool). t || contains ws (512 * q + n)) (row_place r i q n h l)
      ∙ or_comm (eqb q r && eqb n i) (contains ws (512 * q + n))

  pub contains_removed : (i n : ℕ) → n < 64 * length ws → contains (removed ws i) n ≡ (not (eqb n i) && contains ws n)
  unfolding removed
  contains_removed i n h = contains_set_of (length ws) n _ h

  pub length_added : (i : ℕ) → length (added ws i) ≡ length ws
  unfolding added
  length_added i = length_set_of (length ws) _

  pub length_removed : (i : ℕ) → length (removed ws i) ≡ length ws
  unfolding removed
  length_removed i = length_set_of (length ws) _

  pub length_union : (r : ℕ) (s : List ℕ) → length (row_union ws r s) ≡ length ws
  unfolding row_union
  length_union r s = length_set_of (length ws) _

  pub length_difference : (r : ℕ) (s : List ℕ) → length (row_difference ws r s) ≡ length ws
  unfolding row_difference
  length_difference r s = length_set_of (length ws) _

  -- number n of row q, of a table that has this row
  pub contains_union : (r : ℕ) (s : List ℕ) (q n : ℕ) → n < 512 → 8 * q + 8 ≤ length ws
      → contains (row_union ws r s) (512 * q + n) ≡ (contains ws (512 * q + n) || (eqb q r && contains s n))
  unfolding row_union
  contains_union r s q n h l =
      let a : (512 * q + n) / 512 ≡ q = omega arith in
      let b : (512 * q + n) % 512 ≡ n = omega arith in
      contains_set_of (length ws) (512 * q + n) _ (omega arith) ∙ rw (a, b)

  pub contains_difference : (r : ℕ) (s : List ℕ) (q n : ℕ) → n < 512 → 8 * q + 8 ≤ length ws
      → contains (row_difference ws r s) (512 * q + n) ≡ (contains ws (512 * q + n) && not (eqb q r && contains s n))
  unfolding row_difference
  contains_difference r s q n h l =
      let a : (512 * q + n) / 512 ≡ q = omega arith in
      let b : (512 * q + n) % 512 ≡ n = omega arith in
      contains_set_of (length ws) (512 * q + n) _ (omega arith) ∙ rw (a, b)

  -- the same of a set by itself
  pub set_union : (s : List ℕ) (n : ℕ) → n < 512 → 8 ≤ length ws → contains (row_union ws 0 s) n ≡ (contains ws n || contains s n)
  set_union s n h l = let e : 512 * 0 + n ≡ n = omega arith in rw e at (contains_union 0 s 0 n h (omega arith))

  pub set_difference : (s : List ℕ) (n : ℕ) → n < 512 → 8 ≤ length ws → contains (row_difference ws 0 s) n ≡ (contains ws n && not (contains s n))
  set_difference s n h l = let e : 512 * 0 + n ≡ n = omega arith in rw e at (contains_difference 0 s 0 n h (omega arith))

  pub length_row : (r : ℕ) → 8 * r + 8 ≤ length ws → length (row_of ws r) ≡ 8
  unfolding row_of
  length_row r h = length-take-le 8 (drop (8 * r) ws) (omega (arith, length-drop (8 * r) ws))

  pub contains_row : (r n : ℕ) → n < 512 → contains (row_of ws r) n ≡ contains ws (512 * r + n)
  unfolding row_of contains
  contains_row r n h =
      let q : (512 * r + n) / 64 ≡ 8 * r + n / 64 = omega arith in
      let e : (512 * r + n) % 64 ≡ n % 64 = omega arith in
      rw (q, e, get_or-take 8 (drop (8 * r) ws) (n / 64) 0 (omega arith), get_or-drop (8 * r) ws (n / 64) 0)
