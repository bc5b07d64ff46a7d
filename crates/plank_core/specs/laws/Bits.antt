-- Laws of the binary digits of a number.
use Rattle.std.specs.Prelude.{◌≡◌, refl, ◌⊎◌, Bool, true, false, not, ◌&&◌, ◌||◌, cond, ℕ, zero, suc, ◌+◌, ◌-◌, ◌*◌, ◌/◌, ◌%◌, ◌^◌, ◌≤◌, ◌<◌, min, max, eqb}
use Rattle.std.proofs.Common.{sym, ap, ◌∙◌, inl, inr, ⊎_elim, pow-suc, div-one, one-mul, mod-eq_of_lt, pos_of_ne-zero, arith, lit<}
use Rattle.std.proofs.Math.Nat.{pow-succ', div-div-eq-div-mul, zero-div}
use Rattle.std.proofs.Math.Dec.{eqb-zero-suc, eqb-suc-zero, eqb-suc-suc}
use Rattle.std.proofs.Math.Arith.{digits_mod, digits_div}
use Rattle.std.specs.Int.Bits.{bit_and, bit_or, and_step, or_step}
use Rattle.std.proofs.lemmas.Nat.{and_mask, and_le_r}
use Rattle.std.specs.Int.Count.{count_trailing_zeros}
use Rattle.std.proofs.Math.Pow.{pow-lt}
use Rattle.plank_core.specs.inner.DenseIndexSet.{bit, word_of}

-- ---- one digit: bit w k is digit k of w, as a test

pub two : (x : ℕ) → x < 2 → (x ≡ 0) ⊎ (x ≡ 1)
two zero h = inl refl
two (suc zero) h = inr refl
two (suc (suc x)) h = absurd (omega arith)

max_two : (x y : ℕ) → x < 2 → y < 2 → (max x y < 2) × (eqb (max x y) 1 ≡ (eqb x 1 || eqb y 1))
max_two zero zero hx hy = (lit< tt, refl)
max_two zero (suc zero) hx hy = (lit< tt, refl)
max_two (suc zero) zero hx hy = (lit< tt, refl)
max_two (suc zero) (suc zero) hx hy = (lit< tt, refl)
max_two (suc (suc x)) y hx hy = absurd (omega arith)
max_two zero (suc (suc y)) hx hy = absurd (omega arith)
max_two (suc zero) (suc (suc y)) hx hy = absurd (omega arith)

min_two : (x y : ℕ) → x < 2 → y < 2 → (min x y < 2) × (eqb (min x y) 1 ≡ (eqb x 1 && eqb y 1))
min_two zero zero hx hy = (lit< tt, refl)
min_two zero (suc zero) hx hy = (lit< tt, refl)
min_two (suc zero) zero hx hy = (lit< tt, refl)
min_two (suc zero) (suc zero) hx hy = (lit< tt, refl)
min_two (suc (suc x)) y hx hy = absurd (omega arith)
min_two zero (suc (suc y)) hx hy = absurd (omega arith)
min_two (suc zero) (suc (suc y)) hx hy = absurd (omega arith)

pub bit_zero : (w : ℕ) → bit w zero ≡ eqb (w % 2) 1
unfolding bit
bit_zero w = rw div-one

pub bit_suc : (w k : ℕ) → bit w (suc k) ≡ bit (w / 2) k
unfolding bit
bit_suc w k = rw (pow-succ', ← div-div-eq-div-mul)

-- halves and lowest digits of the operations
pub or_half : (a b : ℕ) → bit_or a b / 2 ≡ bit_or (a / 2) (b / 2)
or_half a b = ap (λ (x : ℕ). x / 2) (or_step a b) ∙ digits_div _ (max_two (a % 2) (b % 2) (omega arith) (omega arith)).0

pub or_odd : (a b : ℕ) → bit_or a b % 2 ≡ max (a % 2) (b % 2)
or_odd a b = ap (λ (x : ℕ). x % 2) (or_step a b) ∙ digits_mod _ (max_two (a % 2) (b % 2) (omega arith) (omega arith)).0

pub and_half : (a b : ℕ) → bit_and a b / 2 ≡ bit_and (a / 2) (b / 2)
and_half a b = ap (λ (x : ℕ). x / 2) (and_step a b) ∙ digits_div _ (min_two (a % 2) (b % 2) (omega arith) (omega arith)).0

pub and_odd : (a b : ℕ) → bit_and a b % 2 ≡ min (a % 2) (b % 2)
and_odd a b = ap (λ (x : ℕ). x % 2) (and_step a b) ∙ digits_mod _ (min_two (a % 2) (b % 2) (omega arith) (omega arith)).0

pub bit_or_lem : (k a b : ℕ) → bit (bit_or a b) k ≡ (bit a k || bit b k)
bit_or_lem zero a b = simp (bit_zero, or_odd) (max_two (a % 2) (b % 2) (omega arith) (omega arith)).1
bit_or_lem (suc k) a b = simp (bit_suc, or_half) (bit_or_lem k (a / 2) (b / 2))

pub bit_and_lem : (k a b : ℕ) → bit (bit_and a b) k ≡ (bit a k && bit b k)
bit_and_lem zero a b = simp (bit_zero, and_odd) (min_two (a % 2) (b % 2) (omega arith) (omega arith)).1
bit_and_lem (suc k) a b = simp (bit_suc, and_half) (bit_and_lem k (a / 2) (b / 2))

-- digits of 0, and of a power of two
pub bit_of_zero : (k : ℕ) → bit 0 k ≡ false
unfolding bit
bit_of_zero k = simp zero-div

pow_half : (k : ℕ) → 2 ^ suc k / 2 ≡ 2 ^ k
pow_half k = let e : 2 ^ suc k ≡ 2 ^ k * 2 = pow-suc 2 k in omega arith

pow_even : (k : ℕ) → 2 ^ suc k % 2 ≡ 0
pow_even k = let e : 2 ^ suc k ≡ 2 ^ k * 2 = pow-suc 2 k in omega arith

pub bit_pow : (j k : ℕ) → bit (2 ^ k) j ≡ eqb j k
bit_pow zero zero = rw bit_zero
bit_pow zero (suc k) = rw (bit_zero, pow_even) (sym (eqb-zero-suc k))
bit_pow (suc j) zero = rw bit_suc (bit_of_zero j ∙ sym (eqb-suc-zero j))
bit_pow (suc j) (suc k) = rw (bit_suc, pow_half) (bit_pow j k ∙ sym (eqb-suc-suc j k))

-- digits of the complement at w digits
not_odd : (x y : ℕ) → x + y % 2 ≡ 1 → eqb x 1 ≡ not (eqb (y % 2) 1)
not_odd x y e = ⊎_elim (λ (p : y % 2 ≡ 0). let q : x ≡ 1 = omega arith in rw (p, q)) (λ (p : y % 2 ≡ 1). let q : x ≡ 0 = omega arith in rw (p, q)) (two (y % 2) (omega arith))

pub bit_not : (j k a : ℕ) → j < k → a < 2 ^ k → bit (2 ^ k - 1 - a) j ≡ not (bit a j)
bit_not j zero a h l = absurd (omega arith)
bit_not zero (suc k) a h l =
    let e : 2 ^ suc k ≡ 2 ^ k * 2 = pow-suc 2 k in
    rw (bit_zero, bit_zero) (not_odd ((2 ^ suc k - 1 - a) % 2) a (omega arith))
bit_not (suc j) (suc k) a h l =
    let e : 2 ^ suc k ≡ 2 ^ k * 2 = pow-suc 2 k in
    let q : (2 ^ suc k - 1 - a) / 2 ≡ 2 ^ k - 1 - a / 2 = omega arith in
    rw (bit_suc, bit_suc, q) (bit_not j k (a / 2) (omega arith) (omega arith))

-- the code's `1 << (n % 64)`
pub one_shl : (n : ℕ) → 1 * 2 ^ (n % 64) % 2 ^ 64 ≡ 2 ^ (n % 64)
one_shl n = let h : n % 64 < 64 = omega arith in rw one-mul (mod-eq_of_lt (pow-lt h))

-- the code's `(w >> k) & 1 == 1`
pub bit_test : (w k : ℕ) → eqb (bit_and (w / 2 ^ k) 1) 1 ≡ bit w k
unfolding bit
bit_test w k = rw (and_mask (w / 2 ^ k) 1)

-- the code's `(w >> k) & 1 == 0`
pub bit_clear : (w k : ℕ) → eqb (bit_and (w / 2 ^ k) 1) 0 ≡ not (bit w k)
unfolding bit
bit_clear w k =
    ⊎_elim (λ (p : w / 2 ^ k % 2 ≡ 0). rw (and_mask (w / 2 ^ k) 1, p)) (λ (p : w / 2 ^ k % 2 ≡ 1). rw (and_mask (w / 2 ^ k) 1, p)) (two (w / 2 ^ k % 2) (omega arith))

-- ---- numbers are equal where their digits are

odd_of : (a b : ℕ) → bit a 0 ≡ bit b 0 → a % 2 ≡ b % 2
odd_of a b h =
    let g : eqb (a % 2) 1 ≡ eqb (b % 2) 1 = sym (bit_zero a) ∙ h ∙ bit_zero b in
    ⊎_elim
    (λ (p : a % 2 ≡ 0).
    ⊎_elim
    (λ (q : b % 2 ≡ 0). p ∙ sym q)
    (λ (q : b % 2 ≡ 1). let z : false ≡ true = rw (p, q) at g in cc)
    (two (b % 2) (omega arith)))
    (λ (p : a % 2 ≡ 1).
    ⊎_elim
    (λ (q : b % 2 ≡ 0). let z : true ≡ false = rw (p, q) at g in cc)
    (λ (q : b % 2 ≡ 1). p ∙ sym q)
    (two (b % 2) (omega arith)))
    (two (a % 2) (omega arith))

pub bit_ext : (k a b : ℕ) → a < 2 ^ k → b < 2 ^ k → ((j : ℕ) → j < k → bit a j ≡ bit b j) → a ≡ b
bit_ext zero a b ha hb h = omega arith
bit_ext (suc k) a b ha hb h =
    let e : 2 ^ suc k ≡ 2 ^ k * 2 = pow-suc 2 k in
    let lowest : a % 2 ≡ b % 2 = odd_of a b (h 0 (omega arith)) in
    let rest : a / 2 ≡ b / 2 = bit_ext k (a / 2) (b / 2) (omega arith) (omega arith) (λ j l. sym (bit_suc a j) ∙ h (suc j) (omega arith) ∙ bit_suc b j) in
    omega arith

-- ---- the word of a test

pub word_of_lt : (k : ℕ) (p : ℕ → Bool) → word_of k p < 2 ^ k
unfolding word_of
word_of_lt zero p = omega arith
word_of_lt (suc k) p = go (p 0) (word_of_lt k (λ j. p (suc j)))
  where
    go : (t : Bool) → word_of k (λ j. p (suc j)) < 2 ^ k → cond t 1 0 + 2 * word_of k (λ j. p (suc j)) < 2 ^ suc k
    go true h = let e : 2 ^ suc k ≡ 2 ^ k * 2 = pow-suc 2 k in omega arith
    go false h = let e : 2 ^ suc k ≡ 2 ^ k * 2 = pow-suc 2 k in omega arith

digit_low : (t : Bool) (x : ℕ) → eqb ((cond t 1 0 + 2 * x) % 2) 1 ≡ t
digit_low true x = let e : (1 + 2 * x) % 2 ≡ 1 = omega arith in rw e
digit_low false x = let e : (0 + 2 * x) % 2 ≡ 0 = omega arith in rw e

digit_half : (t : Bool) (x : ℕ) → (cond t 1 0 + 2 * x) / 2 ≡ x
digit_half true x = omega arith
digit_half false x = omega arith

pub bit_word_of : (k j : ℕ) (p : ℕ → Bool) → j < k → bit (word_of k p) j ≡ p j
unfolding word_of
bit_word_of zero j p h = absurd (omega arith)
bit_word_of (suc k) zero p h = rw bit_zero (digit_low (p 0) (word_of k (λ j. p (suc j))))
bit_word_of (suc k) (suc j) p h = rw (bit_suc, digit_half (p 0) (word_of k (λ j. p (suc j)))) (bit_word_of k j (λ i. p (suc i)) (omega arith))

-- ---- the lowest set digit

pub tz_set : (k w : ℕ) → 0 < w → w < 2 ^ k → bit w (count_trailing_zeros k w) ≡ true
unfolding count_trailing_zeros
tz_set zero w p l = absurd (omega arith)
tz_set (suc k) w p l =
    ⊎_elim
    (λ (e : w % 2 ≡ 0). let q : 2 ^ suc k ≡ 2 ^ k * 2 = pow-suc 2 k in rw (e, bit_suc) (tz_set k (w / 2) (omega arith) (omega arith)))
    (λ (e : w % 2 ≡ 1). rw (e, bit_zero, e))
    (two (w % 2) (omega arith))

pub tz_lt : (k m w : ℕ) → 0 < w → w < 2 ^ m → m ≤ k → count_trailing_zeros k w < m
unfolding count_trailing_zeros
tz_lt k zero w p l h = absurd (omega arith)
tz_lt zero (suc m) w p l h = absurd (omega arith)
tz_lt (suc k) (suc m) w p l h =
    ⊎_elim
    (λ (e : w % 2 ≡ 0).
    let q : 2 ^ suc m ≡ 2 ^ m * 2 = pow-suc 2 m in
    let ih : count_trailing_zeros k (w / 2) < m = tz_lt k m (w / 2) (omega arith) (omega arith) (omega arith) in
    rw e (omega arith))
    (λ (e : w % 2 ≡ 1). rw e (omega arith))
    (two (w % 2) (omega arith))

pub cleared_less : (w : ℕ) → (w ≡ 0 → ⊥) → bit_and w (w - 1) < w
cleared_less w p = let q : 0 < w = pos_of_ne-zero p in omega (arith, and_le_r w (w - 1))
