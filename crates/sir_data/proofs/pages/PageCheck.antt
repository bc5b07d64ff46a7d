-- The page check by two running sums.
use Rattle.std.proofs.Common.{◌≡◌, ℕ, zero, suc, ◌+◌, ◌-◌, ◌*◌, ◌%◌, ◌^◌, ◌<◌, ◌≤◌, map, sym, refl, ap, ◌∙◌, mul-add, add-one, arith}
use native.Mathlib.Nat.{add-mod, mod-add-mod, add-mod-mod}
use Rattle.plank_core.specs.Lists.{sum, upto}
use Rattle.plank_core.specs.laws.Loops.{sum_more}
use Rattle.sir_data.specs.Pages.{check_of}

-- f 0 + .. + f (n - 1)
unfoldable pub total : (ℕ → ℕ) → ℕ → ℕ
total f n = sum (map f (upto n))

-- the sum of the sums f 0, f 0 + f 1, ..
abbrev pub running : (ℕ → ℕ) → ℕ → ℕ
running f n = total (λ i. total f (suc i)) n

pub total_none : (f : ℕ → ℕ) → total f 0 ≡ 0
unfolding total
total_none f = refl

total_one : (f : ℕ → ℕ) → total f 1 ≡ f 0
unfolding total
total_one f = omega arith

total_more : (f : ℕ → ℕ) (n : ℕ) → total f (n + 1) ≡ total f n + f n
unfolding total
total_more f n = sum_more f n

total_suc : (f : ℕ → ℕ) (n : ℕ) → total f (suc n) ≡ total f n + f n
total_suc f n = rw (← add-one n) (total_more f n)

module _ (w : ℕ → ℕ) where
  abbrev weighed : ℕ → ℕ → ℕ
  weighed m n = total (λ i. w i * (m - 2 * i)) n

  -- the weight of the n-th, two more
  one : (m n : ℕ) → 2 * n ≤ m → w n * (m + 2 - 2 * n) ≡ w n * (m - 2 * n) + w n * 2
  one m n h =
      let e : m + 2 - 2 * n ≡ m - 2 * n + 2 = omega arith in
      ap (λ (k : ℕ). w n * k) e ∙ mul-add (w n) (m - 2 * n) 2

  -- weights that are two more add twice the plain sum
  two_more : (m n : ℕ) → 2 * n ≤ m + 2 → weighed (m + 2) n ≡ weighed m n + 2 * total w n
  two_more m zero h = simp total_none
  two_more m (suc n) h = simp total_suc (omega (arith, two_more m n (omega arith), one m n (omega arith)))

  -- twice the sum of the running sums is the running sum and the sum with weights 2 n + 1, 2 n - 1, .., 1
  twice : (n : ℕ) → 2 * running w (suc n) ≡ total w (suc n) + weighed (2 * n + 1) (suc n)
  twice zero = simp total_one (omega arith)
  twice (suc n) =
      let e : 2 * suc n + 1 ≡ 2 * n + 1 + 2 = omega arith in
      let last : w (suc n) * (2 * suc n + 1 - 2 * suc n) ≡ w (suc n) * 1 = ap (λ (k : ℕ). w (suc n) * k) (omega arith) in
      omega (
        arith,
        total_suc (λ i. total w (suc i)) (suc n),
        total_suc w (suc n),
        total_suc (λ i. w i * (2 * suc n + 1 - 2 * i)) (suc n),
        twice n,
        two_more (2 * n + 1) (suc n) (omega arith),
        ap (λ (m : ℕ). weighed m (suc n)) e,
        last,
      )

-- wrapped sums: what was wrapped before can be wrapped after
add_wrapped : {a b : ℕ} (x y : ℕ) → a ≡ x % 2 ^ 32 → b ≡ y % 2 ^ 32 → (a + b) % 2 ^ 32 ≡ (x + y) % 2 ^ 32
add_wrapped x y ea eb = rw (ea, eb) (sym (add-mod x y (2 ^ 32)))

-- a wrapped difference
sub_wrapped : (r w a : ℕ) → (r + a) % 2 ^ 32 ≡ (w + a) % 2 ^ 32 → r < 2 ^ 32 → r ≡ w % 2 ^ 32
sub_wrapped r w a e fits = omega arith

-- the weights of the definition are those of the sums
opened : (w : ℕ → ℕ) → weighed w 253 127 % 2 ^ 32 ≡ check_of w
unfolding total check_of
opened w = refl

-- what the two sums come to
pub check_is : (w : ℕ → ℕ) {r a b : ℕ} → a ≡ total w 127 % 2 ^ 32 → b ≡ running w 127 % 2 ^ 32 → (r + a) % 2 ^ 32 ≡ (b + b) % 2 ^ 32 → r < 2 ^ 32 → r ≡ check_of w
check_is w {r} {a} {b} ea eb er fits =
    let er' : (r + total w 127) % 2 ^ 32 ≡ (b + b) % 2 ^ 32 = sym (add-mod-mod r (total w 127) (2 ^ 32)) ∙ rw (← ea) er in
    sub_wrapped r (weighed w 253 127) (total w 127) (er' ∙ add_wrapped _ _ eb eb ∙ ap (λ (k : ℕ). k % 2 ^ 32) (omega (arith, twice w 126))) fits
    ∙ opened w

-- a turn of each sum
module _ (w : ℕ → ℕ) (i : ℕ) where
  pub turn_a : {a x r : ℕ} → a ≡ total w i % 2 ^ 32 → x ≡ w i → r ≡ (a + x) % 2 ^ 32 → r ≡ total w (i + 1) % 2 ^ 32
  turn_a ea ex er = er ∙ rw (ea, ex, total_more w i) (mod-add-mod (total w i) (2 ^ 32) (w i))

  pub turn_b : {b a r : ℕ} → b ≡ running w i % 2 ^ 32 → a ≡ total w (i + 1) % 2 ^ 32 → r ≡ (b + a) % 2 ^ 32 → r ≡ running w (i + 1) % 2 ^ 32
  turn_b eb ea er = er ∙ add_wrapped _ _ eb ea ∙ rw (total_more (λ j. total w (suc j)) i, add-one)
