-- Putting words into a slice, some after others.
use mathlib.Core.Path.{◌≡◌, refl, sym, ap, ◌∙◌}
use mathlib.Core.List.{List, [], ◌∷◌, ◌++◌}
use Prim.Native.Nat.{ℕ, ◌+◌, ◌*◌, ◌≤◌, ◌<◌}
use native.Mathlib.Omega.{arith}
use lib.ListN.{length, take, drop, length-append}
use borrow.Author.Tests.{le-leb}
use Rattle.sir_data.specs.Pages.{bytes_of}
use Rattle.sir_analyses.specs.inner.Writing.{word_put, words_put, Puts}
use Rattle.sir_analyses.specs.laws.Writing.{puts_past, puts_append, puts_length}
pub use Rattle.sir_analyses.specs.laws.Writing.{length_bytes, puts_past, puts_append, puts_length, puts_within}

-- ---- some words are put, the rest are to come

pub record Putting (n₀ : ℕ) (full out₀ : List ℕ) (rest out : List ℕ) (n : ℕ) : Type 0 where
  pub count : n + length rest ≡ n₀ + length full
  pub left : words_put (length out₀) n rest out ≡ words_put (length out₀) n₀ full out₀
  pub long : length out ≡ length out₀

module _ {n₀ : ℕ} {full out₀ : List ℕ} where
  pub putting_none : Putting n₀ full out₀ full out₀ n₀
  putting_none = record { count = refl; left = refl; long = refl }

  pub putting_as : {rest rest' out : List ℕ} {n : ℕ} → rest ≡ rest' → Putting n₀ full out₀ rest out n → Putting n₀ full out₀ rest' out n
  putting_as e k = rw e at k

  pub putting_more : {xs rest out out' : List ℕ} {n n' : ℕ} → Putting n₀ full out₀ (xs ++ rest) out n → Puts n xs out out' n' → Putting n₀ full out₀ rest out' n'
  putting_more {xs} {rest} {out} {out'} {n} {n'} k p =
      let m : ℕ = length out₀ in
      let e : out' ≡ words_put m n xs out = p.left ∙ ap (λ (i : ℕ). words_put i n xs out) k.long in
      record {
        count = let a = length-append xs rest in omega (arith, k.count, p.next);
        left = ap (words_put m n' rest) e ∙ ap (λ (i : ℕ). words_put m i rest (words_put m n xs out)) p.next ∙ sym (puts_append m n xs rest out) ∙ k.left;
        long = ap length e ∙ puts_length m n xs out (omega (arith, k.long)) ∙ k.long;
      }

  pub putting_all : {rest out : List ℕ} {n : ℕ} → rest ≡ [] → Putting n₀ full out₀ rest out n → Puts n₀ full out₀ out n
  unfolding words_put
  putting_all {rest} {out} {n} e k =
      let c : n + length rest ≡ n₀ + length full = k.count in
      let z : length rest ≡ 0 = ap length e in
      record { next = omega arith; left = sym (ap (λ (l : List ℕ). words_put (length out₀) n l out) e) ∙ k.left }

-- ---- one word, and one after another

module _ (n x : ℕ) (out : List ℕ) where
  pub puts_none : length out < 4 * n + 4 → Puts n (x ∷ []) out out (n + 1)
  puts_none h = record { next = refl; left = sym (puts_past (length out) n (x ∷ []) out h) }

  pub puts_one : {out' : List ℕ} → 4 * n + 4 ≤ length out → out' ≡ take (4 * n) out ++ bytes_of x ++ drop (4 * n + 4) out → Puts n (x ∷ []) out out' (n + 1)
  unfolding words_put word_put
  puts_one h e = record { next = refl; left = e ∙ rw (le-leb (4 * n + 4) (length out) h) }

-- putting keeps the length of the slice
pub puts_long : {n : ℕ} {xs out out' : List ℕ} {r : ℕ} → Puts n xs out out' r → length out' ≡ length out
puts_long {n} {xs} {out} p = ap length p.left ∙ puts_length (length out) n xs out (omega arith)

pub puts_then : {n : ℕ} {xs ys out mid out' : List ℕ} {m r : ℕ} → Puts n xs out mid m → Puts m ys mid out' r → Puts n (xs ++ ys) out out' r
puts_then {n} {xs} {ys} {out} {mid} {out'} {m} {r} a b =
    let k : ℕ = length out in
    record {
      next = let l = length-append xs ys in omega (arith, a.next, b.next);
      left = b.left
          ∙ ap (λ (i : ℕ). words_put i m ys mid) (puts_long a)
          ∙ ap (words_put k m ys) a.left
          ∙ ap (λ (i : ℕ). words_put k i ys (words_put k n xs out)) a.next
          ∙ sym (puts_append k n xs ys out);
    }

-- the words still to come fit the numbers
pub putting_count : {n₀ : ℕ} {full out₀ : List ℕ} (xs rest : List ℕ) {out : List ℕ} {n k : ℕ} → n₀ + length full < k → Putting n₀ full out₀ (xs ++ rest) out n → n + length xs < k
putting_count xs rest h p = let a = length-append xs rest in omega (arith, p.count)

-- the slice is full: the rest is only counted
pub putting_past : {n₀ : ℕ} {full out₀ rest out : List ℕ} {n r : ℕ} → length out < 4 * n + 4 → r ≡ n₀ + length full → Putting n₀ full out₀ rest out n → Puts n₀ full out₀ out r
putting_past {out₀ = out₀} {rest = rest} {out = out} {n = n} h e k = record { next = e; left = sym (puts_past (length out₀) n rest out (omega (arith, k.long))) ∙ k.left }

pub puts_nothing : {n : ℕ} {out : List ℕ} → Puts n [] out out n
unfolding words_put
puts_nothing = record { next = omega arith; left = refl }

pub puts_as : {n : ℕ} {xs ys out out' : List ℕ} {r : ℕ} → xs ≡ ys → Puts n xs out out' r → Puts n ys out out' r
puts_as e k = rw e at k
