-- The line of an operation says what the claim says: its index, a mark for each allocation, and whether it calls.
use mathlib.Core.Path.{◌≡◌, refl, sym, ◌∙◌}
use mathlib.Core.Logic.{◌⊎◌, inl, inr, ◌↔◌, ⊎_elim}
use mathlib.Core.Bool.{Bool, true, false, cond}
use Prim.Native.Nat.{ℕ, ◌+◌, ◌*◌, ◌≤◌, ◌<◌}
use native.Mathlib.Omega.{arith}
use mathlib.Core.List.{List, []}
use lib.ListN.{length, get_or}
use lib.Dec.{eqb}
use borrow.Author.Tests.{eqb-true, eq-eqb, lt-ltb, le-ltb}
use Rattle.plank_core.specs.laws.Lists.{or_true_left, or_true_right, or_cases, refuted, none}
use Rattle.plank_core.specs.Text.{number}
use Rattle.sir_data.specs.Records.{code}
use Rattle.sir_data.specs.Codes.{is_call}
use Rattle.sir_analyses.specs.Allocation.{allocs, marked, merged}
use Rattle.sir_analyses.specs.Open.{lies}
use Rattle.sir_analyses.specs.Walk.{Lies}
use Rattle.sir_analyses.specs.Chart.{op_line, index, Decimal, OnRight, OpLine}
use Rattle.sir_analyses.proofs.claims.lifetimes.OpenProof.{lies_covered, covered_lies}
use Rattle.sir_analyses.proofs.claims.chart.Numbers.{decimal_number}
use Rattle.sir_analyses.proofs.claims.chart.Lines.{index_long, op_index, op_bar, op_mark, op_second, op_last}

-- ---- one of three characters

abbrev char : Bool → Bool → ℕ
char m c = cond m 42 (cond c 35 46)

hash_is : (m c : Bool) → char m c ≡ 35 → (m ≡ false) × (c ≡ true)
hash_is true c h = absurd (omega arith)
hash_is false true h = (refl, refl)
hash_is false false h = absurd (omega arith)

is_hash : (m c : Bool) → m ≡ false → c ≡ true → char m c ≡ 35
is_hash m c h k = rw (h, k)

star_is : (m c : Bool) → char m c ≡ 42 → m ≡ true
star_is true c h = refl
star_is false true h = absurd (omega arith)
star_is false false h = absurd (omega arith)

is_star : (m c : Bool) → m ≡ true → char m c ≡ 42
is_star m c h = rw h

dot_is : (m c : Bool) → char m c ≡ 46 → (m ≡ false) × (c ≡ false)
dot_is true c h = absurd (omega arith)
dot_is false true h = absurd (omega arith)
dot_is false false h = (refl, refl)

is_dot : (m c : Bool) → m ≡ false → c ≡ false → char m c ≡ 46
is_dot m c h k = rw (h, k)

-- ---- calls

call_code : (c : ℕ) → is_call c ≡ true → (c ≡ 25) ⊎ (c ≡ 26)
call_code c h = ⊎_elim (λ (e : eqb c 25 ≡ true). inl (eqb-true c 25 e)) (λ (e : eqb c 26 ≡ true). inr (eqb-true c 26 e)) (or_cases (eqb c 25) (eqb c 26) h)

code_call : (c : ℕ) → (c ≡ 25) ⊎ (c ≡ 26) → is_call c ≡ true
code_call c (inl e) = or_true_left (eqb c 25) (eqb c 26) (eq-eqb c 25 e)
code_call c (inr e) = or_true_right (eqb c 25) (eqb c 26) (eq-eqb c 26 e)

call_is : (t : Bool) → (let x : ℕ = cond t 99 32 in x ≡ 99) → t ≡ true
call_is true h = refl
call_is false h = absurd (omega arith)

is_call_lem : (t : Bool) → t ≡ true → (let x : ℕ = cond t 99 32 in x ≡ 99)
is_call_lem t h = rw h

is_none : (t : Bool) → t ≡ false → (let x : ℕ = cond t 99 32 in x ≡ 32)
is_none t h = rw h

-- ---- the line

module _ (w : List ℕ) (s b o : ℕ) (few : length (number o) ≤ 5) where
  module _ (k : ℕ) (h : k < 64) where
    -- an allocation of the series, and the character in its column
    abbrev a : ℕ
    a = 64 * s + k

    abbrev shown : ℕ
    shown = get_or (op_line w s b o) (6 + k) 0

    module _ (known : a < length (allocs w)) where
      mark : shown ≡ char (marked w a) (lies b o (merged w a))
      mark = op_mark w s b o few k h ∙ rw (lt-ltb a (length (allocs w)) known)

      -- a marked one has no interval
      unmarked : Lies b o (merged w a) → marked w a ≡ false
      unmarked l = go (marked w a) refl
        where
          go : (t : Bool) → marked w a ≡ t → marked w a ≡ false
          go true e = let z : Lies b o [] = rw e at l in none (lies b o []) (lies_covered z) refl
          go false e = e

      hash_exact : (shown ≡ 35) ↔ Lies b o (merged w a)
      hash_exact = (
        (λ e. covered_lies b o (merged w a) (hash_is (marked w a) (lies b o (merged w a)) (sym mark ∙ e)).1),
        (λ l. mark ∙ is_hash (marked w a) (lies b o (merged w a)) (unmarked l) (lies_covered l)),
      )

      star_exact : (shown ≡ 42) ↔ (marked w a ≡ true)
      star_exact = ((λ e. star_is (marked w a) (lies b o (merged w a)) (sym mark ∙ e)), (λ e. mark ∙ is_star (marked w a) (lies b o (merged w a)) e))

      dot_exact : (shown ≡ 46) ↔ ((marked w a ≡ false) × (¬ Lies b o (merged w a)))
      dot_exact = (
        (λ e.
            let r = dot_is (marked w a) (lies b o (merged w a)) (sym mark ∙ e) in
            (r.0, (λ l. none (lies b o (merged w a)) (lies_covered l) r.1))),
        (λ e. mark ∙ is_dot (marked w a) (lies b o (merged w a)) e.0 (refuted (lies b o (merged w a)) (λ c. e.1 (covered_lies b o (merged w a) c)))),
      )

    dot_past : length (allocs w) ≤ a → shown ≡ 46
    dot_past l = op_mark w s b o few k h ∙ rw (le-ltb a (length (allocs w)) l)

  -- columns 1 to 5
  index_on_right : OnRight 5 (Decimal o) (index o)
  unfolding index
  index_on_right = (number o, (decimal_number o, index_long o few, refl))

  -- column 72
  call_exact : (get_or (op_line w s b o) 71 0 ≡ 99) ↔ ((code w o ≡ 25) ⊎ (code w o ≡ 26))
  call_exact = (
    (λ e. call_code (code w o) (call_is (is_call (code w o)) (sym (op_last w s b o few) ∙ e))),
    (λ c. op_last w s b o few ∙ is_call_lem (is_call (code w o)) (code_call (code w o) c)),
  )

  pub op_exact : OpLine w (64 * s) b o (op_line w s b o)
  op_exact =
      record {
        index_right = rw (op_index w s b o few) index_on_right;
        bar = op_bar w s b o few;
        hash = hash_exact;
        star = star_exact;
        otherwise = dot_exact;
        past = dot_past;
        second_bar = op_second w s b o few;
        call = call_exact;
        no_call = λ n. op_last w s b o few ∙ is_none (is_call (code w o)) (refuted (is_call (code w o)) (λ t. n (call_code (code w o) t)));
      }
