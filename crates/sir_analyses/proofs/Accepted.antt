-- What acceptance gives, in the shapes that the proofs here use.
use mathlib.Core.Path.{◌≡◌}
use mathlib.Core.Logic.{⊎_elim}
use mathlib.Core.Bool.{Bool, true, false, ◌&&◌, cond}
use Prim.Native.Nat.{ℕ, ◌<◌, ◌-◌, ◌≤◌}
use mathlib.Core.List.Memᴰ
use mathlib.Core.List.{List, []}
use native.Mathlib.Omega.{arith}
use lib.ListN.{length}
use lib.Dec.{eqb}
use borrow.Author.Tests.{eqb-true}
use Rattle.plank_core.specs.Lists.{◌∈◌}
use Rattle.plank_core.specs.laws.Lists.{and_true_right, or_cases}
use Rattle.plank_core.specs.laws.Loops.{length_count}
use Rattle.sir_data.specs.Records.{blocks, operations, locals, outputs, ops, control, successors, returned, code, ins, outs, block_word}
use Rattle.sir_data.specs.Codes.{arity_ok, is_static_alloc, is_dynamic_alloc, is_alloc}
use Rattle.sir_data.specs.inner.WellFormed.{WellFormed}
use Rattle.sir_analyses.specs.Order.{blocks_rpo}
use Rattle.sir_analyses.proofs.claims.order.OrderProof.{blocks_below}

-- the operand counts of an allocation: one output
alloc_out : (c i o : ℕ) → is_alloc c ≡ true → arity_ok c i o ≡ true → o ≡ 1
alloc_out c i o h k =
    ⊎_elim
    (λ (s : is_static_alloc c ≡ true).
    ⊎_elim (λ (e : eqb c 82 ≡ true). fixed 0 (rw (eqb-true c 82 e) at k)) (λ (e : eqb c 83 ≡ true). fixed 0 (rw (eqb-true c 83 e) at k)) (or_cases (eqb c 82) (eqb c 83) s))
    (λ (s : is_dynamic_alloc c ≡ true).
    ⊎_elim (λ (e : eqb c 21 ≡ true). fixed 1 (rw (eqb-true c 21 e) at k)) (λ (e : eqb c 22 ≡ true). fixed 1 (rw (eqb-true c 22 e) at k)) (or_cases (eqb c 21) (eqb c 22) s))
    (or_cases (is_static_alloc c) (is_dynamic_alloc c) h)
  where
    fixed : (n : ℕ) → (eqb i n && eqb o 1) ≡ true → o ≡ 1
    fixed n t = eqb-true o 1 (and_true_right (eqb i n) (eqb o 1) t)

module _ (w : List ℕ) (good : WellFormed w) where
  pub one_out : {o : ℕ} → o < operations w → is_alloc (code w o) ≡ true → length (outs w o) ≡ 1
  one_out {o} l h = alloc_out (code w o) (length (ins w o)) (length (outs w o)) h (good.arity_ok_fact o l)

  pub returned_below : (b v : ℕ) → b < blocks w → v ∈ returned w b → v < locals w
  returned_below b v l m = go (eqb (control w b) 1) m
    where
      go : (t : Bool) → v ∈ cond t (outputs w b) [] → v < locals w
      go true k = good.in_range.output b v l k
      go false k = absurd (Memᴰ.not-nil k)

  -- how many operations a block can have
  pub ops_few : (b : ℕ) → b < blocks w → length (ops w b) ≤ 1024
  ops_few b l = omega (arith, length_count (block_word w b 4) (block_word w b 5 - block_word w b 4), good.in_range.ops_range b l, good.sized.operations_most)

  -- the operations of a listed block
  pub listed_op : {b o : ℕ} → b ∈ blocks_rpo w → o ∈ ops w b → o < operations w
  listed_op {b} {o} m n = good.in_range.op b o (blocks_below w good b m) n

-- a block that returns has no successors
pub returns_last : (w : List ℕ) (b : ℕ) → eqb (control w b) 1 ≡ true → successors w b ≡ []
returns_last w b e = let c : control w b ≡ 1 = eqb-true (control w b) 1 e in rw c
