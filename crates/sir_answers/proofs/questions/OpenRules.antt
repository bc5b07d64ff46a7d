-- The own rules of the questions about a place and about two allocations: which of them applies, and what it gives that none does.
use mathlib.Core.Path.{◌≡◌, refl}
use mathlib.Core.Bool.{Bool, true, false, not, cond}
use mathlib.Core.List.{List}
use Prim.Native.Nat.{ℕ, ◌≤◌, ◌<◌}
use native.Mathlib.Omega.{arith}
use lib.Dec.{ltb}
use borrow.Author.Tests.{lt-ltb, le-ltb, ltb-true, ltb-false}
use Rattle.plank_core.specs.Lists.{mem, ◌∈◌}
use Rattle.plank_core.specs.laws.Lists.{in_mem, mem_in, mem_not}
use Rattle.sir_data.specs.Records.{blocks, operations, ops}
use Rattle.sir_data.specs.declared.refusals.Refusal.{Refusal}
use Rattle.sir_data.specs.Refusals.{number}
use Rattle.sir_data.specs.Rules.{first}
use Rattle.sir_data.specs.laws.Refusals.{not_0}
use Rattle.sir_analyses.specs.Open.{open_rules}

-- what `id_refusal` tells of an id
pub known : {id n : ℕ} → ◌≡◌ {A = ℕ} 0 (cond (not (ltb id n)) 13 0) → id < n
known {id} {n} z = go (ltb id n) refl z
  where
    go : (t : Bool) → ltb id n ≡ t → ◌≡◌ {A = ℕ} 0 (cond (not t) 13 0) → id < n
    go true e h = ltb-true id n e
    go false e h = absurd (omega arith)

pub unknown : (why : Refusal) {id n : ℕ} → number why ≡ cond (not (ltb id n)) 13 0 → (number why ≡ 13) × (n ≤ id)
unknown why {id} {n} z = go (ltb id n) refl z
  where
    go : (t : Bool) → ltb id n ≡ t → number why ≡ cond (not t) 13 0 → (number why ≡ 13) × (n ≤ id)
    go true e h = absurd (not_0 why h)
    go false e h = (h, ltb-false id n e)

module _ (b o : ℕ) (w : List ℕ) where
  -- 13: there is no such block
  pub unknown_block : blocks w ≤ b → 13 ≡ first (open_rules b o w)
  unknown_block h = rw (le-ltb b (blocks w) h)

  module _ (h : b < blocks w) where
    -- 13: there is no such operation
    pub unknown_operation : operations w ≤ o → 13 ≡ first (open_rules b o w)
    unknown_operation k = rw (lt-ltb b (blocks w) h, le-ltb o (operations w) k)

    module _ (k : o < operations w) where
      -- 15: the block does not hold it
      pub not_held : ¬ (o ∈ ops w b) → 15 ≡ first (open_rules b o w)
      not_held n = rw (lt-ltb b (blocks w) h, lt-ltb o (operations w) k, mem_not o (ops w b) n)

      pub held : o ∈ ops w b → 0 ≡ first (open_rules b o w)
      held m = rw (lt-ltb b (blocks w) h, lt-ltb o (operations w) k, in_mem o m)

  -- none applies
  pub open_held : first (open_rules b o w) ≡ 0 → (b < blocks w) × (o ∈ ops w b)
  open_held z = go (ltb b (blocks w)) refl (ltb o (operations w)) (mem o (ops w b)) refl z
    where
      go : (s : Bool) → ltb b (blocks w) ≡ s → (t u : Bool) → mem o (ops w b) ≡ u → ◌≡◌ {A = ℕ} (cond (not s) 13 (cond (not t) 13 (cond (not u) 15 0))) 0 → (b < blocks w) × (o ∈ ops w b)
      go true e true true f z = (ltb-true b (blocks w) e, mem_in o (ops w b) f)
      go true e true false f z = absurd (omega arith)
      go true e false u f z = absurd (omega arith)
      go false e t u f z = absurd (omega arith)
