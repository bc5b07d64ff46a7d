-- What is open at an operation and where two allocations cross, by the locals that are live around it: before it or after it.
use Rattle.std.specs.Prelude.{◌≡◌, Bool, true, ◌||◌, cond, ℕ, suc, ◌+◌, ◌<◌, length, Option, Some, None}
use mathlib.Core.List.{List, [], ◌∷◌, map, foldr}
use Rattle.plank_core.specs.Lists.{range, mem}
use Rattle.plank_core.specs.inner.DenseIndexSet.{contains, members}
use Rattle.sir_data.specs.Records.{locals, block_word, ins, outs}
use Rattle.sir_analyses.specs.Liveness.{Set, has, add_all, remove_all, end_reads, exit_set}
use Rattle.sir_analyses.specs.Allocation.{alloc_at}
use Rattle.sir_analyses.specs.inner.Discovery.{Unmarked}
use Rattle.sir_answers.specs.inner.AllocationPieces.{unmarked_owner}

-- the locals that are live before the operations os, which are the last of block b
abbrev pub live_ahead : List ℕ → ℕ → List ℕ → Set
live_ahead w b os = foldr (λ o s. add_all (remove_all s (outs w o)) (ins w o)) (add_all (exit_set w b) (end_reads w b)) os

-- is v live before operation o of block b, or after it?
unfoldable pub is_around : List ℕ → ℕ → ℕ → ℕ → Bool
is_around w b o v = has (live_ahead w b (range o (block_word w b 5))) v || has (live_ahead w b (range (suc o) (block_word w b 5))) v

-- a set of words has just these locals
pub record LiveAround (w : List ℕ) (b o : ℕ) (set : List ℕ) : Type 0 where
  pub long : length set ≡ 8
  pub known : (v : ℕ) → v < 512 → contains set v ≡ true → v < locals w
  pub around_is : (v : ℕ) → v < locals w → contains set v ≡ is_around w b o v

-- the unmarked owners of the locals of a set are listed
pub record UnmarkedOwners (pointers set ids : List ℕ) : Type 0 where
  pub owners : List ℕ
  pub listed : ids ≡ members owners
  pub owner_is : (a : ℕ) → a < 512 → contains owners a ≡ mem (a + 1) (map (unmarked_owner pointers) (members set))

-- allocation a is unmarked, and a set of words shows its reach
abbrev pub ReachOf : List ℕ → ℕ → List ℕ → Type 0
ReachOf w a set = Unmarked w (alloc_at w a).block (alloc_at w a).op set a

-- the first of some operations that passes a test
abbrev pub first_passing : (ℕ → Bool) → List ℕ → Option ℕ
first_passing f [] = None
first_passing f (o ∷ os) = cond (f o) (Some o) (first_passing f os)
