-- Predecessors and uses as the source makes them: `compute` of predecessors.rs and of def_use.rs fill a table with a list for each block,
-- and for each local, by `push`. The numbers are lines of these files.
use Rattle.std.specs.Prelude.{cond, ℕ, suc, List, [], ◌∷◌, ◌++◌, get_or, set, replicate}
use Rattle.plank_core.specs.Lists.{foldl, upto}
use Rattle.sir_data.specs.Records.{blocks, locals, outputs, ops, successors, condition, ins}
use Rattle.sir_analyses.specs.Order.{blocks_rpo, is_visited}
use Rattle.sir_analyses.specs.Liveness.{Use}

-- `table[i].push(x)`, in a table with a list for each id
abbrev pub push : {A : Type 0} → List (List A) → ℕ → A → List (List A)
push t i x = set t i (get_or t i [] ++ (x ∷ []))

-- ---- predecessors.rs

-- 20 to 25, block b: where it is reachable, it is pushed to the list of each successor
abbrev pub push_to_successors : List ℕ → List (List ℕ) → ℕ → List (List ℕ)
push_to_successors w t b = cond (is_visited w b) (foldl (λ u s. push u s b) t (successors w b)) t

-- `compute` (11 to 27): empty lists, then all blocks by id
abbrev pub predecessor_table : List ℕ → List (List ℕ)
predecessor_table w = foldl (push_to_successors w) (replicate (blocks w) []) (upto (blocks w))

-- `of` (31 to 33)
abbrev pub source_predecessors : List ℕ → ℕ → List ℕ
source_predecessors w b = get_or (predecessor_table w) b []

-- ---- def_use.rs

-- 44 to 49, operation o of block b: each input is used by it
abbrev pub use_inputs : List ℕ → ℕ → List (List Use) → ℕ → List (List Use)
use_inputs w b t o = foldl (λ u v. push u v (record { block = b; kind = 0; place = o })) t (ins w o)

-- 52 to 62: the condition of a branch or switch is used by the block's control
abbrev pub use_condition : List ℕ → ℕ → List (List Use) → List (List Use)
use_condition w b t = foldl (λ u v. push u v (record { block = b; kind = 1; place = 0 })) t (condition w b)

-- 64 to 69, `enumerate`: the outputs from place idx on are used at their places
abbrev pub use_outputs : ℕ → List (List Use) → ℕ → List ℕ → List (List Use)
use_outputs b t idx [] = t
use_outputs b t idx (v ∷ vs) = use_outputs b (push t v (record { block = b; kind = 2; place = idx })) (suc idx) vs

-- 42 to 69, block b: its operations in turn, its control, its outputs
abbrev pub use_block : List ℕ → List (List Use) → ℕ → List (List Use)
use_block w t b = use_outputs b (use_condition w b (foldl (use_inputs w b) t (ops w b))) 0 (outputs w b)

-- `compute` (34 to 71): empty lists, then the blocks of `blocks_rpo`
abbrev pub use_table : List ℕ → List (List Use)
use_table w = foldl (use_block w) (replicate (locals w) []) (blocks_rpo w)

-- `uses_of` (75 to 77)
abbrev pub source_uses : List ℕ → ℕ → List Use
source_uses w v = get_or (use_table w) v []
