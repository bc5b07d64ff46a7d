-- Marks and owners as the source makes them: `discover_allocations` and `propagate_pointers_and_mark_escapes` of allocation_liveness.rs,
-- with its work list and use by use. The numbers are its lines. `link_local_to_alloc` (276 to 293) is `link_local` of Propagation.
-- `operation_causes_ptr_escape` (54 to 178) is `escaping` of `Codes`, position by position, and there the source is altered in four arms: request
-- R-2 has the topics of `Log1` to `Log4` escape (156 to 159), which the source lets pass. All else is the source's.
use Rattle.std.specs.Prelude.{Bool, false, not, ◌||◌, cond, ℕ, zero, suc, List, [], ◌∷◌, ◌++◌, map, length, get_or, set, replicate, eqb}
use Rattle.plank_core.specs.Lists.{foldl, upto}
use Rattle.sir_data.specs.Records.{locals, control, inputs, ops, successors, code, outs}
use Rattle.sir_data.specs.Codes.{is_alloc, derives}
use Rattle.sir_analyses.specs.Order.{blocks_rpo}
use Rattle.sir_analyses.specs.Liveness.{Use, has}
use Rattle.sir_analyses.specs.Allocation.{Alloc, allocs, alloc_at, base, escapes_by}
use Rattle.sir_analyses.specs.Propagation.{State, link_local, mark}
use Rattle.sir_analyses.specs.SourceUses.{source_uses}

-- ---- discover_allocations

-- `allocations`, `local_to_alloc` (allocation + 1, or 0), and whether the assertion of 217 has failed
pub record Discoveries : Type 0 where
  pub allocations : List Alloc
  pub owner : List ℕ
  pub failed : Bool

-- 191 to 217, an allocation is pushed, and its base gets its id; the base must have had none
abbrev pub push_allocation : List ℕ → Discoveries → Alloc → Discoveries
push_allocation w d a = record {
  allocations = d.allocations ++ (a ∷ []);
  owner = set d.owner (base w a) (suc (length d.allocations));
  failed = d.failed || not (eqb (get_or d.owner (base w a) 0) 0);
}

-- 190 to 217, operation o of block b: one that is no allocation goes on to the next
abbrev pub discover_operation : List ℕ → ℕ → Discoveries → ℕ → Discoveries
discover_operation w b d o = cond (is_alloc (code w o)) (push_allocation w d (record { block = b; op = o })) d

-- 187 to 219: the operations of the blocks of `blocks_rpo`
abbrev pub discovered : List ℕ → Discoveries
discovered w =
    foldl (λ d b. foldl (discover_operation w b) d (ops w b)) (record { allocations = []; owner = replicate (locals w) 0; failed = false }) (blocks_rpo w)

-- after 219: none escapes yet, and the work list is empty
abbrev pub source_start : List ℕ → State
source_start w = let d = discovered w in record { owner = d.owner; marks = replicate (length d.allocations) false; work = [] }

-- ---- propagate_pointers_and_mark_escapes

-- 264 to 271, operation o uses local v: `can_derive_pointer` links its outputs, then `operation_causes_ptr_escape` marks
abbrev pub follow_operation : List ℕ → ℕ → ℕ → ℕ → State → State
follow_operation w a v o s =
    let t = cond (derives (code w o)) (foldl (link_local a) s (outs w o)) s in
    cond (escapes_by w o v) (mark a t) t

-- 249 to 260, an output of block b at place k: `InternalReturn` marks, else the input at that place of each successor is linked
abbrev pub follow_output : List ℕ → ℕ → ℕ → ℕ → State → State
follow_output w a b k s =
    cond (eqb (control w b) 1) (mark a s)
    (foldl (link_local a) s (map (λ c. get_or (inputs w c) k 0) (successors w b)))

-- 247 to 271, one use of local v by its kind; `Control` goes on to the next
abbrev pub follow_use : List ℕ → ℕ → ℕ → State → Use → State
follow_use w a v s u =
    cond (eqb u.kind 0) (follow_operation w a v u.place s)
    (cond (eqb u.kind 2) (follow_output w a u.block u.place s)
    s)

-- 245, `worklist.pop()`: the latest local, and the state without it
abbrev pub pop : (ℕ → State → State) → List ℕ → State → State
pop f [] s = s
pop f (v ∷ vs) s = f v (record { owner = s.owner; marks = s.marks; work = vs })

-- 245 to 273, the `while` loop; `uses_of` is `def_use`, and n bounds how many locals are followed
abbrev pub drain : (ℕ → List Use) → ℕ → List ℕ → ℕ → State → State
drain uses_of zero w a s = s
drain uses_of (suc n) w a s = pop (λ v t. drain uses_of n w a (foldl (follow_use w a v) t (uses_of v))) s.work s

-- `propagate_pointers_and_mark_escapes` (234 to 274) from the base of allocation a
abbrev pub propagate : (ℕ → List Use) → List ℕ → State → ℕ → State
propagate uses_of w s a = drain uses_of (suc (locals w)) w a (record { owner = s.owner; marks = s.marks; work = base w (alloc_at w a) ∷ [] })

-- `discover_allocations` (181 to 232) with the first n allocations propagated: 222 to 231 take them in turn
abbrev pub source_after : List ℕ → ℕ → State
source_after w n = foldl (propagate (source_uses w) w) (source_start w) (upto n)

-- `discover_allocations` to its end: all allocations propagated
abbrev pub source_state : List ℕ → State
source_state w = source_after w (length (allocs w))

-- `escapes` of allocation a
abbrev pub source_marked : List ℕ → ℕ → Bool
source_marked w a = has (source_state w).marks a
