-- What is claimed of the answers beyond their definitions: that the order visits exactly what can be reached, by the source's own
-- recursion; that predecessors are exactly the edges; that the sets are the least solution of the equations; that an unvisited block has
-- empty sets and no predecessors; that the round number counts passes and is bounded; that marks follow the reach rule; and that the
-- source's own steps come to the same answers. The claim on walks is in Walk. Definitions and statements only; the
-- records whose names end in `Rule` are claims on the payload words of an accepted image.
use Rattle.std.specs.Prelude.{◌≡◌, ◌↔◌, Bool, true, false, not, ◌&&◌, ◌||◌, cond, ℕ, zero, suc, ◌+◌, ◌≤◌, ◌<◌, length, get_or, eqb, leb}
use mathlib.Core.List.{List, [], ◌∷◌, map, Memᴰ}
use Rattle.plank_core.specs.Lists.{foldl, bind, all, distinct, upto, sum, ◌∈◌, mem, times}
use Rattle.sir_data.specs.Records.{functions, blocks, locals, init_function, main_plus_one, entry_block, ops, successors, callees}
use Rattle.sir_analyses.specs.Order.{Visit, see_function, see_block, finish_function, finish_block, visit_function, visit_block, functions_rpo, blocks_rpo, predecessors}
use Rattle.sir_analyses.specs.Liveness.{Use, uses, Set, has, members, use_set, def_set, entry_from, renamed, exit_from, row_of, no_exits, pass, entry_set, exit_set, rounds, intervals}
use Rattle.sir_analyses.specs.Allocation.{allocs, alloc_at, base, carried, escapes, is_returned, reach, marked, bases, owners, merged}
use Rattle.sir_analyses.specs.SourceUses.{source_predecessors, source_uses}
use Rattle.sir_analyses.specs.SourceLiveness.{Live, insert_exit, propagated, source_live, Ends, end_at_block_end, remove_end, source_local_intervals}
use Rattle.sir_analyses.specs.Source.{discovered, source_after, source_state, source_marked}
use Rattle.sir_analyses.specs.SourceIntervals.{source_intervals}

-- what is visited: a function or a block
pub data Item : Type 0 where
  function : ℕ → Item
  block : ℕ → Item

-- is no number of the list above a later one?
abbrev pub ascending : List ℕ → Bool
ascending [] = true
ascending (x ∷ xs) = all (leb x) xs && ascending xs

-- two lists have the same members
abbrev pub SameMembers : List ℕ → List ℕ → Type 0
SameMembers xs ys = (v : ℕ) → mem v xs ≡ mem v ys

module _ (w : List ℕ) where
  -- ---- order

  -- visited: init, main if any; then a visited function's entry, a visited block's successors and callees; nothing else
  pub data Visited : Item → Type 0 where
    init : Visited (function (init_function w))
    main : {m : ℕ} → main_plus_one w ≡ suc m → Visited (function m)
    entry : {f : ℕ} → Visited (function f) → Visited (block (entry_block w f))
    successor : {b s : ℕ} → Visited (block b) → s ∈ successors w b → Visited (block s)
    callee : {b o f : ℕ} → Visited (block b) → o ∈ ops w b → f ∈ callees w o → Visited (function f)

  -- the depth that the order is given
  abbrev pub depth : ℕ
  depth = functions w + blocks w

  -- the order: every visited function and block, each once, and no other
  pub record OrderRule : Type 0 where
    pub blocks_exact : (b : ℕ) → b ∈ blocks_rpo w ↔ Visited (block b)
    pub functions_exact : (f : ℕ) → f ∈ functions_rpo w ↔ Visited (function f)
    pub blocks_once : distinct (blocks_rpo w) ≡ true
    pub functions_once : distinct (functions_rpo w) ≡ true
    -- its depth cuts nothing off, whatever was seen before: each visit is the source's own text, whose recursion has no bound
    pub visit_function_fact : (f : ℕ) (v : Visit) → f < functions w
        → visit_function depth w f v ≡ cond (mem f v.seen_functions) v (finish_function (visit_block depth w f (entry_block w f) (see_function v f)) f)
    pub visit_block_fact : (f b : ℕ) (v : Visit) → b < blocks w
        → visit_block depth w f b v ≡ cond (mem b v.seen_blocks) v
        (finish_block
        (foldl (λ u s. visit_block depth w f s u)
        (foldl (λ u g. visit_function depth w g u) (see_block v b) (bind (ops w b) (callees w)))
        (successors w b))
        f b)
    -- the predecessors of b: each visited block as often as it has b for a successor, no other block, ids ascending
    pub edges_exact : (p b : ℕ) → Visited (block p) → times p (predecessors w b) ≡ times b (successors w p)
    pub edges_only : (p b : ℕ) → ¬ Visited (block p) → times p (predecessors w b) ≡ 0
    pub edges_ascending : (b : ℕ) → ascending (predecessors w b) ≡ true
    -- an unvisited block has no predecessors
    pub unvisited : (b : ℕ) → ¬ Visited (block b) → predecessors w b ≡ []

  -- ---- liveness

  -- a solution of the equations: x gives each visited block the exit set that they give it
  pub record Solves (x : ℕ → Set) : Type 0 where
    pub exit : (b : ℕ) → Visited (block b) → x b ≡ exit_from w x b

  -- the least solution: every other one has all its members
  pub record Least (x : ℕ → Set) : Type 0 where
    pub solution : Solves x
    pub least : (y : ℕ → Set) → Solves y → (b v : ℕ) → Visited (block b) → has (x b) v ≡ true → has (y b) v ≡ true

  -- v is live at the exit of b from the entry sets: some successor has a local live at its entry that is called v at the exit of b
  pub record LiveOut (entry : ℕ → Set) (b v : ℕ) : Type 0 where
    pub to : ℕ
    pub local : ℕ
    pub follows : to ∈ successors w b
    pub live : has (entry to) local ≡ true
    pub called : renamed w b to local ≡ v

  -- the two equations of the Dragon Book, member by member: entry = use ∪ (exit − def), and exit is what the successors' entries pass on
  pub record Equations (entry exit : ℕ → Set) : Type 0 where
    pub entry_is : (b v : ℕ) → Visited (block b) → has (entry b) v ≡ (has (use_set w b) v || (has (exit b) v && not (has (def_set w b) v)))
    pub exit_is : (b v : ℕ) → Visited (block b) → (has (exit b) v ≡ true) ↔ LiveOut entry b v

  -- the exit sets after n passes; the first pass starts from empty sets
  abbrev pub after : ℕ → List Set
  after zero = no_exits w
  after (suc n) = pass w (after n)

  -- liveness: entry and exit sets are the least solution of the equations, and rounds counts the passes to it
  pub record LivenessRule : Type 0 where
    pub exits : Least (exit_set w)
    pub entries : (b : ℕ) → Visited (block b) → entry_set w b ≡ entry_from w b (exit_set w b)
    -- so that the entry sets are least too: every other solution has all their members at its entries
    pub least_entries : (y : ℕ → Set) → Solves y → (b v : ℕ) → Visited (block b) → has (entry_set w b) v ≡ true → has (entry_from w b (y b)) v ≡ true
    -- in one: the pair of both is the least solution of the two equations
    pub equations : Equations (entry_set w) (exit_set w)
    pub least_pair : (y z : ℕ → Set) → Equations y z → (b v : ℕ) → Visited (block b)
        → (has (entry_set w b) v ≡ true → has (y b) v ≡ true) × (has (exit_set w b) v ≡ true → has (z b) v ≡ true)
    -- an exit set has a place for each local
    pub sized : (b : ℕ) → Visited (block b) → length (exit_set w b) ≡ locals w
    -- the equations are those of the Dragon Book, whatever the exit set: entry = use ∪ (exit − def)
    pub use_def : (b : ℕ) (x : Set) (v : ℕ) → length x ≡ locals w → has (entry_from w b x) v ≡ (has (use_set w b) v || (has x v && not (has (def_set w b) v)))
    -- an unvisited block has empty sets
    pub unvisited_entry : (b : ℕ) → ¬ Visited (block b) → members (entry_set w b) ≡ []
    pub unvisited_exit : (b : ℕ) → ¬ Visited (block b) → members (exit_set w b) ≡ []
    -- the exit sets are those after all passes; the last pass changes nothing, nor does one more, and each one before it does
    pub passes : (b : ℕ) → exit_set w b ≡ row_of (after (rounds w)) b
    pub last_pass : (n : ℕ) → rounds w ≡ suc n → after (suc n) ≡ after n
    pub one_more : pass w (after (rounds w)) ≡ after (rounds w)
    pub earlier_pass : (n : ℕ) → suc n < rounds w → ¬ (after (suc n) ≡ after n)
    pub some_pass : 1 ≤ rounds w
    -- the number is at most the final number of exit members plus 1
    pub bound : rounds w ≤ sum (map (λ b. length (members (exit_set w b))) (upto (blocks w))) + 1

  -- ---- marks

  -- the reach of allocation a
  pub data Reached (a : ℕ) : ℕ → Type 0 where
    itself : {v : ℕ} → v ≡ base w (alloc_at w a) → Reached a v
    linked : {u v : ℕ} {x : Use} → Reached a u → Memᴰ x (uses w u) → v ∈ carried w x → Reached a v

  -- the mark of allocation a: some reached local is used in an escaping operand, returned, or reached by another allocation too
  pub data Marked (a : ℕ) : Type 0 where
    escaped : {v : ℕ} → Reached a v → escapes w v ≡ true → Marked a
    returned : {v : ℕ} → Reached a v → is_returned w v ≡ true → Marked a
    met : {v b : ℕ} → Reached a v → b < length (allocs w) → ¬ (a ≡ b) → Reached b v → Marked a

  -- marks: the reach and the mark that are computed are those of the two rules
  pub record MarkRule : Type 0 where
    pub reach_exact : (a v : ℕ) → a < length (allocs w) → (has (reach w (alloc_at w a)) v ≡ true) ↔ Reached a v
    pub mark_exact : (a : ℕ) → a < length (allocs w) → (marked w a ≡ true) ↔ Marked a

  -- ---- the source's own steps

  -- the source's own steps come to the predecessors, uses, sets, intervals, allocations, marks, owners and merged intervals of the
  -- definitions: SourceUses, SourceLiveness, Source and SourceIntervals have them line by line. The order's definition is the source's text
  pub record SourceRule : Type 0 where
    pub predecessors_same : (b : ℕ) → b < blocks w → source_predecessors w b ≡ predecessors w b
    pub uses_same : (v : ℕ) → source_uses w v ≡ uses w v
    -- its `while` ends by itself: the bound in `source_live` cuts nothing off
    pub unchanged : (source_live w).changed ≡ false
    pub exits_same : (b : ℕ) → row_of (source_live w).exits b ≡ exit_set w b
    pub entries_same : (b : ℕ) → members (row_of (source_live w).entries b) ≡ members (entry_set w b)
    pub local_intervals_same : (v : ℕ) → v < locals w → source_local_intervals w v ≡ intervals w v
    -- the allocations that it finds, and every base for its own; its assertion holds
    pub allocations_same : (discovered w).allocations ≡ allocs w
    pub bases_same : (discovered w).owner ≡ bases w
    pub asserted : (discovered w).failed ≡ false
    -- after each allocation its work list is empty: the bound in `drain` cuts nothing off
    pub drained : (n : ℕ) → n ≤ length (allocs w) → (source_after w n).work ≡ []
    pub marks : (a : ℕ) → a < length (allocs w) → source_marked w a ≡ marked w a
    pub owners_same : (source_state w).owner ≡ owners w
    -- the locals that it gives to an unmarked allocation are the reach, so that it merges their intervals
    pub owned : (a v : ℕ) → a < length (allocs w) → marked w a ≡ false → has (reach w (alloc_at w a)) v ≡ eqb (get_or (owners w) v 0) (suc a)
    pub intervals_same : (a : ℕ) → a < length (allocs w) → source_intervals w a ≡ merged w a
    -- where it takes the members of a hash set or map, in lines 178, 197 and 229 of local_liveness.rs, their order does not matter
    pub any_order_inserted : (p b : ℕ) (s : Live) (xs ys : List ℕ) → p < length s.exits → SameMembers xs ys
        → foldl (λ u v. insert_exit p u (propagated w p b v)) s xs ≡ foldl (λ u v. insert_exit p u (propagated w p b v)) s ys
    pub any_order_ended : (ends xs ys : List ℕ) → SameMembers xs ys → end_at_block_end ends xs ≡ end_at_block_end ends ys
    pub any_order_drained : (b : ℕ) (s : Ends) (xs ys : List ℕ) → length s.ends ≡ length s.found → SameMembers xs ys
        → foldl (remove_end b 0) s xs ≡ foldl (remove_end b 0) s ys
