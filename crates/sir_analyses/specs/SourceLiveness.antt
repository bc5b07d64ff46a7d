-- Live sets and intervals of locals as the source makes them: `compute_liveness` and `compute_intervals` of local_liveness.rs. The numbers
-- are its lines. A `HashSet` is a set with a place for each local, and a `HashMap` a list with an entry for each; where the source takes
-- the members of one in any order, they go by id here, and `SourceRule` says that their order does not matter.
use Rattle.std.specs.Prelude.{Bool, true, false, not, ◌||◌, cond, ℕ, zero, suc, ◌+◌, ◌*◌, List, [], ◌∷◌, reverse, get_or, set, replicate, eqb}
use Rattle.plank_core.specs.Lists.{foldl, bind, mem, upto}
use Rattle.sir_data.specs.Records.{blocks, locals, inputs, outputs, ops, ins, outs}
use Rattle.sir_analyses.specs.Order.{functions_rpo, function_blocks, blocks_rpo}
use Rattle.sir_analyses.specs.Liveness.{Set, has, members, end_reads, entry_from, index_of, row_of, no_exits, Interval, block_end}
use Rattle.sir_analyses.specs.SourceUses.{push, source_predecessors}

-- ---- compute_liveness

-- `locals_live_at_entry` and `locals_live_at_exit`, a set for each block, and `changed`
pub record Live : Type 0 where
  pub entries : List Set
  pub exits : List Set
  pub changed : Bool

-- `changed |= locals_live_at_exit[p].insert(v)`: `insert` tells whether v is new there
abbrev pub insert_exit : ℕ → Live → ℕ → Live
insert_exit p s v = record {
  entries = s.entries;
  exits = set s.exits p (set (row_of s.exits p) v true);
  changed = s.changed || not (has (row_of s.exits p) v);
}

-- 180 to 184, local v at the entry of block b: where it has a position among b's inputs, p's output at that position; else v itself
abbrev pub propagated : List ℕ → ℕ → ℕ → ℕ → ℕ
propagated w p b v = cond (mem v (inputs w b)) (get_or (outputs w p) (index_of v (inputs w b)) 0) v

-- `propagate_liveness_to_predecessors` (168 to 188): for each predecessor of block b, each local that is live at b's entry
abbrev pub propagate_live : List ℕ → ℕ → Live → Live
propagate_live w b s =
    let entry = members (row_of s.entries b) in
    foldl (λ t p. foldl (λ u v. insert_exit p u (propagated w p b v)) t entry) s (source_predecessors w b)

-- 121 to 133, block b: `compute_liveness_at_block_entry` (138 to 166) is `entry_from`; then its predecessors
abbrev pub live_block : List ℕ → Live → ℕ → Live
live_block w s b =
    propagate_live w b (record { entries = set s.entries b (entry_from w b (row_of s.exits b)); exits = s.exits; changed = s.changed })

-- `blocks_postorder` of reverse_post_order.rs (72 to 77 there): functions last first, and the blocks of each last first
abbrev pub blocks_postorder : List ℕ → List ℕ
blocks_postorder w = bind (reverse (functions_rpo w)) (λ f. reverse (function_blocks w f))

-- 119 to 134, the body of the `while`
abbrev pub live_pass : List ℕ → Live → Live
live_pass w s = foldl (live_block w) (record { entries = s.entries; exits = s.exits; changed = false }) (blocks_postorder w)

-- 118 to 135, the `while`; n bounds how often its body is run
abbrev pub live_loop : ℕ → List ℕ → Live → Live
live_loop zero w s = s
live_loop (suc n) w s = let next = live_loop n w (live_pass w s) in cond s.changed next s

-- `compute_liveness` (111 to 136) from empty sets (85 to 88); a run of the body for each exit member that there can be, and one more,
-- suffice
abbrev pub source_live : List ℕ → Live
source_live w = live_loop (blocks w * locals w + 1) w (record { entries = no_exits w; exits = no_exits w; changed = true })

-- ---- compute_intervals

-- `local_interval_ends`, an end for each local (0: none), and `local_intervals`, a list for each local
pub record Ends : Type 0 where
  pub ends : List ℕ
  pub found : List (List Interval)

-- 198, 203, 206 and 210: `insert(v, BlockEnd)` of each of these locals
abbrev pub end_at_block_end : List ℕ → List ℕ → List ℕ
end_at_block_end ends [] = ends
end_at_block_end ends (v ∷ vs) = end_at_block_end (set ends v block_end) vs

-- 218 to 221, and 229 to 232: where local v has an end, it is removed, and an interval of block b from this start to it is pushed
abbrev pub remove_end : ℕ → ℕ → Ends → ℕ → Ends
remove_end b from s v =
    let end = get_or s.ends v 0 in
    cond (eqb end 0) s (record { ends = set s.ends v 0; found = push s.found v (record { block = b; from = from; to = end }) })

-- 225: `entry(v).or_insert(At(o))`
abbrev pub end_at_operation : ℕ → Ends → ℕ → Ends
end_at_operation o s v = cond (eqb (get_or s.ends v 0) 0) (record { ends = set s.ends v (suc o); found = s.found }) s

-- 217 to 226, operation o of block b: its outputs, then its inputs
abbrev pub intervals_at_op : List ℕ → ℕ → Ends → ℕ → Ends
intervals_at_op w b s o = foldl (end_at_operation o) (foldl (remove_end b (suc o)) s (outs w o)) (ins w o)

-- 194 to 232, block b: what is live at its exit (197 to 199), what is read after its operations (201 to 214), its operations backwards
-- (216 to 227); then the ends that are left are drained
abbrev pub intervals_at_block : List ℕ → List Set → Ends → ℕ → Ends
intervals_at_block w exits s b =
    let open' = end_at_block_end (end_at_block_end s.ends (members (row_of exits b))) (end_reads w b) in
    foldl (remove_end b 0) (foldl (intervals_at_op w b) (record { ends = open'; found = s.found }) (reverse (ops w b))) (upto (locals w))

-- `compute_intervals` (190 to 234) from no ends and empty lists (84): the blocks of `blocks_rpo`
abbrev pub interval_table : List ℕ → List (List Interval)
interval_table w =
    (foldl (intervals_at_block w (source_live w).exits) (record { ends = replicate (locals w) 0; found = replicate (locals w) [] }) (blocks_rpo w)).found

-- `intervals_of` (107 to 109)
abbrev pub source_local_intervals : List ℕ → ℕ → List Interval
source_local_intervals w v = get_or (interval_table w) v []
