-- The examples of document 01, "Paths and joins", those of request R-2, and some of our own, as one table that one proof computes; and a walk
-- through a loop.
use Rattle.std.specs.Prelude.{◌≡◌, refl, true, false, List, [], ◌∷◌, ◌++◌, map, ℕ, ◌+◌, ◌≤◌, replicate, set}
use mathlib.Core.List.Memᴰ
use Rattle.std.proofs.Common.{arith}
use Rattle.plank_core.specs.Lists.{all, bind, upto, one_if, ◌∈◌}
use Rattle.sir_data.specs.Pages.{page_word, check_of, payload}
use Rattle.sir_data.specs.Records.{blocks, ins}
use Rattle.sir_data.specs.Rules.{first, rule4, rule5, rule6, rule7, rule8, rule9, rule10, rule11}
use Rattle.sir_data.specs.Paging.{unchecked, page_of, pages_of}
use Rattle.sir_analyses.specs.Liveness.{has, block_end}
use Rattle.sir_analyses.specs.Allocation.{sort, merge, marked}
use Rattle.sir_analyses.specs.SourceUses.{source_predecessors, source_uses}
use Rattle.sir_analyses.specs.SourceLiveness.{source_live, source_local_intervals}
use Rattle.sir_analyses.specs.Source.{source_state, source_marked}
use Rattle.sir_analyses.specs.SourceIntervals.{merge_intervals, source_intervals}
use Rattle.sir_analyses.specs.Answers.{order_answer, predecessors_answer, entry_answer, exit_answer, uses_answer, intervals_answer, interval_words, allocation_answer, owner_answer, rounds_answer}
use Rattle.sir_analyses.specs.Calls.{word_rules, asked, no_rules, known, in_words}
use Rattle.sir_analyses.specs.Walk.{Event, op, edge, Walk, enter, step, follow, Holds, given, kept, moved, Executed, now, before}
use Rattle.sir_analyses.specs.ExampleImages.{words_of_blocks, set_const, alloc, add, load, store, log, call_op, stop, ends, continues, branches, block, straight, interval, outcome_words, Row, same}

-- ---- the images

-- the image of `report`
abbrev report : List ℕ
report =
    words_of_blocks 4 (0 ∷ [])
    (block [] (set_const 0 ∷ alloc 1 ∷ store 1 0 ∷ []) (1 ∷ []) (continues 1)
    ∷ block (2 ∷ []) (load 3 2 ∷ stop ∷ []) [] ends ∷ [])

-- function 0 calls 1 and 1 calls 0
abbrev calls : List ℕ
calls = words_of_blocks 1 (0 ∷ 1 ∷ []) (block [] (call_op 1 ∷ []) [] ends ∷ block [] (call_op 0 ∷ []) [] ends ∷ [])

-- block 0 of function 0 calls function 1, which is block 2, and goes on to block 1, which calls function 2, which is block 3
abbrev calls_and_goes : List ℕ
calls_and_goes =
    words_of_blocks 1 (0 ∷ 2 ∷ 3 ∷ [])
    (block [] (call_op 1 ∷ []) [] (continues 1) ∷ block [] (call_op 2 ∷ []) [] ends
    ∷ block [] (stop ∷ []) [] ends ∷ block [] (stop ∷ []) [] ends ∷ [])

-- a branch on v0 to b and c, of blocks 1 and 2
abbrev branching : ℕ → ℕ → List ℕ
branching b c = words_of_blocks 1 (0 ∷ []) (block [] (set_const 0 ∷ []) [] (branches 0 b c) ∷ block [] (stop ∷ []) [] ends ∷ block [] (stop ∷ []) [] ends ∷ [])

-- the pointer v1 is stored where it points
abbrev stores_itself : List ℕ
stores_itself = straight 2 (alloc 1 ∷ store 1 1 ∷ [])

-- v0 is stored where the pointer v1 points
abbrev stores_there : List ℕ
stores_there = straight 2 (set_const 0 ∷ alloc 1 ∷ store 1 0 ∷ [])

-- the pointer v1 stands at position k of a log with t topics, and v0 at the others
abbrev logs : ℕ → ℕ → List ℕ
logs t k = straight 2 (set_const 0 ∷ alloc 1 ∷ log (set (replicate (2 + t) 0) k 1) ∷ [])

-- every position of every log: `Log0` to `Log4`, and of each offset, size, topics
abbrev all_logs : List (List ℕ)
all_logs = bind (upto 5) (λ t. map (logs t) (upto (2 + t)))

-- whether the pointer is marked at each of them: not as offset, not as size, as a topic
abbrev log_marks : List ℕ
log_marks = bind (upto 5) (λ t. 0 ∷ 0 ∷ replicate t 1)

-- the pointers v1 and v2 are added
abbrev added : List ℕ
added = straight 4 (alloc 1 ∷ alloc 2 ∷ add 3 1 2 ∷ [])

-- a branch on the pointer v0
abbrev tested : List ℕ
tested = words_of_blocks 1 (0 ∷ []) (block [] (alloc 0 ∷ []) [] (branches 0 1 2) ∷ block [] (stop ∷ []) [] ends ∷ block [] (stop ∷ []) [] ends ∷ [])

-- the pointer v0 is not used
abbrev unused : List ℕ
unused = straight 1 (alloc 0 ∷ [])

-- v0 = v0 + v0
abbrev increments : List ℕ
increments = straight 1 (add 0 0 0 ∷ [])

-- the pointer v0 of block 0 is v1 in block 1, which reads it and goes on to 2 or 3; it is v3 in block 2, which goes back to 1
abbrev looping : List ℕ
looping =
    words_of_blocks 5 (0 ∷ [])
    (block [] (alloc 0 ∷ []) (0 ∷ []) (continues 1)
    ∷ block (1 ∷ []) (load 2 1 ∷ []) (1 ∷ []) (branches 2 2 3)
    ∷ block (3 ∷ []) [] (3 ∷ []) (continues 1)
    ∷ block (4 ∷ []) (stop ∷ []) [] ends ∷ [])

-- all of them
abbrev images : List (List ℕ)
images = report ∷ calls ∷ calls_and_goes ∷ branching 1 1 ∷ branching 1 2 ∷ stores_itself ∷ stores_there ∷ added ∷ tested ∷ unused ∷ increments ∷ looping ∷ all_logs

-- ---- the table

-- a page of zeros but for word 1, which is 1
abbrev page_one : List ℕ
page_one = replicate 4 0 ++ (1 ∷ replicate 507 0)

-- ---- rows with names: for each of these .ci/edits has a wrong definition, under which it is proved that the row does not hold

-- 1..3 and 4..5 stay two
abbrev neighbours : Row
neighbours = (interval_words (merge (sort (interval 0 1 3 ∷ interval 0 4 5 ∷ []))), 0 ∷ 1 ∷ 3 ∷ 0 ∷ 4 ∷ 5 ∷ [])

-- `MemoryStore` v1, v1 of a pointer: marked
abbrev stored_itself : Row
stored_itself = (allocation_answer stores_itself 0, 0 ∷ 0 ∷ 1 ∷ 0 ∷ 32 ∷ 0 ∷ 1 ∷ 1 ∷ 0 ∷ [])

-- pointers v1 and v2 added: the sum is owned by the later
abbrev later_owner : Row
later_owner = (owner_answer added 3, 2 ∷ [])

-- removing outputs after adding inputs, which loses `v = v + 1`
abbrev read_and_defined : Row
read_and_defined = (entry_answer increments 0, 0 ∷ [])

-- stopping after one pass of a loop: v1 comes to the exit of block 1 in the second
abbrev second_pass : Row
second_pass = (exit_answer looping 1, 1 ∷ [])

-- by the source's own steps: predecessors round a loop
abbrev source_predecessors_row : Row
source_predecessors_row = (source_predecessors looping 1, 0 ∷ 2 ∷ [])

-- by the source's own steps: a use by an operation, then one as an output
abbrev source_uses_row : Row
source_uses_row = (bind (source_uses looping 1) (λ u. u.block ∷ u.kind ∷ u.place ∷ []), 1 ∷ 0 ∷ 1 ∷ 1 ∷ 2 ∷ 0 ∷ [])

-- by the source's own steps: where v1 is live at exit
abbrev source_exits : Row
source_exits = (map (λ e. one_if (has e 1)) (source_live looping).exits, 0 ∷ 1 ∷ 0 ∷ 0 ∷ [])

-- by the source's own steps: intervals merged in place
abbrev source_merging : Row
source_merging = (interval_words (merge_intervals (interval 1 0 2 ∷ interval 0 3 5 ∷ interval 0 7 8 ∷ interval 0 1 3 ∷ interval 0 8 block_end ∷ [])), 0 ∷ 1 ∷ 5 ∷ 0 ∷ 7 ∷ block_end ∷ 1 ∷ 0 ∷ 2 ∷ [])

-- a block that is not there: 13, and the slice is kept
abbrev unknown_block : Row
unknown_block = (outcome_words (asked (known blocks 2) (in_words (λ w. exit_answer w 2)) (pages_of report) (replicate 9 7)), 13 ∷ 0 ∷ replicate 9 7)

-- a block's calls are visited before its successors: functions 0, 2, 1
abbrev calls_first : Row
calls_first = (order_answer calls_and_goes, 0 ∷ 2 ∷ 0 ∷ 1 ∷ 2 ∷ 1 ∷ 3 ∷ 1 ∷ 1 ∷ 2 ∷ [])

-- ---- all rows

-- each row: what is computed, and what it must be. So says document 01, or request R-2 of `logs`, but for these, which are our own: the first
-- row, `calls_first`, the rows on predecessors, v3, uses, owner of v2 and outcomes of `report`, those on `looping`, and those by the source's own steps
abbrev table : List Row
table =
    -- rules 4 to 12 refuse none of the images
    (map (λ w. first (word_rules (rule6 w) w)) images, replicate 32 0)
    -- function 0 calls 1 and 1 calls 0: order 0, 1
    ∷ (order_answer calls, 0 ∷ 1 ∷ 0 ∷ 1 ∷ 1 ∷ 1 ∷ [])
    ∷ calls_first
    -- branch with both targets equal: that predecessor twice
    ∷ (predecessors_answer (branching 1 1) 1, 0 ∷ 0 ∷ [])
    -- intervals 1..3 and 3..5: 1..5
    ∷ (interval_words (merge (sort (interval 0 1 3 ∷ interval 0 3 5 ∷ []))), 0 ∷ 1 ∷ 5 ∷ [])
    -- 1..3 and 4..5 stay two
    ∷ neighbours
    -- same numbers in two blocks stay two
    ∷ (interval_words (merge (sort (interval 1 1 3 ∷ interval 0 1 3 ∷ []))), 0 ∷ 1 ∷ 3 ∷ 1 ∷ 1 ∷ 3 ∷ [])
    -- `MemoryStore` v1, v1 of a pointer: marked
    ∷ stored_itself
    -- as address only: unmarked
    ∷ (allocation_answer stores_there 0, 0 ∷ 1 ∷ 1 ∷ 0 ∷ 32 ∷ 0 ∷ 0 ∷ 0 ∷ 1 ∷ 0 ∷ 2 ∷ 3 ∷ [])
    -- request R-2: a pointer as topic, marked
    ∷ (allocation_answer (logs 1 2) 0, 0 ∷ 1 ∷ 1 ∷ 0 ∷ 32 ∷ 0 ∷ 1 ∷ 1 ∷ 0 ∷ [])
    -- as offset or size only: unmarked
    ∷ (allocation_answer (logs 1 0) 0, 0 ∷ 1 ∷ 1 ∷ 0 ∷ 32 ∷ 0 ∷ 0 ∷ 0 ∷ 1 ∷ 0 ∷ 2 ∷ 3 ∷ [])
    ∷ (allocation_answer (logs 1 1) 0, 0 ∷ 1 ∷ 1 ∷ 0 ∷ 32 ∷ 0 ∷ 0 ∷ 0 ∷ 1 ∷ 0 ∷ 2 ∷ 3 ∷ [])
    -- and so at every position of every log
    ∷ (map (λ w. one_if (marked w 0)) all_logs, log_marks)
    -- and by the source's own steps, its arms for `Log1` to `Log4` altered
    ∷ (map (λ w. one_if (source_marked w 0)) all_logs, log_marks)
    -- pointers v1 and v2 added: both marked, the sum owned by the later
    ∷ (allocation_answer added 0, 0 ∷ 0 ∷ 1 ∷ 0 ∷ 32 ∷ 0 ∷ 1 ∷ 4 ∷ 0 ∷ [])
    ∷ (allocation_answer added 1, 0 ∷ 1 ∷ 2 ∷ 0 ∷ 32 ∷ 0 ∷ 1 ∷ 4 ∷ 0 ∷ [])
    ∷ later_owner
    -- and so by the source's own steps
    ∷ ((source_state added).owner, 0 ∷ 1 ∷ 2 ∷ 2 ∷ [])
    ∷ (map (λ a. one_if (source_marked added a)) (0 ∷ 1 ∷ []), 1 ∷ 1 ∷ [])
    -- pointer as branch condition: unmarked, block end
    ∷ (allocation_answer tested 0, 0 ∷ 0 ∷ 0 ∷ 0 ∷ 32 ∷ 0 ∷ 0 ∷ 0 ∷ 1 ∷ 0 ∷ 1 ∷ block_end ∷ [])
    -- unused allocation: unmarked, no interval
    ∷ (allocation_answer unused 0, 0 ∷ 0 ∷ 0 ∷ 0 ∷ 32 ∷ 0 ∷ 0 ∷ 0 ∷ 0 ∷ [])
    -- a page zero but for word 1 = 1: check 251
    ∷ (check_of (page_word page_one 0) ∷ [], 251 ∷ [])
    -- the image of `report`: order b0 b1
    ∷ (order_answer report, 0 ∷ 2 ∷ 0 ∷ 1 ∷ [])
    ∷ (predecessors_answer report 1, 0 ∷ [])
    -- rounds 2
    ∷ (rounds_answer report, 2 ∷ [])
    -- b0 in - out v1: misreading, a block input under its own name in the predecessor, would give v2
    ∷ (entry_answer report 0, [])
    ∷ (exit_answer report 0, 1 ∷ [])
    -- b1 in v2 out -
    ∷ (entry_answer report 1, 2 ∷ [])
    ∷ (exit_answer report 1, [])
    -- v0 b0 0..2; v1 b0 1..end; v2 b1 start..3
    ∷ (intervals_answer report 0, 0 ∷ 1 ∷ 3 ∷ [])
    ∷ (intervals_answer report 1, 0 ∷ 2 ∷ block_end ∷ [])
    ∷ (intervals_answer report 2, 1 ∷ 0 ∷ 4 ∷ [])
    ∷ (intervals_answer report 3, [])
    -- a0 b0 op1 v1 kept b0 1..end b1 start..3
    ∷ (allocation_answer report 0, 0 ∷ 1 ∷ 1 ∷ 0 ∷ 32 ∷ 0 ∷ 0 ∷ 0 ∷ 2 ∷ 0 ∷ 2 ∷ block_end ∷ 1 ∷ 0 ∷ 4 ∷ [])
    -- v1 is used by operation 2 and as output 0 of block 0; v2 is owned by allocation 0
    ∷ (uses_answer report 1, 0 ∷ 0 ∷ 2 ∷ 0 ∷ 2 ∷ 0 ∷ [])
    ∷ (owner_answer report 2, 1 ∷ [])
    -- as bytes, into a slice of 9: rounds; exit of block 0; a block that is not there; order, for which it is too short; a bad check
    ∷ (outcome_words (asked no_rules (in_words rounds_answer) (pages_of report) (replicate 9 7)), 0 ∷ 4 ∷ 2 ∷ 0 ∷ 0 ∷ 0 ∷ 7 ∷ 7 ∷ 7 ∷ 7 ∷ 7 ∷ [])
    ∷ (outcome_words (asked (known blocks 0) (in_words (λ w. exit_answer w 0)) (pages_of report) (replicate 9 7)), 0 ∷ 4 ∷ 1 ∷ 0 ∷ 0 ∷ 0 ∷ 7 ∷ 7 ∷ 7 ∷ 7 ∷ 7 ∷ [])
    ∷ unknown_block
    ∷ (outcome_words (asked no_rules (in_words order_answer) (pages_of report) (replicate 9 7)), 14 ∷ 0 ∷ replicate 9 7)
    ∷ (outcome_words (asked (known blocks 0) (in_words (λ w. exit_answer w 0)) page_one (replicate 9 7)), 3 ∷ 0 ∷ replicate 9 7)
    -- misreadings: taking non-zero first
    ∷ (order_answer (branching 1 2), 0 ∷ 3 ∷ 0 ∷ 1 ∷ 2 ∷ [])
    -- removing outputs after adding inputs, which loses `v = v + 1`
    ∷ read_and_defined
    -- stopping after one pass of a loop
    ∷ (rounds_answer looping, 3 ∷ [])
    ∷ second_pass
    -- and so by the source's own steps: its tables, its `while`, its scan of a block for all locals, its merging in place
    ∷ source_predecessors_row
    ∷ (source_predecessors (branching 1 1) 1, 0 ∷ 0 ∷ [])
    ∷ source_uses_row
    ∷ source_exits
    ∷ (map (λ e. one_if (has e 1)) (source_live looping).entries, 0 ∷ 1 ∷ 0 ∷ 0 ∷ [])
    ∷ (one_if (source_live looping).changed ∷ [], 0 ∷ [])
    ∷ (interval_words (source_local_intervals looping 1), 1 ∷ 0 ∷ block_end ∷ [])
    ∷ (interval_words (source_local_intervals looping 2), 1 ∷ 2 ∷ block_end ∷ [])
    ∷ source_merging
    ∷ (interval_words (source_intervals looping 0), 0 ∷ 1 ∷ block_end ∷ 1 ∷ 0 ∷ block_end ∷ 2 ∷ 0 ∷ block_end ∷ [])
    ∷ (allocation_answer looping 0, 0 ∷ 0 ∷ 0 ∷ 0 ∷ 32 ∷ 0 ∷ 0 ∷ 0 ∷ 3 ∷ 0 ∷ 1 ∷ block_end ∷ 1 ∷ 0 ∷ block_end ∷ 2 ∷ 0 ∷ block_end ∷ [])
    ∷ []

-- every row holds
pub examples : all (λ r. same r.0 r.1) table ≡ true
unfolding check_of payload unchecked page_of pages_of rule4 rule5 rule6 rule7 rule8 rule9 rule10 rule11
examples = refl

-- ---- a walk

-- `Lifetimes` speaks of something: a walk stands before an operation that it carried out before, and is about to read a local that holds
-- the pointer of an unmarked allocation, given before that
pub record ReadsAgain (w : List ℕ) : Type 0 where
  pub history : List Event
  pub block' : ℕ
  pub next : ℕ
  pub rest : List ℕ
  pub local : ℕ
  pub allocation : ℕ
  pub given_at : ℕ
  pub carried_out_at : ℕ
  pub walk : Walk w history block' (next ∷ rest)
  pub reads : local ∈ ins w next
  pub holds : Holds w history local allocation given_at
  pub unmarked : marked w allocation ≡ false
  pub again : Executed history carried_out_at block' next
  pub since : given_at ≤ carried_out_at

-- block 1 of `looping` is entered again
pub loops : ReadsAgain looping
loops =
    let other : ¬ (1 ∈ (2 ∷ [])) = λ m. let e : ◌≡◌ {A = ℕ} 1 2 = Memᴰ.eq_of_singleton m in omega arith in
    record {
      history = edge 2 1 ∷ edge 1 2 ∷ op 1 1 ∷ edge 0 1 ∷ op 0 0 ∷ [];
      block' = 1;
      next = 1;
      rest = [];
      local = 1;
      allocation = 0;
      given_at = 0;
      carried_out_at = 1;
      walk = follow (follow (step (follow (step (enter {f = 0} (Memᴰ.head refl))) (Memᴰ.head refl))) (Memᴰ.tail (Memᴰ.head refl))) (Memᴰ.head refl);
      reads = Memᴰ.head refl;
      holds =
          moved {u = 3} (record { position = 0; left = refl; right = refl })
          (moved {u = 1} (record { position = 0; left = refl; right = refl })
          (kept other (moved {u = 0} (record { position = 0; left = refl; right = refl }) (given refl (Memᴰ.head refl) refl))));
      unmarked = refl;
      again = before (before (now refl));
      since = omega arith;
    }
