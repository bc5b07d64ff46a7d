-- Examples of what is open and of what crosses (document 02, request R-1), as one table that one proof computes.
use Rattle.std.specs.Prelude.{◌≡◌, refl, true, List, [], ◌∷◌, map, ℕ, replicate}
use Rattle.plank_core.specs.Lists.{all, keep, upto}
use Rattle.sir_data.specs.Pages.{check_of, payload}
use Rattle.sir_data.specs.Rules.{first, rule4, rule5, rule6, rule7, rule8, rule9, rule10, rule11}
use Rattle.sir_data.specs.Paging.{unchecked, page_of, pages_of}
use Rattle.sir_analyses.specs.Liveness.{Interval, block_end}
use Rattle.sir_analyses.specs.Allocation.{merged}
use Rattle.sir_analyses.specs.Answers.{interval_words}
use Rattle.sir_analyses.specs.Calls.{word_rules, asked, in_words}
use Rattle.sir_analyses.specs.Open.{open_at, open_rules, place_of, is_common, first_of, crossing, crossing_rules}
use Rattle.sir_analyses.specs.ExampleImages.{words_of_blocks, set_const, alloc, copy, load, store, stop, ends, continues, branches, block, straight, interval, outcome_words, Row, same}

-- ---- the images

-- the pointers v0 and v1 are both defined before either is read
abbrev pub together : List ℕ
together = straight 4 (alloc 0 ∷ alloc 1 ∷ load 2 0 ∷ load 3 1 ∷ [])

-- the pointer v1 is defined when v0 has been read
abbrev pub in_turn : List ℕ
in_turn = straight 4 (alloc 0 ∷ load 2 0 ∷ alloc 1 ∷ load 3 1 ∷ [])

-- the pointer v0 is stored where it points; v1 is read; v2 is not used
abbrev pub marking : List ℕ
marking = straight 4 (alloc 0 ∷ store 0 0 ∷ alloc 1 ∷ load 3 1 ∷ alloc 2 ∷ [])

-- block 1 or 2 defines a pointer, the empty block 3 takes both as inputs v5 and v6, block 4 or 5 reads one of them
abbrev passing : List ℕ
passing =
    words_of_blocks 9 (0 ∷ [])
    (block [] (set_const 0 ∷ []) [] (branches 0 1 2)
    ∷ block [] (alloc 1 ∷ set_const 2 ∷ []) (1 ∷ 2 ∷ []) (continues 3)
    ∷ block [] (set_const 3 ∷ alloc 4 ∷ []) (3 ∷ 4 ∷ []) (continues 3)
    ∷ block (5 ∷ 6 ∷ []) [] [] (branches 0 4 5)
    ∷ block [] (load 7 5 ∷ stop ∷ []) [] ends
    ∷ block [] (load 8 6 ∷ stop ∷ []) [] ends ∷ [])

-- block 0 has operations 0 and 1 and goes on to block 1, which has operations 2 and 3; block 2 is not visited
abbrev three_blocks : List ℕ
three_blocks =
    words_of_blocks 3 (0 ∷ [])
    (block [] (alloc 0 ∷ load 1 0 ∷ []) [] (continues 1)
    ∷ block [] (load 2 0 ∷ stop ∷ []) [] ends
    ∷ block [] (load 2 0 ∷ []) [] ends ∷ [])

-- block 0 reads the pointer v0 last in operation 2, which defines v5; block 1 defines the pointer v4 and copies it to v5, so that v5 is in
-- its reach in block 0 too. A local that is defined twice: without one, an interval cannot start where another allocation's ends
abbrev touching : List ℕ
touching =
    words_of_blocks 6 (0 ∷ [])
    (block [] (alloc 0 ∷ set_const 1 ∷ load 5 0 ∷ set_const 2 ∷ load 3 5 ∷ []) [] (continues 1)
    ∷ block [] (alloc 4 ∷ copy 5 4 ∷ stop ∷ []) [] ends ∷ [])

-- all of them
abbrev images : List (List ℕ)
images = together ∷ in_turn ∷ marking ∷ passing ∷ three_blocks ∷ touching ∷ []

-- ---- the table

-- the three words for two lists of intervals in a block 0 of operations 0 to 5
abbrev crossing_of : List Interval → List Interval → List ℕ
crossing_of is js = first_of (keep (is_common is js) (map (place_of 0) (upto 6)))

-- the outcome of asking what is open at operation o of block b
abbrev open_outcome : List ℕ → ℕ → ℕ → List ℕ → List ℕ
open_outcome w b o out = outcome_words (asked (open_rules b o) (in_words (λ w. open_at w b o)) (pages_of w) out)

-- the outcome of asking whether allocations a and c cross
abbrev crossing_outcome : List ℕ → ℕ → ℕ → List ℕ → List ℕ
crossing_outcome w a c out = outcome_words (asked (crossing_rules a c) (in_words (λ w. crossing w a c)) (pages_of w) out)

-- ---- rows with names: for each of these .ci/edits has a wrong definition, under which it is proved that the row does not hold

-- 1..3 and 3..5 cross at operation 2
abbrev crossing_at_ends : Row
crossing_at_ends = (crossing touching 0 1, 1 ∷ 1 ∷ 3 ∷ [])

-- the first common operation is 1, not 2
abbrev first_of_two : Row
first_of_two = (crossing together 0 1, 1 ∷ 1 ∷ 2 ∷ [])

-- both run from start to end of the empty block 3, and have no operation there
abbrev bare_block : Row
bare_block = (crossing passing 0 1, 0 ∷ 0 ∷ 0 ∷ [])

-- a marked allocation crosses an unmarked one
abbrev crossing_marked : Row
crossing_marked = (crossing marking 0 1, 1 ∷ 0 ∷ 0 ∷ [])

-- ---- all rows

-- each row: what is computed, and what it must be
abbrev table : List Row
table =
    -- rules 4 to 12 refuse none of the images
    (map (λ w. first (word_rules (rule6 w) w)) images, replicate 6 0)
    -- 1..3 and 3..5 cross at operation 2
    ∷ (interval_words (merged touching 0), 0 ∷ 1 ∷ 3 ∷ [])
    ∷ (interval_words (merged touching 1), 0 ∷ 3 ∷ 5 ∷ 1 ∷ 6 ∷ 7 ∷ [])
    ∷ crossing_at_ends
    ∷ (open_at touching 0 2, 0 ∷ 1 ∷ [])
    -- so in lists of intervals; 1..3 and 4..5 do not cross, nor do the same numbers in two blocks
    ∷ (crossing_of (interval 0 1 3 ∷ []) (interval 0 3 5 ∷ []), 1 ∷ 1 ∷ 3 ∷ [])
    ∷ (crossing_of (interval 0 1 3 ∷ []) (interval 0 4 5 ∷ []), 0 ∷ 0 ∷ 0 ∷ [])
    ∷ (crossing_of (interval 0 1 3 ∷ []) (interval 1 1 3 ∷ []), 0 ∷ 0 ∷ 0 ∷ [])
    -- block end lies after all operations, and none that the block does not hold is common
    ∷ (crossing_of (interval 0 7 block_end ∷ []) (interval 0 6 block_end ∷ []), 0 ∷ 0 ∷ 0 ∷ [])
    ∷ (crossing_of (interval 0 0 block_end ∷ []) (interval 0 6 block_end ∷ []), 1 ∷ 1 ∷ 6 ∷ [])
    -- open, by number
    ∷ (open_at together 0 0, 0 ∷ [])
    ∷ (open_at together 0 1, 0 ∷ 1 ∷ [])
    ∷ (open_at together 0 3, 1 ∷ [])
    ∷ (open_at together 0 4, [])
    -- the first common operation is 1, whoever comes first; those of `in_turn` have none
    ∷ first_of_two
    ∷ (crossing together 1 0, 1 ∷ 1 ∷ 2 ∷ [])
    ∷ (crossing in_turn 0 1, 0 ∷ 0 ∷ 0 ∷ [])
    -- a marked one is in no list and crosses every one, itself included; an unmarked one goes by its own intervals against itself
    ∷ (open_at marking 0 1, [])
    ∷ (crossing marking 0 0, 1 ∷ 0 ∷ 0 ∷ [])
    ∷ crossing_marked
    ∷ (crossing marking 2 0, 1 ∷ 0 ∷ 0 ∷ [])
    ∷ (crossing marking 1 1, 1 ∷ 1 ∷ 3 ∷ [])
    ∷ (crossing marking 2 2, 0 ∷ 0 ∷ 0 ∷ [])
    -- both run from start to end of the empty block 3, and have no operation there
    ∷ (interval_words (merged passing 0), 1 ∷ 2 ∷ block_end ∷ 3 ∷ 0 ∷ block_end ∷ 4 ∷ 0 ∷ 6 ∷ [])
    ∷ (interval_words (merged passing 1), 2 ∷ 5 ∷ block_end ∷ 3 ∷ 0 ∷ block_end ∷ 5 ∷ 0 ∷ 8 ∷ [])
    ∷ bare_block
    -- a block that is not visited has nothing open
    ∷ (open_at three_blocks 1 2, 0 ∷ [])
    ∷ (open_at three_blocks 2 4, [])
    -- as bytes: the list; a block, then an operation that is not there; one that the block does not hold, whatever the slice; a short slice
    ∷ (open_outcome together 0 1 (replicate 9 7), 0 ∷ 8 ∷ 0 ∷ 0 ∷ 0 ∷ 0 ∷ 1 ∷ 0 ∷ 0 ∷ 0 ∷ 7 ∷ [])
    ∷ (open_outcome together 1 0 (7 ∷ []), 13 ∷ 0 ∷ 7 ∷ [])
    ∷ (open_outcome together 0 5 (7 ∷ []), 13 ∷ 0 ∷ 7 ∷ [])
    ∷ (open_outcome three_blocks 0 2 (7 ∷ []), 15 ∷ 0 ∷ 7 ∷ [])
    ∷ (open_outcome three_blocks 1 2 (7 ∷ []), 14 ∷ 0 ∷ 7 ∷ [])
    ∷ (crossing_outcome together 0 1 (replicate 12 7), 0 ∷ 12 ∷ 1 ∷ 0 ∷ 0 ∷ 0 ∷ 1 ∷ 0 ∷ 0 ∷ 0 ∷ 2 ∷ 0 ∷ 0 ∷ 0 ∷ [])
    ∷ (crossing_outcome together 0 2 (7 ∷ []), 13 ∷ 0 ∷ 7 ∷ [])
    ∷ (crossing_outcome together 0 1 (7 ∷ []), 14 ∷ 0 ∷ 7 ∷ [])
    ∷ []

-- every row holds
pub examples : all (λ r. same r.0 r.1) table ≡ true
unfolding check_of payload unchecked page_of pages_of rule4 rule5 rule6 rule7 rule8 rule9 rule10 rule11
examples = refl
