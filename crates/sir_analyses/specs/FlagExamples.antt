-- Examples of what marked an allocation (document 02, request R-5), as one table that one proof computes.
use Rattle.std.specs.Prelude.{◌≡◌, refl, true, List, [], ◌∷◌, map, ℕ, length, replicate}
use Rattle.plank_core.specs.Lists.{all, upto, one_if}
use Rattle.sir_data.specs.Rules.{first, rule4, rule5, rule6, rule7, rule8, rule9, rule10, rule11}
use Rattle.sir_analyses.specs.Liveness.{has, members}
use Rattle.sir_analyses.specs.Allocation.{allocs, marked}
use Rattle.sir_analyses.specs.Answers.{allocation_answer}
use Rattle.sir_analyses.specs.Flags.{owner_before, found, first_reach, meetings, flags_word}
use Rattle.sir_analyses.specs.Calls.{word_rules}
use Rattle.sir_analyses.specs.ExampleImages.{words_of_blocks, alloc, add, copy, load, store, call_op, stop, ends, returns, block, straight, Row, same}

-- ---- the images

-- the pointer v0 is copied to v1, the base of another allocation, and from there to v2, which is stored
abbrev through_base : List ℕ
through_base = straight 3 (alloc 0 ∷ alloc 1 ∷ copy 1 0 ∷ copy 2 1 ∷ store 0 2 ∷ [])

-- the pointers v0 and v1 are added, and the sum v2 is stored; v3 is read only
abbrev sum_stored : List ℕ
sum_stored = straight 5 (alloc 0 ∷ alloc 1 ∷ add 2 0 1 ∷ store 0 2 ∷ alloc 3 ∷ load 4 3 ∷ [])

-- function 1 returns the pointers v0 and v1, and stores the latter
abbrev returning : List ℕ
returning =
    words_of_blocks 2 (0 ∷ 1 ∷ [])
    (block [] (call_op 1 ∷ stop ∷ []) [] ends
    ∷ block [] (alloc 0 ∷ alloc 1 ∷ store 0 1 ∷ []) (0 ∷ 1 ∷ []) returns ∷ [])

-- all of them
abbrev images : List (List ℕ)
images = through_base ∷ sum_stored ∷ returning ∷ []

-- ---- the table

-- the flags of all allocations
abbrev flags_of : List ℕ → List ℕ
flags_of w = map (flags_word w) (upto (length (allocs w)))

-- ---- rows with names: for each of these .ci/edits has a wrong definition, under which it is proved that the row does not hold

-- a pointer of allocation 0 passes the base of allocation 1, which is first behind it
abbrev through_base_row : Row
through_base_row = (flags_of through_base, 4 ∷ 5 ∷ [])

-- a local that allocation 1 had before is told so: its owner was 2
abbrev told_before : Row
told_before = (owner_before 1 (found 1 2) ∷ [], 2 ∷ [])

-- both sides of a meeting are flagged; the one that was first at the sum has its escaping operand too
abbrev both_met : Row
both_met = (flags_of sum_stored, 5 ∷ 4 ∷ 0 ∷ [])

-- ---- all rows

-- each row: what is computed, and what it must be
abbrev table : List Row
table =
    -- rules 4 to 12 refuse none of the images
    (map (λ w. first (word_rules (rule6 w) w)) images, replicate 3 0)
    -- linking tells the owner before
    ∷ (owner_before 1 (found 1 0) ∷ [], 0 ∷ [])
    ∷ told_before
    ∷ (owner_before 1 (found 1 1) ∷ [], 1 ∷ [])
    -- who was first: each base is its own allocation's, and v2 is allocation 1's
    ∷ through_base_row
    ∷ (members (first_reach through_base 0), 0 ∷ [])
    ∷ (members (first_reach through_base 1), 1 ∷ 2 ∷ [])
    -- and where nobody had the sum, the first in turn
    ∷ both_met
    ∷ (members (first_reach sum_stored 0), 0 ∷ 2 ∷ [])
    ∷ (members (first_reach sum_stored 1), 1 ∷ [])
    -- a return, and both of the others
    ∷ (flags_of returning, 2 ∷ 3 ∷ [])
    -- what linking told of meetings
    ∷ (map (λ a. one_if (has (meetings through_base) a)) (upto 2), 1 ∷ 1 ∷ [])
    ∷ (map (λ a. one_if (has (meetings sum_stored) a)) (upto 3), 1 ∷ 1 ∷ 0 ∷ [])
    -- the mark is set where some flag is
    ∷ (map (λ a. one_if (marked sum_stored a)) (upto 3), 1 ∷ 1 ∷ 0 ∷ [])
    -- the word stands behind the mark
    ∷ (allocation_answer through_base 1, 0 ∷ 1 ∷ 1 ∷ 0 ∷ 32 ∷ 0 ∷ 1 ∷ 5 ∷ 0 ∷ [])
    ∷ (allocation_answer sum_stored 2, 0 ∷ 4 ∷ 3 ∷ 0 ∷ 32 ∷ 0 ∷ 0 ∷ 0 ∷ 1 ∷ 0 ∷ 5 ∷ 6 ∷ [])
    ∷ []

-- every row holds
pub examples : all (λ r. same r.0 r.1) table ≡ true
unfolding rule4 rule5 rule6 rule7 rule8 rule9 rule10 rule11
examples = refl
