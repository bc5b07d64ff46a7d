-- Examples of charts (document 02, request R-6), as one table that one proof computes.
use Rattle.std.specs.Prelude.{◌≡◌, refl, true, List, [], ◌∷◌, ◌++◌, map, ℕ, length, get_or, take, drop, replicate}
use Rattle.plank_core.specs.Lists.{all, bind}
use Rattle.plank_core.specs.Text.{ascii, number}
use Rattle.sir_data.specs.Pages.{check_of, payload}
use Rattle.sir_data.specs.Rules.{first, rule4, rule5, rule6, rule7, rule8, rule9, rule10, rule11}
use Rattle.sir_data.specs.Paging.{unchecked, page_of, pages_of}
use Rattle.sir_analyses.specs.Calls.{word_rules, asked, no_rules}
use Rattle.sir_analyses.specs.Chart.{heading, blank_line, index, columns, call_column, op_line, sheets, series_for, chart_lines, chart_text}
use Rattle.sir_analyses.specs.ExampleImages.{Op, words_of_blocks, set_const, alloc, load, store, call_op, stop, ends, continues, returns, block, outcome_words, Row, same}

-- ---- the images

-- the pointer v0 is stored where it points; v1 is read, in block 1; v2 is not used
abbrev two_blocks : List ℕ
two_blocks =
    words_of_blocks 5 (0 ∷ [])
    (block [] (alloc 0 ∷ store 0 0 ∷ alloc 1 ∷ set_const 4 ∷ []) [] (continues 1)
    ∷ block [] (load 3 1 ∷ alloc 2 ∷ stop ∷ []) [] ends ∷ [])

-- `InternalCallNever` without operands
abbrev never_op : ℕ → Op
never_op f = record { code = 26; reads = []; defines = []; extras = (f, 0) }

-- calls of either code, and no allocation
abbrev calling : List ℕ
calling =
    words_of_blocks 1 (0 ∷ 1 ∷ [])
    (block [] (call_op 1 ∷ set_const 0 ∷ never_op 1 ∷ stop ∷ []) [] ends ∷ block [] [] [] returns ∷ [])

-- the function starts with block 1 and goes on to block 0; block 2 is not visited
abbrev backwards : List ℕ
backwards =
    words_of_blocks 1 (1 ∷ [])
    (block [] (stop ∷ []) [] ends ∷ block [] (set_const 0 ∷ []) [] (continues 0) ∷ block [] (stop ∷ []) [] ends ∷ [])

abbrev images : List (List ℕ)
images = two_blocks ∷ calling ∷ backwards ∷ []

-- the front of line n of an image's chart
abbrev front : List ℕ → ℕ → ℕ → List ℕ
front w n k = take k (get_or (chart_lines w) n [])

-- ---- rows with names: for each of these .ci/edits has a wrong definition, under which it is proved that the row does not hold

-- operation 2 gives the second one's pointer: the mark starts there
abbrev mark_at_giving : Row
mark_at_giving = (front two_blocks 3 10, ascii "    2|*#..")

-- the first is marked: a star on each operation line
abbrev star_on_each : Row
star_on_each = (front two_blocks 1 10, ascii "    0|*...")

-- every line has 72 characters
abbrev all_lines_wide : Row
all_lines_wide = (map length (chart_lines two_blocks), replicate 60 72)

-- both blocks are on one sheet
abbrev one_sheet : Row
one_sheet = (length (chart_lines two_blocks) ∷ [], 60 ∷ [])

-- block 1 comes first, with operation 1, then block 0, with operation 0; then the filling
abbrev blocks_in_order : Row
blocks_in_order = (bind (0 ∷ 1 ∷ 2 ∷ 3 ∷ 4 ∷ []) (λ n. front backwards n 7), ascii "block 1    1|.block 0    0|.       ")

-- either call has its `c`, and no other operation
abbrev calls_told : Row
calls_told = (map (call_column calling) (0 ∷ 1 ∷ 2 ∷ 3 ∷ []), ascii "c c ")

-- 64 allocations have one series, 65 two
abbrev series_of_64 : Row
series_of_64 = (map series_for (0 ∷ 1 ∷ 64 ∷ 65 ∷ 512 ∷ []), 1 ∷ 1 ∷ 1 ∷ 2 ∷ 8 ∷ [])

-- a sheet that is full is not filled
abbrev full_sheet : Row
full_sheet = (map (λ n. length (sheets (replicate n []))) (1 ∷ 59 ∷ 60 ∷ 61 ∷ []), 60 ∷ 60 ∷ 60 ∷ 120 ∷ [])

-- ---- all rows

-- each row: what is computed, and what it must be
abbrev table : List Row
table =
    -- rules 4 to 12 refuse none of the images
    (map (λ w. first (word_rules (rule6 w) w)) images, replicate 3 0)
    -- headings and numbers
    ∷ (heading 7, ascii "block 7" ++ replicate 65 32)
    ∷ (heading 255, ascii "block 255" ++ replicate 63 32)
    ∷ (index 0, ascii "    0")
    ∷ (index 1023, ascii " 1023")
    ∷ (index 99999, ascii "99999")
    -- the chart of two blocks, line by line
    ∷ one_sheet
    ∷ all_lines_wide
    ∷ (front two_blocks 0 8, ascii "block 0 ")
    ∷ star_on_each
    ∷ (front two_blocks 2 10, ascii "    1|*...")
    ∷ mark_at_giving
    ∷ (front two_blocks 4 10, ascii "    3|*#..")
    ∷ (front two_blocks 5 8, ascii "block 1 ")
    ∷ (front two_blocks 6 10, ascii "    4|*#..")
    ∷ (front two_blocks 7 10, ascii "    5|*...")
    ∷ (drop 10 (get_or (chart_lines two_blocks) 7 []), replicate 60 46 ++ ascii "| ")
    ∷ (get_or (chart_lines two_blocks) 9 [], replicate 72 32)
    ∷ blocks_in_order
    -- without an allocation: dots
    ∷ (get_or (chart_lines calling) 1 [], ascii "    0|" ++ replicate 64 46 ++ ascii "|c")
    ∷ calls_told
    ∷ series_of_64
    ∷ full_sheet
    -- as bytes: a line feed behind each line; a slice that is one byte too short is refused and kept
    ∷ (take 73 (chart_text two_blocks), heading 0 ++ (10 ∷ []))
    ∷ (take 2 (outcome_words (asked no_rules chart_text (pages_of two_blocks) (replicate 4380 7))), 0 ∷ 4380 ∷ [])
    ∷ (outcome_words (asked no_rules chart_text (pages_of two_blocks) (replicate 4379 7)), 14 ∷ 0 ∷ replicate 4379 7)
    ∷ []

-- every row holds
pub examples : all (λ r. same r.0 r.1) table ≡ true
unfolding check_of payload unchecked page_of pages_of rule4 rule5 rule6 rule7 rule8 rule9 rule10 rule11 number heading blank_line index columns op_line chart_lines chart_text
examples = refl
