-- The report of document 01's image ("Paths and joins"): its eight lines, computed.
use Rattle.std.specs.Prelude.{◌≡◌, refl, List, ◌∷◌, ◌++◌, ℕ, replicate}
use Rattle.plank_core.specs.Text.{ascii, number}
use Rattle.report_lines.specs.Lines.{order_text, rounds_text, block_text, local_text, allocation_text, report_text}

-- its payload words, one page
abbrev pub paper_words : List ℕ
paper_words =
    -- edition; functions, blocks, operations, operand words, case targets, locals; init function; no main
    1 ∷ 1 ∷ 2 ∷ 5 ∷ 8 ∷ 0 ∷ 4 ∷ 0 ∷ 0
    -- the entry block of function 0
    ∷ 0
    -- block 0: output v1, operations 0 to 2, on to block 1
    ∷ 4 ∷ 4 ∷ 4 ∷ 5 ∷ 0 ∷ 3 ∷ 2 ∷ 1 ∷ 0 ∷ 0 ∷ 0
    -- block 1: input v2, operations 3 and 4, control kind 0
    ∷ 7 ∷ 8 ∷ 8 ∷ 8 ∷ 3 ∷ 5 ∷ 0 ∷ 0 ∷ 0 ∷ 0 ∷ 0
    -- op 0 `SetSmallConst` v0
    ∷ 86 ∷ 0 ∷ 0 ∷ 0 ∷ 1 ∷ 0 ∷ 0
    -- op 1 `StaticAllocZeroed` v1
    ∷ 82 ∷ 1 ∷ 1 ∷ 1 ∷ 2 ∷ 32 ∷ 0
    -- op 2 `MemoryStore` v1, v0
    ∷ 24 ∷ 2 ∷ 4 ∷ 4 ∷ 4 ∷ 0 ∷ 0
    -- op 3 `MemoryLoad` v2 defining v3
    ∷ 84 ∷ 5 ∷ 6 ∷ 6 ∷ 7 ∷ 0 ∷ 0
    -- op 4 `Stop`
    ∷ 77 ∷ 7 ∷ 7 ∷ 7 ∷ 7 ∷ 0 ∷ 0
    -- operand words, then zeros to the end of the page
    ∷ 0 ∷ 1 ∷ 1 ∷ 0 ∷ 1 ∷ 2 ∷ 3 ∷ 2 ∷ replicate 51 0

pub paper_report :
    report_text paper_words
    ≡ ascii "order b0 b1\n"
    ++ ascii "rounds 2\n"
    ++ ascii "b0 in - out v1\n"
    ++ ascii "b1 in v2 out -\n"
    ++ ascii "v0 b0 0..2\n"
    ++ ascii "v1 b0 1..end\n"
    ++ ascii "v2 b1 start..3\n"
    ++ ascii "a0 b0 op1 v1 kept b0 1..end b1 start..3\n"
unfolding number order_text rounds_text block_text local_text allocation_text
paper_report = refl
