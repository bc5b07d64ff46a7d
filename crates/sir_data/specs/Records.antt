-- The records of an image, read from its payload words w (document 01, "The image").
use Rattle.std.specs.Prelude.{ℕ, zero, suc, ◌+◌, ◌*◌, cond, ◌||◌, List, [], ◌∷◌, ◌++◌, map, ◌==◌, slice_index}
use Rattle.plank_core.specs.Lists.{count, range}
use Rattle.sir_data.specs.Codes.{is_call}

-- payload word i; 0 past the end
abbrev pub word : List ℕ → ℕ → ℕ
word w i = slice_index w i

-- ---- the head: nine words

-- the edition of the form
abbrev pub edition : List ℕ → ℕ
edition w = word w 0

-- F, the count of functions
abbrev pub functions : List ℕ → ℕ
functions w = word w 1

-- B, the count of blocks
abbrev pub blocks : List ℕ → ℕ
blocks w = word w 2

-- P, the count of operations
abbrev pub operations : List ℕ → ℕ
operations w = word w 3

-- V, the count of operand words
abbrev pub operand_words : List ℕ → ℕ
operand_words w = word w 4

-- T, the count of case targets
abbrev pub case_targets : List ℕ → ℕ
case_targets w = word w 5

-- L, the count of locals
abbrev pub locals : List ℕ → ℕ
locals w = word w 6

-- the init function
abbrev pub init_function : List ℕ → ℕ
init_function w = word w 7

-- the main function + 1, or 0 where there is none
abbrev pub main_plus_one : List ℕ → ℕ
main_plus_one w = word w 8

-- ---- the tables after it, in turn: entry blocks, blocks, operations, operand words, case targets

-- where the blocks start: past the head and F entry blocks
abbrev pub blocks_at : List ℕ → ℕ
blocks_at w = 9 + functions w

-- where the operations start: past B blocks of 11 words
abbrev pub operations_at : List ℕ → ℕ
operations_at w = blocks_at w + 11 * blocks w

-- where the operand words start: past P operations of 7 words
abbrev pub operands_at : List ℕ → ℕ
operands_at w = operations_at w + 7 * operations w

-- where the case targets start: past V operand words
abbrev pub targets_at : List ℕ → ℕ
targets_at w = operands_at w + operand_words w

-- the number of words that the counts call for
abbrev pub word_count : List ℕ → ℕ
word_count w = targets_at w + case_targets w

-- the entry block of function f
abbrev pub entry_block : List ℕ → ℕ → ℕ
entry_block w f = word w (9 + f)

-- word k of block b
abbrev pub block_word : List ℕ → ℕ → ℕ → ℕ
block_word w b k = word w (blocks_at w + 11 * b + k)

-- word k of operation o
abbrev pub op_word : List ℕ → ℕ → ℕ → ℕ
op_word w o k = word w (operations_at w + 7 * o + k)

-- operand word i, a local
abbrev pub operand : List ℕ → ℕ → ℕ
operand w i = word w (operands_at w + i)

-- case target i, a block
abbrev pub target : List ℕ → ℕ → ℕ
target w i = word w (targets_at w + i)

-- a run of operands: those from s to before e
abbrev pub run : List ℕ → ℕ → ℕ → List ℕ
run w s e = map (operand w) (range s e)

-- ---- a block: inputs start, end; outputs start, end; operations start, end; control kind; four fields

-- the inputs of block b, as locals
abbrev pub inputs : List ℕ → ℕ → List ℕ
inputs w b = run w (block_word w b 0) (block_word w b 1)

-- the outputs of block b, as locals
abbrev pub outputs : List ℕ → ℕ → List ℕ
outputs w b = run w (block_word w b 2) (block_word w b 3)

-- the operations of block b, by index
abbrev pub ops : List ℕ → ℕ → List ℕ
ops w b = range (block_word w b 4) (block_word w b 5)

-- control kind: 0 `LastOpTerminates`, 1 `InternalReturn`, 2 `ContinuesTo`, 3 `Branches`, 4 `Switch`
abbrev pub control : List ℕ → ℕ → ℕ
control w b = block_word w b 6

-- control field k, from 0. `ContinuesTo`: target; `Branches`: condition, non-zero target, zero target; `Switch`: condition, first
-- target, target count, fallback + 1 or 0
abbrev pub field : List ℕ → ℕ → ℕ → ℕ
field w b k = block_word w b (7 + k)

-- an optional id, written as id + 1, or 0 for none
abbrev pub optional : ℕ → List ℕ
optional zero = []
optional (suc n) = n ∷ []

-- the successors of block b: zero target, then non-zero; switch targets in turn, then fallback
abbrev pub successors : List ℕ → ℕ → List ℕ
successors w b =
    cond (control w b == 2) (field w b 0 ∷ [])
    (cond (control w b == 3) (field w b 2 ∷ field w b 1 ∷ [])
    (cond (control w b == 4) (map (target w) (count (field w b 1) (field w b 2)) ++ optional (field w b 3))
    []))

-- the condition of a branch or a switch, none for any other kind
abbrev pub condition : List ℕ → ℕ → List ℕ
condition w b = cond (control w b == 3 || control w b == 4) (field w b 0 ∷ []) []

-- the outputs of an `InternalReturn` block, none for any other kind
abbrev pub returned : List ℕ → ℕ → List ℕ
returned w b = cond (control w b == 1) (outputs w b) []

-- ---- an operation: code; inputs start, end; outputs start, end; two extras

-- the code of operation o
abbrev pub code : List ℕ → ℕ → ℕ
code w o = op_word w o 0

-- the inputs of operation o, as locals
abbrev pub ins : List ℕ → ℕ → List ℕ
ins w o = run w (op_word w o 1) (op_word w o 2)

-- the outputs of operation o, as locals
abbrev pub outs : List ℕ → ℕ → List ℕ
outs w o = run w (op_word w o 3) (op_word w o 4)

-- extra k, 0 or 1. A call: callee, 0; a static allocation: size, id; another code: 0, 0
abbrev pub extra : List ℕ → ℕ → ℕ → ℕ
extra w o k = op_word w o (5 + k)

-- the callee of a call, none for any other operation
abbrev pub callees : List ℕ → ℕ → List ℕ
callees w o = cond (is_call (code w o)) (extra w o 0 ∷ []) []
