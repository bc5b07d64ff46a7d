-- Images written as blocks with their operations, and rows of computed lists, for the tables of examples.
use Rattle.std.specs.Prelude.{List, [], ◌∷◌, ◌++◌, ℕ, ◌+◌, length}
use Rattle.plank_core.specs.Lists.{bind}
use Rattle.sir_data.specs.Paging.{padded}
pub use Rattle.sir_data.specs.ExampleRows.{Row, same}
use Rattle.sir_analyses.specs.Liveness.{Interval}
use Rattle.sir_analyses.specs.Calls.{Outcome}

-- an operation: its code, what it reads and defines, its two extras
pub record Op : Type 0 where
  pub code : ℕ
  pub reads : List ℕ
  pub defines : List ℕ
  pub extras : ℕ × ℕ

-- a block; its control is the kind, then four fields
pub record Block : Type 0 where
  pub inputs : List ℕ
  pub ops : List Op
  pub outputs : List ℕ
  pub control : List ℕ

-- the operand words of an operation
abbrev pub op_operands : Op → List ℕ
op_operands o = o.reads ++ o.defines

-- the operand words of a block: those of its operations, then its inputs, then its outputs
abbrev pub block_operands : Block → List ℕ
block_operands b = bind b.ops op_operands ++ b.inputs ++ b.outputs

-- seven words for each operation of a block; v: operand words before
abbrev pub op_words : ℕ → List Op → List ℕ
op_words v [] = []
op_words v (o ∷ os) =
    let i = v + length o.reads in
    let e = i + length o.defines in
    o.code ∷ v ∷ i ∷ i ∷ e ∷ o.extras.0 ∷ o.extras.1 ∷ op_words e os

-- the words of the operations of all blocks; v: operand words before
abbrev pub ops_words : ℕ → List Block → List ℕ
ops_words v [] = []
ops_words v (b ∷ bs) = op_words v b.ops ++ ops_words (v + length (block_operands b)) bs

-- eleven words for each block; p: operations before, v: operand words before
abbrev pub block_words : ℕ → ℕ → List Block → List ℕ
block_words p v [] = []
block_words p v (b ∷ bs) =
    let q = p + length b.ops in
    let i = v + length (bind b.ops op_operands) in
    let m = i + length b.inputs in
    let e = m + length b.outputs in
    i ∷ m ∷ m ∷ e ∷ p ∷ q ∷ (b.control ++ block_words q e bs)

-- the payload words, padded to whole pages: edition 1, init function 0, no main, no case targets
abbrev pub words_of_blocks : ℕ → List ℕ → List Block → List ℕ
words_of_blocks locals entries bs =
    padded
    (1 ∷ length entries ∷ length bs ∷ length (bind bs (λ b. b.ops)) ∷ length (bind bs block_operands) ∷ 0 ∷ locals ∷ 0 ∷ 0
    ∷ (entries ++ block_words 0 0 bs ++ ops_words 0 bs ++ bind bs block_operands))

-- ---- operations, by what they define and read, and controls

-- an operation of code c without extras
abbrev pub plain_op : ℕ → List ℕ → List ℕ → Op
plain_op c defines reads = record { code = c; reads = reads; defines = defines; extras = (0, 0) }

-- `SetSmallConst`
abbrev pub set_const : ℕ → Op
set_const v = plain_op 86 (v ∷ []) []

-- `StaticAllocZeroed` of 32 bytes with id 0
abbrev pub alloc : ℕ → Op
alloc v = record { code = 82; reads = []; defines = v ∷ []; extras = (32, 0) }

-- `Add`
abbrev pub add : ℕ → ℕ → ℕ → Op
add v x y = plain_op 27 (v ∷ []) (x ∷ y ∷ [])

-- `SetCopy`
abbrev pub copy : ℕ → ℕ → Op
copy v x = plain_op 85 (v ∷ []) (x ∷ [])

-- `MemoryLoad`
abbrev pub load : ℕ → ℕ → Op
load v address = plain_op 84 (v ∷ []) (address ∷ [])

-- `MemoryStore`
abbrev pub store : ℕ → ℕ → Op
store address v = plain_op 24 [] (address ∷ v ∷ [])

-- `Log0` to `Log4`, by its operands: offset, size, topics
abbrev pub log : List ℕ → Op
log operands = plain_op (69 + length operands) [] operands

-- `InternalCall` without operands
abbrev pub call_op : ℕ → Op
call_op f = record { code = 25; reads = []; defines = []; extras = (f, 0) }

-- `Stop`
abbrev pub stop : Op
stop = plain_op 77 [] []

-- `LastOpTerminates`
abbrev pub ends : List ℕ
ends = 0 ∷ 0 ∷ 0 ∷ 0 ∷ 0 ∷ []

-- `InternalReturn`
abbrev pub returns : List ℕ
returns = 1 ∷ 0 ∷ 0 ∷ 0 ∷ 0 ∷ []

-- `ContinuesTo`
abbrev pub continues : ℕ → List ℕ
continues b = 2 ∷ b ∷ 0 ∷ 0 ∷ 0 ∷ []

-- `Branches`: condition, non-zero target, zero target
abbrev pub branches : ℕ → ℕ → ℕ → List ℕ
branches v b c = 3 ∷ v ∷ b ∷ c ∷ 0 ∷ []

-- a block by its parts
abbrev pub block : List ℕ → List Op → List ℕ → List ℕ → Block
block inputs ops outputs control = record { inputs = inputs; ops = ops; outputs = outputs; control = control }

-- one block of these operations
abbrev pub straight : ℕ → List Op → List ℕ
straight locals os = words_of_blocks locals (0 ∷ []) (block [] (os ++ (stop ∷ [])) [] ends ∷ [])

-- ---- rows of a table

-- an interval by its block, start and end
abbrev pub interval : ℕ → ℕ → ℕ → Interval
interval b s e = record { block = b; from = s; to = e }

-- an outcome as one list
abbrev pub outcome_words : Outcome → List ℕ
outcome_words o = o.number ∷ o.len ∷ o.result
