-- What acceptance gives the readers of an image, as laws.WellFormed proves it.
use Rattle.std.specs.Prelude.{◌≡◌, ℕ, suc, ◌+◌, ◌<◌, ◌≤◌, true, List, length}
use Rattle.plank_core.specs.Lists.{distinct, ◌∈◌}
use Rattle.sir_data.specs.Records.{functions, blocks, operations, operand_words, case_targets, locals, init_function, main_plus_one, word_count, entry_block, block_word, op_word, operand, target, inputs, outputs, ops, control, field, successors, condition, code, ins, outs, callees}
use Rattle.sir_data.specs.Codes.{arity_ok}

-- where refusals 5 and 6 do not apply: counts within their limits, and all the words that they call for
pub record Sized (w : List ℕ) : Type 0 where
  pub functions_most : functions w ≤ 64
  pub blocks_most : blocks w ≤ 256
  pub operations_most : operations w ≤ 1024
  pub operands_most : operand_words w ≤ 4096
  pub targets_most : case_targets w ≤ 512
  pub locals_most : locals w ≤ 512
  pub functions_some : 0 < functions w
  pub blocks_some : 0 < blocks w
  pub size : word_count w ≤ length w

-- where 7 and 8 do not apply either: known kinds and codes, ranges inside their lists, ids below their counts
pub record InRange (w : List ℕ) : Type 0 where
  pub init : init_function w < functions w
  pub main : (m : ℕ) → main_plus_one w ≡ suc m → m < functions w
  pub entry : (f : ℕ) → f < functions w → entry_block w f < blocks w
  pub kind : (b : ℕ) → b < blocks w → control w b ≤ 4
  pub code_most : (o : ℕ) → o < operations w → code w o ≤ 92
  pub operand_below : (i : ℕ) → i < operand_words w → operand w i < locals w
  pub target_below : (i : ℕ) → i < case_targets w → target w i < blocks w
  pub inputs_range : (b : ℕ) → b < blocks w → (block_word w b 0 ≤ block_word w b 1) × (block_word w b 1 ≤ operand_words w)
  pub outputs_range : (b : ℕ) → b < blocks w → (block_word w b 2 ≤ block_word w b 3) × (block_word w b 3 ≤ operand_words w)
  pub ops_range : (b : ℕ) → b < blocks w → (block_word w b 4 ≤ block_word w b 5) × (block_word w b 5 ≤ operations w)
  pub ins_range : (o : ℕ) → o < operations w → (op_word w o 1 ≤ op_word w o 2) × (op_word w o 2 ≤ operand_words w)
  pub outs_range : (o : ℕ) → o < operations w → (op_word w o 3 ≤ op_word w o 4) × (op_word w o 4 ≤ operand_words w)
  pub switch_range : (b : ℕ) → b < blocks w → control w b ≡ 4 → field w b 1 + field w b 2 ≤ case_targets w
  pub successor : (b s : ℕ) → b < blocks w → s ∈ successors w b → s < blocks w
  pub op : (b o : ℕ) → b < blocks w → o ∈ ops w b → o < operations w
  pub callee : (o f : ℕ) → o < operations w → f ∈ callees w o → f < functions w
  pub input : (b v : ℕ) → b < blocks w → v ∈ inputs w b → v < locals w
  pub output : (b v : ℕ) → b < blocks w → v ∈ outputs w b → v < locals w
  pub tested : (b v : ℕ) → b < blocks w → v ∈ condition w b → v < locals w
  pub read : (o v : ℕ) → o < operations w → v ∈ ins w o → v < locals w
  pub written : (o v : ℕ) → o < operations w → v ∈ outs w o → v < locals w

-- where none of 4 to 11 applies
pub record WellFormed (w : List ℕ) : Type 0 where
  pub sized : Sized w
  pub in_range : InRange w
  -- operand counts by code
  pub arity_ok_fact : (o : ℕ) → o < operations w → arity_ok (code w o) (length (ins w o)) (length (outs w o)) ≡ true
  -- equal lengths over edges
  pub passed : (b s : ℕ) → b < blocks w → s ∈ successors w b → length (outputs w b) ≡ length (inputs w s)
  -- distinct inputs
  pub inputs_once : (b : ℕ) → b < blocks w → distinct (inputs w b) ≡ true
