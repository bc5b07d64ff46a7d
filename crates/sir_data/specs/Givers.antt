-- One giver for each local (document 02, request R-7): refusal 16, and what it leaves.
use Rattle.std.specs.Prelude.{◌≡◌, ℕ, ◌<◌, Bool, true, not, List, ◌++◌}
use Rattle.plank_core.specs.Lists.{upto, bind, distinct, ◌∈◌, ◌∉◌}
use Rattle.sir_data.specs.Records.{operations, blocks, outs, inputs}

-- all that is given in the whole image: the outputs of each operation, once, and the inputs of each block
abbrev pub givings : List ℕ → List ℕ
givings w = bind (upto (operations w)) (outs w) ++ bind (upto (blocks w)) (inputs w)

-- refusal 16: a local given twice
unfoldable pub rule16 : List ℕ → Bool
rule16 w = not (distinct (givings w))

-- each local is given once in the whole image: by one operation output or by one block input
pub record OneGiver (w : List ℕ) : Type 0 where
  -- no operation gives a local twice, and no block
  pub outputs_once : (o : ℕ) → o < operations w → distinct (outs w o) ≡ true
  pub inputs_once : (b : ℕ) → b < blocks w → distinct (inputs w b) ≡ true
  -- nor do two operations, two blocks, or an operation and a block
  pub one_operation : (o p v : ℕ) → o < operations w → p < operations w → v ∈ outs w o → v ∈ outs w p → o ≡ p
  pub one_block : (b c v : ℕ) → b < blocks w → c < blocks w → v ∈ inputs w b → v ∈ inputs w c → b ≡ c
  pub not_both : (o b v : ℕ) → o < operations w → b < blocks w → v ∈ outs w o → v ∉ inputs w b
