-- How tables of words show the sets of the definitions: row r of a table holds i where the table holds 512 * r + i.
use Rattle.std.specs.Prelude.{◌≡◌, Bool, true, not, ◌&&◌, ◌||◌, List, [], map, ℕ, ◌+◌, ◌*◌, ◌≤◌, ◌<◌, length, get_or}
use Rattle.plank_core.specs.Lists.{upto, any, keep, mem, ◌∈◌}
use Rattle.plank_core.specs.inner.DenseIndexSet.{contains}
use Rattle.plank_core.specs.inner.DenseIndexSet as Words
use Rattle.sir_data.specs.Records.{blocks, operations, locals, inputs, outputs, ins, outs}
use Rattle.sir_analyses.specs.Order.{is_visited, predecessors}
use Rattle.sir_analyses.specs.Liveness.{Set, has, row_of, end_reads, read_first, use_set, def_set, renamed, settled}
use Rattle.sir_analyses.specs.Answers.{entry_answer, exit_answer}

-- the words show a set
abbrev pub Same : List ℕ → Set → Type 0
Same ws s = (n : ℕ) → n < 512 → contains ws n ≡ has s n

-- each of the first n rows holds i exactly where p r i
abbrev pub Rows : List ℕ → ℕ → (ℕ → ℕ → Bool) → Type 0
Rows t n p = (r i : ℕ) → r < n → i < 512 → contains t (512 * r + i) ≡ p r i

-- each of the first n rows of a table shows its set of e
abbrev pub SameRows : List ℕ → List Set → ℕ → Type 0
SameRows t e n = Rows t n (λ b i. has (row_of e b) i)

-- t' is the table t with i added to row r wherever p r i
pub record Adds (t : List ℕ) (p : ℕ → ℕ → Bool) (t' : List ℕ) : Type 0 where
  pub long : length t' ≡ length t
  pub same : (r i : ℕ) → 8 * r + 8 ≤ length t → i < 512 → contains t' (512 * r + i) ≡ (contains t (512 * r + i) || p r i)

-- have the first n rows of t' a member that those of t lack?
unfoldable pub grew : ℕ → List ℕ → List ℕ → Bool
grew n t t' = any (λ k. contains t' k && not (contains t k)) (upto (512 * n))

-- the first n rows of t' have all members of those of t
abbrev pub More : ℕ → List ℕ → List ℕ → Type 0
More n t t' = (k : ℕ) → k < 512 * n → contains t k ≡ true → contains t' k ≡ true

-- what each operation reads, and what it writes
pub record OperandRows (w reads writes : List ℕ) : Type 0 where
  pub reads_long : length reads ≡ 8192
  pub writes_long : length writes ≡ 8192
  pub read : Rows reads (operations w) (λ o v. mem v (ins w o))
  pub written : Rows writes (operations w) (λ o v. mem v (outs w o))

-- two sets: what the operations os read before one of them defines it, and what they define
pub record RangeSets (w os sets : List ℕ) : Type 0 where
  pub long : length sets ≡ 16
  pub reads_first : (v : ℕ) → v < 512 → contains sets v ≡ read_first w [] os v
  pub defines : (v : ℕ) → v < 512 → contains sets (512 + v) ≡ any (λ o. mem v (outs w o)) os

-- what is read after each block's operations
pub record EndRows (w ends : List ℕ) : Type 0 where
  pub ends_long : length ends ≡ 2048
  pub ended : Rows ends (blocks w) (λ b v. mem v (end_reads w b))

-- the use and def sets of each block
pub record BlockRows (w uses defs : List ℕ) : Type 0 where
  pub uses_long : length uses ≡ 2048
  pub defs_long : length defs ≡ 2048
  pub used : Rows uses (blocks w) (λ b v. has (use_set w b) v)
  pub defined : Rows defs (blocks w) (λ b v. has (def_set w b) v)

-- the predecessors of each block, each once
pub record PredecessorRows (w preds : List ℕ) : Type 0 where
  pub preds_long : length preds ≡ 2048
  pub preceded : Rows preds (blocks w) (λ b p. mem p (predecessors w b))

-- ---- liveness over tables

-- words that show a block's entry set, use ∪ (exit − def), by row b of the three tables
abbrev pub EntryWords : List ℕ → List ℕ → List ℕ → ℕ → List ℕ → Type 0
EntryWords uses defs exits b ws = (v : ℕ) → v < 512 → contains ws v ≡ (contains uses (512 * b + v) || (contains exits (512 * b + v) && not (contains defs (512 * b + v))))

-- what a block has to send: words that show its entry set, less what row b of `sent` has
pub record Unsent (uses defs exits sent : List ℕ) (b : ℕ) (new : List ℕ) : Type 0 where
  pub entry : List ℕ
  pub entry_words : EntryWords uses defs exits b entry
  pub fresh : (v : ℕ) → v < 512 → contains new v ≡ (contains entry v && not (contains sent (512 * b + v)))

-- the inputs of block b taken out of a set: the members that are left, and the positions of the inputs that it had
pub record TakenInputs (w : List ℕ) (b : ℕ) (set passing moved : List ℕ) : Type 0 where
  pub passes : (v : ℕ) → v < 512 → contains passing v ≡ (contains set v && not (mem v (inputs w b)))
  pub moves : moved ≡ keep (λ k. contains set (get_or (inputs w b) k 0)) (upto (length (inputs w b)))

-- the outputs of block p at some positions
abbrev pub outputs_at : List ℕ → ℕ → List ℕ → List ℕ
outputs_at w p moved = map (λ k. get_or (outputs w p) k 0) moved

-- what of both arrives at the exit of block p
abbrev pub arrives : List ℕ → List ℕ → List ℕ → ℕ → ℕ → Bool
arrives w passing moved p i = contains passing i || mem i (outputs_at w p moved)

-- t' is t with i added to row r wherever p r i, and `told` tells whether one of the first n rows grew
pub record Sends (n : ℕ) (t : List ℕ) (p : ℕ → ℕ → Bool) (t' : List ℕ) (told : Bool) : Type 0 where
  pub adds : Adds t p t'
  pub tells : told ≡ grew n t t'

-- a set was sent to the predecessors of block b: what is left of it without the inputs of b, and each input by its position
pub record SentToPredecessors (w : List ℕ) (b : ℕ) (set exits exits' : List ℕ) (told : Bool) : Type 0 where
  pub passing : List ℕ
  pub moved : List ℕ
  pub taken : TakenInputs w b set passing moved
  pub sends : Sends (blocks w) exits (λ p i. mem p (predecessors w b) && arrives w passing moved p i) exits' told

-- the exits, a row for each block, show a table of sets
pub record Shown (w exits : List ℕ) (e : List Set) : Type 0 where
  pub tall : length e ≡ blocks w
  pub wide : (b : ℕ) → b < length e → length (row_of e b) ≡ locals w
  pub rows : SameRows exits e (blocks w)

-- what row b of `sent` has was sent on: under its name there, it is in the exit of each predecessor of b
abbrev pub SentOn : List ℕ → List ℕ → List ℕ → Type 0
SentOn w exits sent = (b p v : ℕ) → b < blocks w → p ∈ predecessors w b → v < 512 → contains sent (512 * b + v) ≡ true → contains exits (512 * p + renamed w p b v) ≡ true

-- the exits went on by one step of the definition, whatever table of sets they showed
pub record Stepped (w : List ℕ) (step : List Set → List Set) (exits exits' sent' : List ℕ) (told : Bool) : Type 0 where
  pub exits_long : length exits' ≡ 2048
  pub sent_long : length sent' ≡ 2048
  pub same : (e : List Set) → Shown w exits e → Shown w exits' (step e)
  pub sent_on : SentOn w exits' sent'
  pub more : More (blocks w) exits exits'
  pub tells : told ≡ grew (blocks w) exits exits'

-- the use, def and exit sets of each block
pub record LiveRows (w uses defs exits : List ℕ) : Type 0 where
  pub block_rows : BlockRows w uses defs
  pub exits_long : length exits ≡ 2048
  pub exit_rows : SameRows exits (settled w).1 (blocks w)
  -- the members of the exit sets, and of the entry sets of visited blocks
  pub exit_is : (b : ℕ) → b < blocks w → Words.members (Words.row_of exits b) ≡ exit_answer w b
  pub entry_is : (b : ℕ) → b < blocks w → is_visited w b ≡ true → (ws : List ℕ) → EntryWords uses defs exits b ws → Words.members ws ≡ entry_answer w b
