-- The pieces of the pass that finds the records of all allocations: in each visited block, from the last to the first, and from its last
-- operation to the first, what the operation closes, by allocation; then what is open at the block's start. After all blocks the heads.
-- A piece stands in front of those before it.
use Rattle.std.specs.Prelude.{◌≡◌, Bool, false, not, ◌&&◌, ◌||◌, cond, ℕ, ◌+◌, ◌-◌, ◌*◌, ◌≤◌, ◌<◌, length, get_or, replicate, eqb, ltb, Option, Some, None}
use mathlib.Core.List.{List, [], ◌∷◌, ◌++◌, map, foldr, reverse}
use Rattle.plank_core.specs.declared.index.AllocId.{AllocId}
use Rattle.plank_core.specs.Lists.{bind, keep, upto, range, mem, ◌∈◌}
use Rattle.plank_core.specs.inner.DenseIndexSet.{contains, members, meets, row_of}
use Rattle.sir_data.specs.Records.{blocks, locals, block_word, ops}
use Rattle.sir_analyses.specs.Order.{is_visited}
use Rattle.sir_analyses.specs.Liveness.{Set, has}
use Rattle.sir_analyses.specs.Allocation.{allocs, alloc_at, reach, marked, merged}
use Rattle.sir_analyses.specs.Flags.{flags_word}
use Rattle.sir_analyses.specs.inner.Discovery.{head_words}
use Rattle.sir_analyses.specs.inner.Sweep.{nonempty, Sweep, sweep_end, sweep_op}
use Rattle.sir_analyses.specs.inner.Stages.{part, reads_in, writes_in, owners_in, flags_in}
use Rattle.sir_answers.specs.inner.Scatter.{Pieces, number_at}
use Rattle.sir_answers.specs.inner.IntervalPieces.{closed_pieces}

-- the locals by which allocation a lives: its reach, or none where it is marked or not known
unfoldable pub own_reach : List ℕ → ℕ → Set
own_reach w a = cond (ltb a (length (allocs w)) && not (marked w a)) (reach w (alloc_at w a)) (replicate (locals w) false)

-- the sweep for allocation a before the operations os, which are the last of block b
unfoldable pub swept_to : List ℕ → ℕ → ℕ → List ℕ → Sweep
swept_to w b a os = foldr (sweep_op w (own_reach w a) b) (sweep_end w (own_reach w a) b []) os

-- is one of its locals live there?
abbrev pub lives_at : List ℕ → ℕ → ℕ → List ℕ → Bool
lives_at w b a os = nonempty (swept_to w b a os).live

-- the end that is open for it there (0: none)
abbrev pub swept_end : List ℕ → ℕ → ℕ → List ℕ → ℕ
swept_end w b a os = (swept_to w b a os).spans.open'

-- an array has the end that is open for each allocation
pub record SweptEnds (w : List ℕ) (b : ℕ) (os till : List ℕ) : Type 0 where
  pub long : length till ≡ 512
  pub end_is : (a : ℕ) → a < 512 → number_at till a ≡ swept_end w b a os

-- what operation o of block b closes, before the operations os
abbrev pub swept_by : List ℕ → ℕ → ℕ → List ℕ → ℕ → ℕ
swept_by w b o os a = cond (lives_at w b a (o ∷ os)) 0 (swept_end w b a os)

-- the same for all allocations
unfoldable pub swept_pieces : List ℕ → ℕ → ℕ → Pieces
swept_pieces w b o = closed_pieces b (o + 1) (swept_by w b o (range (o + 1) (block_word w b 5))) (upto 512)

-- what the operations of block b close, from the last to the first
abbrev pub run_pieces : List ℕ → ℕ → Pieces
run_pieces w b = bind (reverse (ops w b)) (swept_pieces w b)

-- what is open at the start of block b
unfoldable pub open_pieces : List ℕ → ℕ → Pieces
open_pieces w b = closed_pieces b 0 (λ a. swept_end w b a (ops w b)) (upto 512)

-- all that is closed in block b
abbrev pub sweep_pieces : List ℕ → ℕ → Pieces
sweep_pieces w b = run_pieces w b ++ open_pieces w b

-- all that is closed in the visited blocks
abbrev pub visited_pieces : List ℕ → Pieces
visited_pieces w = bind (reverse (keep (is_visited w) (upto (blocks w)))) (sweep_pieces w)

-- the head of the record of allocation a
abbrev pub head_of : List ℕ → ℕ → List ℕ
head_of w a = head_words w (alloc_at w a).block (alloc_at w a).op (flags_word w a) (length (merged w a))

-- the heads of all records
abbrev pub head_pieces : List ℕ → Pieces
head_pieces w = bind (upto (length (allocs w))) (λ a. (a, head_of w a) ∷ [])

-- all records
abbrev pub record_pieces : List ℕ → Pieces
record_pieces w = visited_pieces w ++ head_pieces w

-- ---- the tables of owners: a row of locals without one, a row for each allocation, and the owner of each local; a marked allocation
-- owns none

abbrev pub unowned_in : List ℕ → List ℕ
unowned_in owned = part 0 8 owned

abbrev pub own_rows_in : List ℕ → List ℕ
own_rows_in owned = part 8 4096 owned

-- the owner of local v: allocation + 1, or 0
abbrev pub owner_in : List ℕ → ℕ → ℕ
owner_in owned v = number_at (part 4104 512 owned) v

-- the number of an owner: allocation + 1, or 0 for none
abbrev pub owner_number : Option AllocId → ℕ
owner_number None = 0
owner_number (Some a) = a.0 + 1

-- the owner of local v by the tables of pointers, or 0 where that is marked
unfoldable pub unmarked_owner : List ℕ → ℕ → ℕ
unmarked_owner pointers v =
    let owner = get_or (owners_in pointers) v 0 in
    cond (eqb owner 0) 0 (cond (eqb (get_or (flags_in pointers) (owner - 1) 0) 0) owner 0)

pub record OwnedTables (w owned : List ℕ) : Type 0 where
  pub long : length owned ≡ 4616
  pub owner_most : (v : ℕ) → v < 512 → owner_in owned v ≤ 512
  pub unowned_is : (v : ℕ) → v < 512 → ¬ (owner_in owned v ≡ 0) → contains (unowned_in owned) v ≡ false
  pub row_is : (a v : ℕ) → a < 512 → v < 512 → contains (own_rows_in owned) (512 * a + v) ≡ eqb (owner_in owned v) (a + 1)
  pub reach_is : (a v : ℕ) → a < 512 → v < 512 → contains (own_rows_in owned) (512 * a + v) ≡ has (own_reach w a) v

-- ---- the owners of some locals

-- the members of a set that have an owner are listed
pub record OwnedListed (owned set ids : List ℕ) : Type 0 where
  pub small : (v : ℕ) → v ∈ ids → v < 512
  pub listed_is : (v : ℕ) → v < 512 → ¬ (owner_in owned v ≡ 0) → mem v ids ≡ contains set v

-- is allocation a one of them?
abbrev pub owns_one : List ℕ → List ℕ → ℕ → Bool
owns_one owned vs a = mem (a + 1) (map (owner_in owned) vs)

-- is a local of allocation a in a set?
abbrev pub lives_in : List ℕ → List ℕ → ℕ → Bool
lives_in owned set a = meets (row_of (own_rows_in owned) a) set

-- where it is put: in row 0 if so, else in row 1
abbrev pub side : List ℕ → List ℕ → ℕ → ℕ
side owned set a = cond (lives_in owned set a) 0 1

-- the allocations with a local in a set are listed
pub record LiveOwners (owned set ids : List ℕ) : Type 0 where
  pub owners : List ℕ
  pub listed : ids ≡ members owners
  pub live_is : (a : ℕ) → a < 512 → contains owners a ≡ lives_in owned set a

-- the owners of the locals that operation o reads or writes are put in their rows
pub record SplitOwners (live : List ℕ) (o : ℕ) (owned set split : List ℕ) : Type 0 where
  pub touched : List ℕ
  pub touched_is : (v : ℕ) → v < 512 → ¬ (owner_in owned v ≡ 0) → mem v touched ≡ (contains (writes_in live) (512 * o + v) || contains (reads_in live) (512 * o + v))
  pub long : length split ≡ 16
  pub split_is : (r a : ℕ) → r < 2 → a < 512 → contains split (512 * r + a) ≡ (owns_one owned touched a && eqb r (side owned set a))
