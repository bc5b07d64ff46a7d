-- The arrays in which a visit of functions and blocks is kept.
-- `seen` is a table of two sets, the functions seen and the blocks seen. `postorder` has what is finished, in that order: f for a
-- function, 256 * (f + 1) + b for block b on behalf of function f.
use Rattle.std.specs.Prelude.{◌≡◌, Bool, not, cond, List, [], ◌∷◌, ◌++◌, reverse, ℕ, zero, suc, ◌+◌, ◌-◌, ◌*◌, ◌/◌, ◌%◌, ◌≤◌, ◌<◌, length, take, eqb, leb, ltb}
use Rattle.std.specs.Borrow.{MutBor}
use Rattle.plank_core.specs.declared.index.FunctionId.{FunctionId}
use Rattle.plank_core.specs.Lists.{bind, mem, one_if}
use Rattle.plank_core.specs.inner.DenseIndexSet.{contains}
use Rattle.sir_data.specs.Records.{functions, blocks}
use Rattle.sir_analyses.specs.Order.{Visit, visited}

-- the key of block b, finished on behalf of function f
abbrev pub block_key : ℕ → ℕ → ℕ
block_key f b = 256 * (f + 1) + b

-- the function and the block of a key, if it is a block's
abbrev pub keyed_block : ℕ → List (ℕ × ℕ)
keyed_block k = cond (leb 256 k) ((k / 256 - 1, k % 256) ∷ []) []

-- the function of a key, if it is a function's
abbrev pub keyed_function : ℕ → List ℕ
keyed_function k = cond (leb 256 k) [] (k ∷ [])

-- the arrays, with n keys in `postorder`, show the visit v
pub record Shows (seen postorder : List ℕ) (n : ℕ) (v : Visit) : Type 0 where
  pub functions_seen : (f : ℕ) → f < 64 → mem f v.seen_functions ≡ contains seen f
  pub blocks_seen : (b : ℕ) → b < 256 → mem b v.seen_blocks ≡ contains seen (512 + b)
  pub blocks_finished : v.finished ≡ bind (take n postorder) keyed_block
  pub functions_finished : v.finished_functions ≡ bind (take n postorder) keyed_function

-- how many numbers below n fail a test
unfoldable pub missing : ℕ → (ℕ → Bool) → ℕ
missing zero p = 0
missing (suc n) p = one_if (not (p n)) + missing n p

-- the falling number: unseen functions plus unseen blocks
unfoldable pub unseen : List ℕ → List ℕ → ℕ
unseen w seen = missing (functions w) (contains seen) + missing (blocks w) (λ b. contains seen (512 + b))

-- the arrays have their lengths, and there is room in `postorder` for all that is unseen
pub record Held (w seen postorder : List ℕ) (n : ℕ) : Type 0 where
  pub wide : length seen ≡ 16
  pub long : length postorder ≡ 320
  pub room : n + unseen w seen ≤ functions w + blocks w

-- the arrays went on by one step of a visit, whatever visit they showed
pub record VisitStep (w : List ℕ) (step : Visit → Visit) (seen postorder : List ℕ) (n : ℕ) (seen' postorder' : List ℕ) (r : ℕ) : Type 0 where
  pub same : (v : Visit) → Shows seen postorder n v → Shows seen' postorder' r (step v)
  pub held : Held w seen' postorder' r
  pub less : r + unseen w seen' ≤ n + unseen w seen
  pub down : unseen w seen' ≤ unseen w seen

-- the arrays show the whole visit
pub record VisitedAll (w seen postorder : List ℕ) (n : ℕ) : Type 0 where
  pub shows : Shows seen postorder n (visited w)
  pub held : Held w seen postorder n

-- ---- the order, read off the postorder from the last to the first

-- the block of a key, if it was finished on behalf of f
abbrev pub block_of : ℕ → ℕ → List ℕ
block_of f k = cond (eqb (k / 256) (f + 1)) (k % 256 ∷ []) []

-- the blocks finished on behalf of f, last first
unfoldable pub blocks_of : ℕ → List ℕ → List ℕ
blocks_of f ks = bind (reverse ks) (block_of f)

-- what g gives of the function of a key, if it is a function's
abbrev pub function_of : (ℕ → List ℕ) → ℕ → List ℕ
function_of g k = cond (ltb k 256) (g k) []

-- the blocks of all functions, in the sequence of the order
unfoldable pub blocks_in : List ℕ → List ℕ
blocks_in ks = bind (reverse ks) (function_of (λ f. blocks_of f ks))

-- the words of a function: its id, its block count and its blocks
abbrev pub entry_of : ℕ → List ℕ → List ℕ
entry_of f ks = f ∷ length (blocks_of f ks) ∷ blocks_of f ks

-- the words of the Order answer
unfoldable pub order_in : List ℕ → List ℕ
order_in ks = bind (reverse ks) (function_of (λ f. entry_of f ks))

-- a list stands in an array after its first `at`, up to r
pub record Listed (xs : List ℕ) (at : ℕ) (old new : List ℕ) (r : ℕ) : Type 0 where
  pub next : r ≡ at + length xs
  pub list : take r new ≡ take at old ++ xs
  pub long : length new ≡ length old

-- in an array of that length, where there is room, calls may be made that write the list that g gives of a function
pub record EachListed (pre : MutBor (List ℕ) → FunctionId → ℕ → Type 0) (post : MutBor (List ℕ) → FunctionId → ℕ → ℕ → MutBor (List ℕ) → Type 0) (g : ℕ → List ℕ) (long : ℕ) : Type 0 where
  pub may : (to : MutBor (List ℕ)) (f : FunctionId) (at : ℕ) → f.0 < 256 → length to.now ≡ long → at + length (g f.0) ≤ long → pre to f at
  pub writes : (to : MutBor (List ℕ)) (f : FunctionId) (at r : ℕ) (to' : MutBor (List ℕ)) → f.0 < 256 → length to.now ≡ long → at + length (g f.0) ≤ long → post to f at r to' → Listed (g f.0) at to.now to'.now r
