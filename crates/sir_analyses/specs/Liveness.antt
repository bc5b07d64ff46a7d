-- Uses, liveness, rounds and intervals of locals (document 01, "Rules of the analyses"), read on words that break no rule: rule 10 makes
-- inputs and outputs across an edge equally many.
use Rattle.std.specs.Prelude.{Bool, true, false, not, ◌&&◌, ◌||◌, cond, ℕ, zero, suc, ◌+◌, ◌*◌, length, get_or, set, replicate, eqb}
use Rattle.std.specs.Bool.{beq}
use mathlib.Core.List.{List, [], ◌∷◌, ◌++◌, map, foldr, reverse}
use Rattle.plank_core.specs.Lists.{foldl, bind, keep, mem, upto, any}
use Rattle.sir_data.specs.Records.{blocks, locals, inputs, outputs, ops, successors, condition, returned, ins, outs}
use Rattle.sir_analyses.specs.Order.{blocks_rpo, is_visited, predecessors}

-- ---- uses

-- the positions of v in a list, counted from k
abbrev pub positions : ℕ → List ℕ → ℕ → List ℕ
positions v [] k = []
positions v (x ∷ xs) k = cond (eqb x v) (k ∷ positions v xs (suc k)) (positions v xs (suc k))

-- a use: block; kind (0 operation, 1 control, 2 block output); then operation index, 0, or position
pub record Use : Type 0 where
  pub block : ℕ
  pub kind : ℕ
  pub place : ℕ

-- the uses of v in block b: by its operations in turn, as its condition, as its outputs
abbrev pub uses_in : List ℕ → ℕ → ℕ → List Use
uses_in w v b =
    bind (ops w b) (λ o. map (λ k. record { block = b; kind = 0; place = o }) (positions v (ins w o) 0))
    ++ map (λ k. record { block = b; kind = 1; place = 0 }) (positions v (condition w b) 0)
    ++ map (λ k. record { block = b; kind = 2; place = k }) (positions v (outputs w b) 0)

-- uses of a local: coverage and order as `DefUse` of def_use.rs fills them
abbrev pub uses : List ℕ → ℕ → List Use
uses w v = bind (blocks_rpo w) (uses_in w v)

-- ---- sets of locals: one Bool for each local

-- a set of locals
abbrev pub Set : Type 0
Set = List Bool

-- is v in the set?
abbrev pub has : Set → ℕ → Bool
has s v = get_or s v false

-- the set with these locals added
abbrev pub add_all : Set → List ℕ → Set
add_all s [] = s
add_all s (v ∷ vs) = add_all (set s v true) vs

-- the set with these locals removed
abbrev pub remove_all : Set → List ℕ → Set
remove_all s [] = s
remove_all s (v ∷ vs) = remove_all (set s v false) vs

-- the members of a set, ids ascending
abbrev pub members : Set → List ℕ
members s = keep (has s) (upto (length s))

-- ---- the equations

-- what is read after a block's operations: a branch or switch condition, or an `InternalReturn` block's outputs
abbrev pub end_reads : List ℕ → ℕ → List ℕ
end_reads w b = condition w b ++ returned w b

-- the entry set of b from its exit set: plus what is read after its operations, then operations backwards, outputs removed before
-- inputs are added
abbrev pub entry_from : List ℕ → ℕ → Set → Set
entry_from w b exit =
    foldr (λ o s. add_all (remove_all s (outs w o)) (ins w o)) (add_all exit (end_reads w b)) (ops w b)

-- is v read by the operations before one of them defines it? `end` is read after them
abbrev pub read_first : List ℕ → List ℕ → List ℕ → ℕ → Bool
read_first w end [] v = mem v end
read_first w end (o ∷ os) v = mem v (ins w o) || (not (mem v (outs w o)) && read_first w end os v)

-- the use set of b: the locals that it reads before it defines them
abbrev pub use_set : List ℕ → ℕ → Set
use_set w b = map (read_first w (end_reads w b) (ops w b)) (upto (locals w))

-- the def set of b: the locals that an operation of b defines
abbrev pub def_set : List ℕ → ℕ → Set
def_set w b = map (λ v. any (λ o. mem v (outs w o)) (ops w b)) (upto (locals w))

-- the position of v in a list, or its length where v is not there
abbrev pub index_of : ℕ → List ℕ → ℕ
index_of v [] = 0
index_of v (x ∷ xs) = cond (eqb x v) 0 (suc (index_of v xs))

-- across an edge: what v of block b is called at the exit of its predecessor p; an input becomes the output at its position, other
-- names pass
abbrev pub renamed : List ℕ → ℕ → ℕ → ℕ → ℕ
renamed w p b v = get_or (outputs w p) (index_of v (inputs w b)) v

-- the exit set that the equations give p, from the exit sets x
abbrev pub exit_from : List ℕ → (ℕ → Set) → ℕ → Set
exit_from w x p =
    foldl (λ s b. add_all s (map (renamed w p b) (members (entry_from w b (x b))))) (replicate (locals w) false) (successors w p)

-- ---- passes

-- the set of block b in a table with a set for each block
abbrev pub row_of : List Set → ℕ → Set
row_of e b = get_or e b []

-- one block of a pass: its entry set goes to its predecessors' exits
abbrev pub back : List ℕ → List Set → ℕ → List Set
back w e b =
    let entry = entry_from w b (row_of e b) in
    foldl (λ x p. set x p (add_all (row_of x p) (map (renamed w p b) (members entry)))) e (predecessors w b)

-- a pass takes the blocks of the order backwards
abbrev pub pass : List ℕ → List Set → List Set
pass w e = foldl (back w) e (reverse (blocks_rpo w))

-- are two sets the same list?
abbrev pub same_set : Set → Set → Bool
same_set [] [] = true
same_set [] (y ∷ t) = false
same_set (x ∷ s) [] = false
same_set (x ∷ s) (y ∷ t) = beq x y && same_set s t

-- are two tables of sets the same list?
abbrev pub same_rows : List Set → List Set → Bool
same_rows [] [] = true
same_rows [] (y ∷ t) = false
same_rows (x ∷ s) [] = false
same_rows (x ∷ s) (y ∷ t) = same_set x y && same_rows s t

-- passes until one adds nothing, that one counted
abbrev pub settle : ℕ → List ℕ → ℕ → List Set → ℕ × List Set
settle zero w k e = (k, e)
settle (suc n) w k e = let next = pass w e in cond (same_rows next e) (suc k, e) (settle n w (suc k) next)

-- the first pass starts from empty sets
abbrev pub no_exits : List ℕ → List Set
no_exits w = replicate (blocks w) (replicate (locals w) false)

-- the passes, and the exit sets they end with; more passes than there can be exit members suffice
abbrev pub settled : List ℕ → ℕ × List Set
settled w = settle (blocks w * locals w + 1) w 0 (no_exits w)

-- rounds: passes until one adds no exit member, that one included
abbrev pub rounds : List ℕ → ℕ
rounds w = (settled w).0

-- exit set of a block
abbrev pub exit_set : List ℕ → ℕ → Set
exit_set w b = row_of (settled w).1 b

-- entry set of a block; an unvisited block has an empty one
abbrev pub entry_set : List ℕ → ℕ → Set
entry_set w b = cond (is_visited w b) (entry_from w b (exit_set w b)) []

-- ---- intervals

-- the end of an interval that runs to the end of its block
abbrev pub block_end : ℕ
block_end = 4294967295

-- an interval: block; start (0 block start, else operation + 1); end (operation + 1, or `block_end`)
pub record Interval : Type 0 where
  pub block : ℕ
  pub from : ℕ
  pub to : ℕ

-- a scan backwards through a block: the open end (0: none) and the intervals closed so far
pub record Scan : Type 0 where
  pub open' : ℕ
  pub closed : List Interval

-- the end that is open after a block's operations, by whether the local is live there
abbrev pub end_open : Bool → ℕ
end_open live = cond live block_end 0

-- the interval that a start closes, if an end is open
abbrev pub closing : ℕ → ℕ → ℕ → List Interval
closing b from to = cond (eqb to 0) [] (record { block = b; from = from; to = to } ∷ [])

-- an open interval gets its start, and goes after those closed so far
abbrev pub close : ℕ → ℕ → Scan → Scan
close b from c = record { open' = 0; closed = c.closed ++ closing b from c.open' }

-- operation o is passed: where it defines v it closes what is open, then where it reads v and nothing is open it opens an end
abbrev pub scan_op : List ℕ → ℕ → ℕ → ℕ → Scan → Scan
scan_op w b v o c =
    let d = cond (mem v (outs w o)) (close b (suc o) c) c in
    cond (mem v (ins w o) && eqb d.open' 0) (record { open' = suc o; closed = d.closed }) d

-- the intervals of v in block b, backwards through definitions, from its exit set on; one that starts with the block comes last
abbrev pub block_intervals : List ℕ → Set → ℕ → ℕ → List Interval
block_intervals w exit v b =
    (close b 0
    (foldr (scan_op w b v)
    (record { open' = end_open (has exit v || mem v (end_reads w b)); closed = [] })
    (ops w b))
    ).closed

-- intervals of a local: block by block, in the sequence of the Order answer
abbrev pub intervals : List ℕ → ℕ → List Interval
intervals w v = bind (blocks_rpo w) (λ b. block_intervals w (exit_set w b) v b)
