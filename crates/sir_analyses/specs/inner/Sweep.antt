-- The merged intervals of an unmarked allocation with no list of all intervals: blocks by id and the operations of each block, all
-- backwards, with the live set cut down to the reach.
use Rattle.std.specs.Prelude.{Bool, ◌&&◌, cond, ℕ, suc, eqb}
use mathlib.Core.List.{List, [], ◌∷◌, ◌++◌, foldr}
use Rattle.plank_core.specs.Lists.{keep, upto, any}
use Rattle.sir_data.specs.Records.{blocks, ops, ins, outs}
use Rattle.sir_analyses.specs.Order.{is_visited}
use Rattle.sir_analyses.specs.Liveness.{Set, has, add_all, remove_all, end_reads, exit_set, end_open, closing, Interval, Scan}
use Rattle.sir_analyses.specs.Allocation.{alloc_at, reach}

-- what two sets have in common
abbrev pub meet : Set → Set → Set
meet [] s = []
meet (x ∷ r) [] = []
meet (x ∷ r) (y ∷ s) = (x && y) ∷ meet r s

-- has the set a member?
abbrev pub nonempty : Set → Bool
nonempty s = any (λ x. x) s

-- the locals of r that are live at the end of b
abbrev pub live_at_end : List ℕ → Set → ℕ → Set
live_at_end w r b = add_all (meet r (exit_set w b)) (keep (has r) (end_reads w b))

-- the locals of r that are live before operation o, from those live after it
abbrev pub live_before : List ℕ → Set → ℕ → Set → Set
live_before w r o s = add_all (remove_all s (outs w o)) (keep (has r) (ins w o))

-- an open interval gets its start, and goes in front of those closed so far
abbrev pub shut : ℕ → ℕ → Scan → Scan
shut b from c = record { open' = 0; closed = closing b from c.open' ++ c.closed }

-- operation o is passed; t: is any live before it?
abbrev pub note : ℕ → ℕ → Bool → Scan → Scan
note b o t c =
    cond t (record { open' = cond (eqb c.open' 0) (suc o) c.open'; closed = c.closed })
    (shut b (suc o) c)

-- a sweep: the live set, and the open end (0: none) with the intervals closed so far, the latest found first
pub record Sweep : Type 0 where
  pub live : Set
  pub spans : Scan

-- the sweep at the end of b; `is` are the intervals of the blocks after b
abbrev pub sweep_end : List ℕ → Set → ℕ → List Interval → Sweep
sweep_end w r b is =
    let s = live_at_end w r b in
    record { live = s; spans = record { open' = end_open (nonempty s); closed = is } }

-- operation o is passed
abbrev pub sweep_op : List ℕ → Set → ℕ → ℕ → Sweep → Sweep
sweep_op w r b o c =
    let s = live_before w r o c.live in
    record { live = s; spans = note b o (nonempty s) c.spans }

-- the intervals of block b, in front of those of the blocks after it
abbrev pub sweep_block : List ℕ → Set → ℕ → List Interval → List Interval
sweep_block w r b is = (shut b 0 (foldr (sweep_op w r b) (sweep_end w r b is) (ops w b)).spans).closed

-- the intervals of the visited ones of some blocks, taken from the last to the first
abbrev pub sweep_from : List ℕ → Set → List ℕ → List Interval
sweep_from w r bs = foldr (λ b is. cond (is_visited w b) (sweep_block w r b is) is) [] bs

-- the intervals of allocation a
abbrev pub sweep : List ℕ → ℕ → List Interval
sweep w a = sweep_from w (reach w (alloc_at w a)) (upto (blocks w))
