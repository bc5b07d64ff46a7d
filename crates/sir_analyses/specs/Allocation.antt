-- Allocations: where they are, reach, marks, owners and merged intervals (document 01, "Rules of the analyses"), read on words that
-- break no rule: rule 9 gives an allocation one output.
use Rattle.std.specs.Prelude.{Bool, false, not, ◌&&◌, ◌||◌, cond, ℕ, zero, suc, length, get_or, set, replicate, eqb, leb, ltb}
use mathlib.Core.List.{List, [], ◌∷◌, map, foldr}
use Rattle.plank_core.specs.Lists.{foldl, bind, keep, upto, any, distinct}
use Rattle.sir_data.specs.Records.{locals, control, inputs, ops, successors, code, ins, outs}
use Rattle.sir_data.specs.Codes.{is_alloc, derives, escaping}
use Rattle.sir_analyses.specs.Order.{blocks_rpo}
use Rattle.sir_analyses.specs.Liveness.{Use, uses, positions, Set, has, add_all, members, Interval, intervals}

-- an allocation: its defining block and operation
pub record Alloc : Type 0 where
  pub block : ℕ
  pub op : ℕ

-- allocations: the allocation operations of visited blocks
abbrev pub allocs : List ℕ → List Alloc
allocs w = bind (blocks_rpo w) (λ b. map (λ o. record { block = b; op = o }) (keep (λ o. is_alloc (code w o)) (ops w b)))

-- what `alloc_at` gives for a number that is too high
abbrev pub no_alloc : Alloc
no_alloc = record { block = 0; op = 0 }

-- allocation number a
abbrev pub alloc_at : List ℕ → ℕ → Alloc
alloc_at w a = get_or (allocs w) a no_alloc

-- base local of an allocation: its output
abbrev pub base : List ℕ → Alloc → ℕ
base w a = get_or (outs w a.op) 0 0

-- refusal 12: two allocations with one base local
abbrev pub rule12 : List ℕ → Bool
rule12 w = not (distinct (map (base w) (allocs w)))

-- ---- reach

-- what one use of a reached local brings into the reach: outputs of a deriving operation; the successor input at the position of a
-- block output
abbrev pub carried : List ℕ → Use → List ℕ
carried w u =
    cond (eqb u.kind 0) (cond (derives (code w u.place)) (outs w u.place) [])
    (cond (eqb u.kind 2) (map (λ s. get_or (inputs w s) u.place 0) (successors w u.block))
    [])

-- what all uses of a local bring
abbrev pub next : List ℕ → ℕ → List ℕ
next w v = bind (uses w v) (carried w)

-- what all uses of the members of a set bring
abbrev pub next_of : List ℕ → Set → List ℕ
next_of w s = bind (members s) (next w)

-- what f finds from a set is added to it, n times over; as often as there are locals suffices
abbrev pub closure : (Set → List ℕ) → ℕ → Set → Set
closure f zero s = s
closure f (suc n) s = closure f n (add_all s (f s))

-- base v, and all that f finds from there
abbrev pub spread : List ℕ → (Set → List ℕ) → ℕ → Set
spread w f v = closure f (locals w) (add_all (replicate (locals w) false) (v ∷ []))

-- the reach of an allocation
abbrev pub reach : List ℕ → Alloc → Set
reach w a = spread w (next_of w) (base w a)

-- ---- marks

-- is local v in an escaping operand of operation o?
abbrev pub escapes_by : List ℕ → ℕ → ℕ → Bool
escapes_by w o v = any (escaping (code w o)) (positions v (ins w o) 0)

-- is this use of v by an operation, and in an escaping operand?
abbrev pub escapes_at : List ℕ → ℕ → Use → Bool
escapes_at w v u = eqb u.kind 0 && escapes_by w u.place v

-- is this use an `InternalReturn` output?
abbrev pub returned_at : List ℕ → Use → Bool
returned_at w u = eqb u.kind 2 && eqb (control w u.block) 1

-- is v used in an escaping operand?
abbrev pub escapes : List ℕ → ℕ → Bool
escapes w v = any (escapes_at w v) (uses w v)

-- is v an `InternalReturn` output?
abbrev pub is_returned : List ℕ → ℕ → Bool
is_returned w v = any (returned_at w) (uses w v)

-- is v reached by another allocation than a too?
abbrev pub reached_by_other : List ℕ → ℕ → ℕ → Bool
reached_by_other w a v = any (λ k. not (eqb k a) && has (reach w (alloc_at w k)) v) (upto (length (allocs w)))

-- the mark of allocation a
abbrev pub marked : List ℕ → ℕ → Bool
marked w a = any (λ v. escapes w v || is_returned w v || reached_by_other w a v) (members (reach w (alloc_at w a)))

-- ---- owners: allocations in turn; each takes all that it links, but goes on only from its base and from locals that nobody had

-- the next locals that have no owner yet
abbrev pub unowned : List ℕ → List ℕ → Set → List ℕ
unowned w owner s = keep (λ v. eqb (get_or owner v 0) 0) (next_of w s)

-- a new owner replaces the old one
abbrev pub give : List ℕ → List ℕ → ℕ → List ℕ
give owner [] a = owner
give owner (v ∷ vs) a = give (set owner v (suc a)) vs a

-- the turn of allocation a: it takes all that is linked from its base and, after it, from locals that nobody had
abbrev pub link : List ℕ → List ℕ → ℕ → List ℕ
link w owner a = give owner (next_of w (spread w (unowned w owner) (base w (alloc_at w a)))) a

-- at first each base is owned by its own allocation
abbrev pub bases : List ℕ → List ℕ
bases w = foldl (λ owner a. set owner (base w (alloc_at w a)) (suc a)) (replicate (locals w) 0) (upto (length (allocs w)))

-- owner of each local, after all turns: allocation + 1, or 0
abbrev pub owners : List ℕ → List ℕ
owners w = foldl (link w) (bases w) (upto (length (allocs w)))

-- ---- merged intervals

-- is i at or before j? by block, start, end
abbrev pub before : Interval → Interval → Bool
before i j =
    ltb i.block j.block
    || (eqb i.block j.block && (ltb i.from j.from || (eqb i.from j.from && leb i.to j.to)))

-- an interval put into its place of a sorted list
abbrev pub insert : Interval → List Interval → List Interval
insert i [] = i ∷ []
insert i (j ∷ js) = cond (before i j) (i ∷ j ∷ js) (j ∷ insert i js)

-- intervals sorted by block, start, end
abbrev pub sort : List Interval → List Interval
sort is = foldr insert [] is

-- the greater of two ends
abbrev pub furthest : ℕ → ℕ → ℕ
furthest a b = cond (leb a b) b a

-- joined, up to the furthest end, where a start is at or before the furthest end so far in the same block; i has grown so far
abbrev pub join : Interval → List Interval → List Interval
join i [] = i ∷ []
join i (j ∷ js) =
    cond (eqb i.block j.block && leb j.from i.to)
    (join (record { block = i.block; from = i.from; to = furthest i.to j.to }) js)
    (i ∷ join j js)

-- what `merge_intervals` does once it has sorted: the joined intervals of a sorted list
abbrev pub merge : List Interval → List Interval
merge [] = []
merge (i ∷ is) = join i is

-- merged intervals of an allocation: those of all locals in its reach, sorted and joined; a marked one has none
abbrev pub merged : List ℕ → ℕ → List Interval
merged w a = cond (marked w a) [] (merge (sort (bind (members (reach w (alloc_at w a))) (intervals w))))
