-- Which allocations are open at a step, and which two cross (document 02, request R-1). `OpenRule` and `CrossingRule` are the claims.
use Rattle.std.specs.Prelude.{◌≡◌, ◌⊎◌, ◌↔◌, Bool, true, false, not, ◌&&◌, ◌||◌, cond, ℕ, suc, ◌+◌, ◌≤◌, ◌<◌, List, [], ◌∷◌, ◌++◌, map, length, get_or, eqb, leb}
use Rattle.plank_core.specs.Lists.{bind, keep, upto, any, mem, ◌∈◌}
use Rattle.sir_data.specs.Records.{blocks, operations, ops}
use Rattle.sir_analyses.specs.Liveness.{Interval}
use Rattle.sir_analyses.specs.Allocation.{allocs, marked, merged}
use Rattle.sir_analyses.specs.Calls.{Rules, known}
use Rattle.sir_analyses.specs.Claims.{Visited, block}
use Rattle.sir_analyses.specs.Walk.{Lies}

-- ---- open

-- does operation o of block b lie in this interval? start ≤ o + 1 ≤ end, both ends counted
abbrev pub covers : ℕ → ℕ → Interval → Bool
covers b o i = eqb i.block b && (leb i.from (o + 1) && leb (o + 1) i.to)

-- does it lie in one of these intervals?
abbrev pub lies : ℕ → ℕ → List Interval → Bool
lies b o is = any (covers b o) is

-- is allocation a unmarked, with an interval over operation o of block b?
abbrev pub is_open : List ℕ → ℕ → ℕ → ℕ → Bool
is_open w b o a = not (marked w a) && lies b o (merged w a)

-- the unmarked allocations with an interval over operation o of block b, by number
abbrev pub open_at : List ℕ → ℕ → ℕ → List ℕ
open_at w b o = keep (is_open w b o) (upto (length (allocs w)))

-- 13: block or operation not below its count; 15: an operation that the named block does not hold
abbrev pub open_rules : ℕ → ℕ → List ℕ → Rules
open_rules b o w = known blocks b w ++ known operations o w ++ ((15, not (mem o (ops w b))) ∷ [])

-- ---- crossing

-- a place: an operation of a block
pub record Place : Type 0 where
  pub block : ℕ
  pub op : ℕ

-- operation o of block b as a place
abbrev pub place_of : ℕ → ℕ → Place
place_of b o = record { block = b; op = o }

-- every operation of every block's own range, by block id, then operation
abbrev pub places : List ℕ → List Place
places w = bind (upto (blocks w)) (λ b. map (place_of b) (ops w b))

-- does this operation lie in an interval of each of two lists?
abbrev pub is_common : List Interval → List Interval → Place → Bool
is_common is js p = lies p.block p.op is && lies p.block p.op js

-- three words of the operations that are common: 1 or 0, then block + 1 and operation + 1 of the first
abbrev pub first_of : List Place → List ℕ
first_of [] = 0 ∷ 0 ∷ 0 ∷ []
first_of (p ∷ ps) = 1 ∷ suc p.block ∷ suc p.op ∷ []

-- whether two allocations cross, and the first block and operation common to both; a marked one crosses every one, with none named
abbrev pub crossing : List ℕ → ℕ → ℕ → List ℕ
crossing w a c = cond (marked w a || marked w c) (1 ∷ 0 ∷ 0 ∷ []) (first_of (keep (is_common (merged w a) (merged w c)) (places w)))

-- 13: an allocation not below its count
abbrev pub crossing_rules : ℕ → ℕ → List ℕ → Rules
crossing_rules a c w = known (λ w. length (allocs w)) a w ++ known (λ w. length (allocs w)) c w

-- ---- the claims

module _ (w : List ℕ) where
  -- allocation a is open at operation o of block b
  pub record Open (b o a : ℕ) : Type 0 where
    pub below : a < length (allocs w)
    pub unmarked : marked w a ≡ false
    pub over : Lies b o (merged w a)

  -- the list: exactly the allocations that are open there, none in a block that is not visited; each once, by number
  pub record OpenRule : Type 0 where
    pub exact : (b o a : ℕ) → a ∈ open_at w b o ↔ Open b o a
    pub unvisited : (b o : ℕ) → ¬ Visited w (block b) → open_at w b o ≡ []
    pub by_number : (b o i j : ℕ) → i < j → j < length (open_at w b o) → get_or (open_at w b o) i 0 < get_or (open_at w b o) j 0

  -- operation o, of block b's own range, lies in an interval of a and in one of c; for a against itself, in one of its own
  pub record Common (a c b o : ℕ) : Type 0 where
    pub block_known : b < blocks w
    pub held : o ∈ ops w b
    pub in_one : Lies b o (merged w a)
    pub in_other : Lies b o (merged w c)

  -- the first operation common to a and c, by block id, then operation
  pub record FirstCommon (a c b o : ℕ) : Type 0 where
    pub shared : Common a c b o
    pub none_before : (d p : ℕ) → Common a c d p → (b < d) ⊎ ((b ≡ d) × (o ≤ p))

  -- two cross: one is marked, or some operation is common to both
  pub data Crosses (a c : ℕ) : Type 0 where
    one_marked : marked w a ≡ true → Crosses a c
    other_marked : marked w c ≡ true → Crosses a c
    meeting : {b o : ℕ} → Common a c b o → Crosses a c

  -- what the three words tell
  pub data Tells (a c : ℕ) : List ℕ → Type 0 where
    -- of a marked one: they cross, and no point is named
    unnamed : (marked w a ≡ true) ⊎ (marked w c ≡ true) → Tells a c (1 ∷ 0 ∷ 0 ∷ [])
    -- of two unmarked ones: they cross, and the first common point is named
    named : {b o : ℕ} → marked w a ≡ false → marked w c ≡ false → FirstCommon a c b o → Tells a c (1 ∷ suc b ∷ suc o ∷ [])
    -- of two unmarked ones: no operation is common to both
    apart : marked w a ≡ false → marked w c ≡ false → ((b o : ℕ) → ¬ Common a c b o) → Tells a c (0 ∷ 0 ∷ 0 ∷ [])

  -- crossing: the words tell it; the first word is 1 exactly where two cross; which of the two comes first does not matter
  pub record CrossingRule : Type 0 where
    pub told : (a c : ℕ) → Tells a c (crossing w a c)
    pub exact : (a c : ℕ) → (get_or (crossing w a c) 0 0 ≡ 1) ↔ Crosses a c
    pub symmetric : (a c : ℕ) → crossing w a c ≡ crossing w c a
