-- What marked an allocation (document 02, request R-5): what linking a local tells, which locals an allocation was first to reach, and its
-- word of flags. `FlagRule` is the claim on the payload words of an accepted image.
use Rattle.std.specs.Prelude.{◌≡◌, ◌⊎◌, ◌↔◌, Bool, true, not, cond, ℕ, zero, suc, ◌+◌, ◌-◌, ◌*◌, ◌<◌, length, get_or, set, eqb}
use mathlib.Core.List.{List, [], ◌∷◌, Memᴰ}
use Rattle.plank_core.specs.Lists.{foldl, upto, any, one_if, ◌∈◌}
use Rattle.sir_data.specs.Records.{locals}
use Rattle.sir_analyses.specs.Liveness.{Use, uses, Set, has, add_all, members}
use Rattle.sir_analyses.specs.Allocation.{allocs, alloc_at, base, carried, next, reach, escapes, is_returned, reached_by_other, marked, spread, unowned, link, bases}
use Rattle.sir_analyses.specs.Propagation.{State, link_local, start}
use Rattle.sir_analyses.specs.Source.{pop}
use Rattle.sir_analyses.specs.Claims.{Reached}
use Rattle.sir_analyses.specs.declared.allocation_liveness.Found.{Found}

-- ---- what linking tells

-- the owner before that each case stands for, allocation + 1 or 0, where a local is linked to allocation a
abbrev pub owner_before : ℕ → Found → ℕ
owner_before a Found.First = 0
owner_before a Found.Before = suc a
owner_before a (Found.Met b) = suc b.0

-- what is told where the owner before is `old`
abbrev pub found : ℕ → ℕ → Found
found a old = cond (eqb old 0) Found.First (cond (eqb old (suc a)) Found.Before (Found.Met (record { 0 = old - 1 })))

-- what is done in each case, beside the new owner: only who was first there follows the local, and only a meeting marks, and marks both
abbrev pub linked_by : ℕ → State → ℕ → Found → State
linked_by a s v Found.First = record { owner = set s.owner v (suc a); marks = s.marks; work = v ∷ s.work }
linked_by a s v Found.Before = record { owner = set s.owner v (suc a); marks = s.marks; work = s.work }
linked_by a s v (Found.Met b) = record { owner = set s.owner v (suc a); marks = add_all s.marks (a ∷ b.0 ∷ []); work = s.work }

-- ---- the flags

-- owners before the turn of allocation a
abbrev pub owners_before : List ℕ → ℕ → List ℕ
owners_before w a = foldl (link w) (bases w) (upto a)

-- the locals that allocation a is first to reach: its base, and, linked from one of these, each that nobody had before its turn
abbrev pub first_reach : List ℕ → ℕ → Set
first_reach w a = spread w (unowned w (owners_before w a)) (base w (alloc_at w a))

-- is some local that allocation a is first to reach so used?
abbrev pub first_used : List ℕ → (ℕ → Bool) → ℕ → Bool
first_used w used a = any used (members (first_reach w a))

-- flag 1, an escaping operand
abbrev pub escape_flag : List ℕ → ℕ → Bool
escape_flag w = first_used w (escapes w)

-- flag 2, a return
abbrev pub return_flag : List ℕ → ℕ → Bool
return_flag w = first_used w (is_returned w)

-- flag 4, a meeting: another allocation reaches some local that this one reaches
abbrev pub meeting_flag : List ℕ → ℕ → Bool
meeting_flag w a = any (reached_by_other w a) (members (reach w (alloc_at w a)))

-- three flags as one word, added up
abbrev pub flag_bits : Bool → Bool → Bool → ℕ
flag_bits escape return meeting = one_if escape + 2 * one_if return + 4 * one_if meeting

-- the word of flags of allocation a
abbrev pub flags_word : List ℕ → ℕ → ℕ
flags_word w a = flag_bits (escape_flag w a) (return_flag w a) (meeting_flag w a)

-- ---- meetings, as linking tells them

-- the loops of the source in which only linking marks: all that the latest local carries is linked, until no local is left
abbrev pub meet_drain : ℕ → List ℕ → ℕ → State → State
meet_drain zero w a s = s
meet_drain (suc n) w a s = pop (λ v t. meet_drain n w a (foldl (link_local a) t (next w v))) s.work s

-- the turn of allocation a
abbrev pub meet_turn : List ℕ → State → ℕ → State
meet_turn w s a = meet_drain (suc (locals w)) w a (record { owner = s.owner; marks = s.marks; work = base w (alloc_at w a) ∷ [] })

-- the allocations of which linking told a meeting, in the turns of all
abbrev pub meetings : List ℕ → Set
meetings w = (foldl (meet_turn w) (start w) (upto (length (allocs w)))).marks

-- ---- the claim

module _ (w : List ℕ) where
  -- the base of some allocation
  pub record IsBase (v : ℕ) : Type 0 where
    pub whose : ℕ
    pub known : whose < length (allocs w)
    pub its_base : v ≡ base w (alloc_at w whose)

  -- allocation a is first to reach its base, and what a use carries on from there to a local that nobody had
  pub data FirstWhere (Had : ℕ → Type 0) (a : ℕ) : ℕ → Type 0 where
    own : {v : ℕ} → v ≡ base w (alloc_at w a) → FirstWhere Had a v
    linked : {u v : ℕ} {x : Use} → FirstWhere Had a u → Memᴰ x (uses w u) → v ∈ carried w x → ¬ Had v → FirstWhere Had a v

  -- had before the turn of allocation a: every base, and what the allocations before a were first to reach
  abbrev pub HadBefore : ℕ → ℕ → Type 0
  HadBefore zero v = IsBase v
  HadBefore (suc a) v = HadBefore a v ⊎ FirstWhere (HadBefore a) a v

  -- allocation a was first to reach local v: turns go by number, and a base is its own allocation's from the start
  abbrev pub First : ℕ → ℕ → Type 0
  First a v = FirstWhere (HadBefore a) a v

  -- a local that allocation a was first to reach has that use
  pub record FirstUsed (used : ℕ → Bool) (a : ℕ) : Type 0 where
    pub local : ℕ
    pub is_first : First a local
    pub is_used : used local ≡ true

  -- the one allocation that was first to reach local v
  pub record FirstOf (v : ℕ) : Type 0 where
    pub one : ℕ
    pub known : one < length (allocs w)
    pub is_first : First one v
    pub only : (b : ℕ) → b < length (allocs w) → First b v → b ≡ one

  -- the reach of allocation a overlaps that of another
  pub record Overlaps (a : ℕ) : Type 0 where
    pub local : ℕ
    pub other : ℕ
    pub known : other < length (allocs w)
    pub another : ¬ (a ≡ other)
    pub reached : Reached w a local
    pub reached_too : Reached w other local

  -- what marked it
  pub record FlagRule : Type 0 where
    -- linking tells the owner before, and it meets no one but another; what the source does goes by what it tells
    pub told : (a old : ℕ) → owner_before a (found a old) ≡ old
    pub meets_another : (a old b : ℕ) → found a old ≡ Found.Met (record { 0 = b }) → ¬ (a ≡ b)
    pub done_so : (a v : ℕ) (s : State) → link_local a s v ≡ linked_by a s v (found a (get_or s.owner v 0))
    -- the locals that are computed are those that the allocation was first to reach
    pub first_exact : (a v : ℕ) → a < length (allocs w) → (has (first_reach w a) v ≡ true) ↔ First a v
    -- it reaches them; and each reached local has one allocation, and no other, that was first to reach it
    pub first_reaches : (a v : ℕ) → First a v → Reached w a v
    pub first_of : (a v : ℕ) → a < length (allocs w) → Reached w a v → FirstOf v
    -- each flag is set exactly by its rule
    pub escape_exact : (a : ℕ) → a < length (allocs w) → (escape_flag w a ≡ true) ↔ FirstUsed (escapes w) a
    pub return_exact : (a : ℕ) → a < length (allocs w) → (return_flag w a ≡ true) ↔ FirstUsed (is_returned w) a
    pub meeting_exact : (a : ℕ) → a < length (allocs w) → (meeting_flag w a ≡ true) ↔ Overlaps a
    -- and a meeting is what linking tells
    pub meeting_told : (a : ℕ) → a < length (allocs w) → has (meetings w) a ≡ meeting_flag w a
    -- marked just where a flag is set
    pub mark_flags : (a : ℕ) → a < length (allocs w) → marked w a ≡ not (eqb (flags_word w a) 0)
