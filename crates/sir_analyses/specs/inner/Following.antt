-- The machine that follows pointers from each allocation's base with a work list, a whole local at a time: all that it carries is linked,
-- then the causes for which it is used flag the allocation. Its marks are the meetings.
use Rattle.std.specs.Prelude.{◌≡◌, Bool, false, ◌&&◌, ◌||◌, ℕ, suc, List, [], ◌∷◌, eqb}
use Rattle.plank_core.specs.Lists.{foldl}
use Rattle.sir_analyses.specs.Allocation.{alloc_at, base}
use Rattle.sir_analyses.specs.Propagation.{State, link_local, start}

-- a state of the machine: owners, meetings and work list; and for each cause (0 an escaping operand, 1 a return) the allocations that
-- it flags
pub record Machine : Type 0 where
  pub state : State
  pub flagged : ℕ → ℕ → Bool

-- some locals are linked to allocation a
abbrev pub link_all : ℕ → List ℕ → Machine → Machine
link_all a xs m = record { state = foldl (link_local a) m.state xs; flagged = m.flagged }

-- a whole local is followed: xs, all that it carries, are linked, and the causes for which it is used flag the allocation
abbrev pub follow_local : List ℕ → (ℕ → Bool) → ℕ → Machine → Machine
follow_local xs used a m = record { state = foldl (link_local a) m.state xs; flagged = λ cause c. m.flagged cause c || (eqb c a && used cause) }

-- the same with another work list
abbrev pub working : List ℕ → Machine → Machine
working vs m = record { state = record { owner = m.state.owner; marks = m.state.marks; work = vs }; flagged = m.flagged }

-- the latest local of the work list is followed, some times over; `links` and `used` give these for each local
pub data Runs (links : ℕ → List ℕ) (used : ℕ → ℕ → Bool) (a : ℕ) (m : Machine) : Machine → Type 0 where
  begun : Runs links used a m m
  more : {t : Machine} {v : ℕ} {vs : List ℕ} → Runs links used a m t → t.state.work ≡ v ∷ vs → Runs links used a m (follow_local (links v) (used v) a (working vs t))

-- allocation a is followed from its base v until the work list is empty
pub record Propagates (links : ℕ → List ℕ) (used : ℕ → ℕ → Bool) (a v : ℕ) (m m' : Machine) : Type 0 where
  pub runs : Runs links used a (working (v ∷ []) m) m'
  pub ended : m'.state.work ≡ []

-- at first there are no flags
abbrev pub unflagged : List ℕ → Machine
unflagged w = record { state = start w; flagged = λ cause c. false }

-- the first n allocations were followed in turn
pub data Followed (w : List ℕ) (links : ℕ → List ℕ) (used : ℕ → ℕ → Bool) : ℕ → Machine → Type 0 where
  none : Followed w links used 0 (unflagged w)
  next : {a : ℕ} {m m' : Machine} → Followed w links used a m → Propagates links used a (base w (alloc_at w a)) m m' → Followed w links used (suc a) m'
