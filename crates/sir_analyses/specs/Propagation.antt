-- What follows pointers from each allocation's base: its state, what linking a local does, and what a mark does.
use Rattle.std.specs.Prelude.{false, cond, ℕ, suc, ◌-◌, List, [], ◌∷◌, length, get_or, set, replicate, eqb}
use Rattle.sir_analyses.specs.Liveness.{Set, add_all}
use Rattle.sir_analyses.specs.Allocation.{allocs, bases}

-- a state: owner of each local (allocation + 1, or 0), marks of the allocations, locals still to be followed
pub record State : Type 0 where
  pub owner : List ℕ
  pub marks : Set
  pub work : List ℕ

-- `link_local_to_alloc` of allocation_liveness.rs: a new owner replaces the old one; another's is a meeting, and marks both
abbrev pub link_local : ℕ → State → ℕ → State
link_local a s v =
    let old = get_or s.owner v 0 in
    cond (eqb old 0)
    (record { owner = set s.owner v (suc a); marks = s.marks; work = v ∷ s.work })
    (record { owner = set s.owner v (suc a); marks = cond (eqb old (suc a)) s.marks (add_all s.marks (a ∷ (old - 1) ∷ [])); work = s.work })

-- allocation a is marked
abbrev pub mark : ℕ → State → State
mark a s = record { owner = s.owner; marks = add_all s.marks (a ∷ []); work = s.work }

-- at first each base is owned by its own allocation, and there are no marks
abbrev pub start : List ℕ → State
start w = record { owner = bases w; marks = replicate (length (allocs w)) false; work = [] }
