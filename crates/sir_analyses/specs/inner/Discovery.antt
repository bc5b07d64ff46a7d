-- The arrays in which allocations are listed and their pointers are followed.
use Rattle.std.specs.Prelude.{◌≡◌, Option, MatchOption, Bool, false, not, List, [], ◌∷◌, ◌++◌, map, reverse, ℕ, zero, suc, ◌+◌, ◌*◌, ◌≤◌, ◌<◌, length, get_or, take, eqb}
use Rattle.plank_core.specs.Lists.{keep, one_if, ◌∈◌}
use Rattle.plank_core.specs.inner.DenseIndexSet.{contains, members, row_of}
use Rattle.sir_data.specs.Records.{locals, ops, code, outs}
use Rattle.sir_data.specs.Codes.{is_alloc}
use Rattle.sir_analyses.specs.Liveness.{has}
use Rattle.sir_analyses.specs.Allocation.{Alloc, allocs, alloc_at, reach, marked, owners}
use Rattle.sir_analyses.specs.inner.Tables.{Same}
use Rattle.sir_analyses.specs.inner.Visiting.{Listed}
use Rattle.sir_analyses.specs.Propagation.{State}
use Rattle.sir_analyses.specs.Flags.{flag_bits, flags_word}
use Rattle.sir_analyses.specs.inner.Following.{Machine, Propagates}
use Rattle.sir_analyses.specs.Kinds.{kind_of, kind_words}
use Rattle.sir_analyses.specs.declared.allocation_liveness.Flag.{Flag}

-- an allocation as one number
abbrev pub alloc_site : Alloc → ℕ
alloc_site x = 1024 * x.block + x.op

-- all allocations as numbers
unfoldable pub alloc_sites : List ℕ → List ℕ
alloc_sites w = map alloc_site (allocs w)

-- the allocations among a block's operations, as numbers
unfoldable pub block_sites : List ℕ → ℕ → List ℕ
block_sites w b = map (λ o. 1024 * b + o) (keep (λ o. is_alloc (code w o)) (ops w b))

-- a list stands in an array after its first `at`, up to r; where it does not fit there is no r
abbrev pub Capped : List ℕ → ℕ → List ℕ → List ℕ → Option ℕ → Type 0
Capped xs at old new r = MatchOption r ((length old < at + length xs) × (length new ≡ length old)) (λ n. (n ≤ length new) × Listed xs at old new n)

-- how many entries of an owner array are 0
unfoldable pub zeros : List ℕ → ℕ
zeros [] = 0
zeros (zero ∷ xs) = suc (zeros xs)
zeros (suc x ∷ xs) = zeros xs

-- the arrays have their lengths, and each entry without an owner finds room on the work list
pub record Room (owner flags work : List ℕ) (n : ℕ) : Type 0 where
  pub owner_long : length owner ≡ 512
  pub flags_long : length flags ≡ 512
  pub work_long : length work ≡ 513
  pub owner_small : (v : ℕ) → get_or owner v 0 ≤ 512
  pub work_small : (k : ℕ) → k < n → get_or work k 0 < 512
  pub room : zeros owner + n ≤ 513

-- the word of flags of allocation a in a state
abbrev pub flags_at : Machine → ℕ → ℕ
flags_at m a = flag_bits (m.flagged 0 a) (m.flagged 1 a) (has m.state.marks a)

-- the arrays, with n locals on the work list, show a state
pub record ShowsState (owner flags work : List ℕ) (n : ℕ) (m : Machine) : Type 0 where
  pub owner_is : (v : ℕ) → v < length m.state.owner → get_or owner v 0 ≡ get_or m.state.owner v 0
  pub owner_known : (v : ℕ) → get_or owner v 0 ≤ length m.state.marks
  pub flags_are : (a : ℕ) → a < 512 → get_or flags a 0 ≡ flags_at m a
  pub work_is : m.state.work ≡ reverse (take n work)

-- the arrays went on by one step, whatever state they showed, if it has these locals and this allocation
pub record StepTaken (vs : List ℕ) (a : ℕ) (step : Machine → Machine) (owner flags work : List ℕ) (n : ℕ) (owner' flags' work' : List ℕ) (r : ℕ) : Type 0 where
  pub room : Room owner' flags' work' r
  pub same : (m : Machine) → ((v : ℕ) → v ∈ vs → v < length m.state.owner) → a < length m.state.marks → ShowsState owner flags work n m → ShowsState owner' flags' work' r (step m)
  pub cost : zeros owner' + r ≤ zeros owner + n

-- what local u carries on, by the table of links
abbrev pub links_in : List ℕ → ℕ → List ℕ
links_in links u = members (row_of links u)

-- is local u used for that cause, by the table of causes?
abbrev pub used_in : List ℕ → ℕ → ℕ → Bool
used_in causes u cause = contains causes (512 * cause + u)

-- states that are as wide as each other
pub record SameWidth (s s' : State) : Type 0 where
  pub owner_wide : length s'.owner ≡ length s.owner
  pub marks_wide : length s'.marks ≡ length s.marks

-- the arrays show a state that following allocation a from v comes to
pub record Reaches (links causes : List ℕ) (a v : ℕ) (m : Machine) (owner flags work : List ℕ) : Type 0 where
  pub machine : Machine
  pub propagates : Propagates (links_in links) (used_in causes) a v m machine
  pub shown : ShowsState owner flags work 0 machine
  pub width : SameWidth m.state machine.state

-- one allocation was followed from its base v to the end
pub record Propagated (links causes : List ℕ) (a v : ℕ) (owner flags work owner' flags' work' : List ℕ) : Type 0 where
  pub room : Room owner' flags' work' 0
  pub same : (m : Machine) → ((u x : ℕ) → u < 512 → x ∈ links_in links u → x < length m.state.owner) → a < length m.state.marks → ShowsState owner flags work 0 m
      → Reaches links causes a v m owner' flags' work'

-- the bit of each flag
abbrev pub bit_of : Flag → ℕ
bit_of Flag.Escape = 1
bit_of Flag.Return = 2
bit_of Flag.Meeting = 4

-- these are the flags of allocation a, and it is marked where some flag is set
pub record FlagsOf (w : List ℕ) (a flags : ℕ) : Type 0 where
  pub word : flags ≡ flags_word w a
  pub mark : marked w a ≡ not (eqb flags 0)

-- the arrays at the end: owners, flags, and with them the reach of each unmarked allocation
pub record Discovered (w owner flags : List ℕ) : Type 0 where
  pub owner_is : (v : ℕ) → v < locals w → get_or owner v 0 ≡ get_or (owners w) v 0
  pub owner_known : (v : ℕ) → get_or owner v 0 ≤ length (allocs w)
  pub flags_are : (a : ℕ) → a < length (allocs w) → FlagsOf w a (get_or flags a 0)
  pub reach_is : (a v : ℕ) → a < length (allocs w) → marked w a ≡ false → v < locals w → has (reach w (alloc_at w a)) v ≡ eqb (get_or owner v 0) (suc a)

-- allocation a stands at operation o of block b
pub record Site (w : List ℕ) (a b o : ℕ) : Type 0 where
  pub known : a < length (allocs w)
  pub block_is : b ≡ (alloc_at w a).block
  pub op_is : o ≡ (alloc_at w a).op

-- allocation a, which stands there, is unmarked, and this set of words shows its reach
pub record Unmarked (w : List ℕ) (b o : ℕ) (set : List ℕ) (a : ℕ) : Type 0 where
  pub site : Site w a b o
  pub unmarked : marked w a ≡ false
  pub unflagged : flags_word w a ≡ 0
  pub long : length set ≡ 8
  pub same : Same set (reach w (alloc_at w a))

-- the first nine words of the record of an allocation at operation o of block b; the mark is set where some flag is
abbrev pub head_words : List ℕ → ℕ → ℕ → ℕ → ℕ → List ℕ
head_words w b o flags count = b ∷ o ∷ get_or (outs w o) 0 0 ∷ (kind_words (kind_of w o) ++ (one_if (not (eqb flags 0)) ∷ flags ∷ count ∷ []))
