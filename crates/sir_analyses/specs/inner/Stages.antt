-- The stages that questions read: the visit, liveness and pointers of an image's words. Each stage is one flat array with named
-- parts, filled by one function; its record is all that a reader asks for.
use Rattle.std.specs.Prelude.{◌≡◌, Option, None, Some, Bool, false, not, ◌&&◌, List, ℕ, zero, suc, ◌+◌, ◌-◌, ◌≤◌, ◌<◌, length, get_or, take, drop, replicate, eqb}
use Rattle.plank_core.specs.declared.index.AllocId.{AllocId}
use Rattle.plank_core.specs.Lists.{mem}
use Rattle.sir_data.specs.Records.{blocks, ins, outs}
use Rattle.sir_data.specs.inner.WellFormed.{WellFormed}
use Rattle.sir_analyses.specs.Order.{blocks_rpo, is_visited}
use Rattle.sir_analyses.specs.inner.Visiting.{order_in}
use Rattle.sir_analyses.specs.Answers.{order_answer}
use Rattle.sir_analyses.specs.Allocation.{rule12}
use Rattle.sir_analyses.specs.inner.Following.{Machine}
use Rattle.sir_analyses.specs.inner.Discovery.{alloc_sites, Discovered, Room, StepTaken, Propagated}
use Rattle.sir_analyses.specs.Liveness.{Set, has, use_set, def_set, settled}
use Rattle.sir_analyses.specs.inner.Tables.{Adds, SameRows, OperandRows, EndRows, BlockRows, PredecessorRows, SentOn, Stepped, LiveRows}

-- n elements of a flat array, from one on
unfoldable pub part : ℕ → ℕ → List ℕ → List ℕ
part from n t = take n (drop from t)

-- ---- the visit: how many blocks it has, their ids in the order's sequence, and for each block id whether it was visited

-- the blocks in the order's sequence
abbrev pub rpo_in : List ℕ → List ℕ
rpo_in visit = part 1 (get_or visit 0 0) visit

-- was block b visited?
abbrev pub visited_in : List ℕ → ℕ → Bool
visited_in visit b = not (eqb (get_or visit (257 + b) 0) 0)

pub record VisitStage (w visit : List ℕ) : Type 0 where
  pub well_formed : WellFormed w
  pub long : length visit ≡ 513
  pub few : get_or visit 0 0 ≤ 256
  pub rpo_is : rpo_in visit ≡ blocks_rpo w
  pub visited_is : (b : ℕ) → b < blocks w → visited_in visit b ≡ is_visited w b

-- the keys of what the visit finished give the words of the order, and they are few
pub record OrderStage (w postorder : List ℕ) : Type 0 where
  pub order_is : order_in postorder ≡ order_answer w
  pub order_fits : length (order_in postorder) ≤ 384

-- ---- accepted words: rule 12 does not apply, and the sites of all allocations are at hand

pub record AcceptedStage (w sites : List ℕ) : Type 0 where
  pub well_formed : WellFormed w
  pub sites_are : sites ≡ alloc_sites w
  pub sites_few : length sites ≤ 512
  pub bases_differ : rule12 w ≡ false

-- ---- liveness: what each operation reads and writes; the use, def, end and exit sets of each block

abbrev pub reads_in : List ℕ → List ℕ
reads_in live = part 0 8192 live

abbrev pub writes_in : List ℕ → List ℕ
writes_in live = part 8192 8192 live

abbrev pub uses_in : List ℕ → List ℕ
uses_in live = part 16384 2048 live

abbrev pub defs_in : List ℕ → List ℕ
defs_in live = part 18432 2048 live

abbrev pub ends_in : List ℕ → List ℕ
ends_in live = part 20480 2048 live

abbrev pub exits_in : List ℕ → List ℕ
exits_in live = part 22528 2048 live

pub record LivenessStage (w live : List ℕ) : Type 0 where
  pub well_formed : WellFormed w
  pub long : length live ≡ 24576
  pub operands : OperandRows w (reads_in live) (writes_in live)
  pub sets : LiveRows w (uses_in live) (defs_in live) (exits_in live)
  pub ends : EndRows w (ends_in live)

-- ---- pointers: the sites of all allocations, the owner of each local, the flags of each allocation

-- the sites of all allocations
abbrev pub sites_in : List ℕ → List ℕ
sites_in pointers = part 2 (get_or pointers 0 0) pointers

abbrev pub owners_in : List ℕ → List ℕ
owners_in pointers = part 514 512 pointers

-- the allocation that the number of an owner names: it is one less, and 0 names none
abbrev pub owner_named : ℕ → Option AllocId
owner_named zero = None
owner_named (suc a) = Some (record { 0 = a })

abbrev pub flags_in : List ℕ → List ℕ
flags_in pointers = part 1026 512 pointers

pub record PointerStage (w pointers : List ℕ) : Type 0 where
  pub well_formed : WellFormed w
  pub long : length pointers ≡ 2051
  pub few : get_or pointers 0 0 ≤ 512
  pub sites_are : sites_in pointers ≡ alloc_sites w
  pub discovered : Discovered w (owners_in pointers) (flags_in pointers)

-- ---- filling the tables of liveness

-- the array has its length, and is still empty from a place on
pub record Emptied (from : ℕ) (live : List ℕ) : Type 0 where
  pub long : length live ≡ 24576
  pub empty : drop from live ≡ replicate (24576 - from) 0

-- what operation o reads and writes is added, and all from the use sets on is as it was
pub record OperandsAdded (w : List ℕ) (o : ℕ) (live live' : List ℕ) : Type 0 where
  pub long : length live' ≡ length live
  pub read : Adds (reads_in live) (λ r v. eqb r o && mem v (ins w o)) (reads_in live')
  pub written : Adds (writes_in live) (λ r v. eqb r o && mem v (outs w o)) (writes_in live')
  pub after : drop 16384 live' ≡ drop 16384 live

-- the use and def sets of block b are added, and all else is as it was
pub record BlockAdded (w : List ℕ) (b : ℕ) (live live' : List ℕ) : Type 0 where
  pub long : length live' ≡ length live
  pub used : Adds (uses_in live) (λ r v. eqb r b && has (use_set w b) v) (uses_in live')
  pub defined : Adds (defs_in live) (λ r v. eqb r b && has (def_set w b) v) (defs_in live')
  pub before : take 16384 live' ≡ take 16384 live
  pub after : drop 20480 live' ≡ drop 20480 live

-- all tables are filled but the exits, which are empty
pub record ExitsEmpty (w live : List ℕ) : Type 0 where
  pub operands : OperandRows w (reads_in live) (writes_in live)
  pub block_rows : BlockRows w (uses_in live) (defs_in live)
  pub ends : EndRows w (ends_in live)
  pub emptied : Emptied 22528 live

-- between two steps of a pass: the predecessors of each block, the tables of liveness, and what each block has sent
pub record Passing (w preds live sent : List ℕ) : Type 0 where
  pub preds_rows : PredecessorRows w preds
  pub long : length live ≡ 24576
  pub sent_long : length sent ≡ 2048
  pub block_rows : BlockRows w (uses_in live) (defs_in live)
  pub sent_on : SentOn w (exits_in live) sent

-- one step of a pass: the exits and what was sent went on, and all else is as it was
pub record PassStep (w : List ℕ) (step : List Set → List Set) (live live' sent' : List ℕ) (told : Bool) : Type 0 where
  pub stepped : Stepped w step (exits_in live) (exits_in live') sent' told
  pub long : length live' ≡ length live
  pub before : take 22528 live' ≡ take 22528 live

-- the exits are the exit sets, and all else is as it was
pub record ExitsFound (w live live' : List ℕ) : Type 0 where
  pub long : length live' ≡ length live
  pub before : take 22528 live' ≡ take 22528 live
  pub exit_rows : SameRows (exits_in live') (settled w).1 (blocks w)

-- ---- filling the tables of pointers

-- the work list, and how many locals are on it
abbrev pub work_in : List ℕ → List ℕ
work_in pointers = part 1538 513 pointers

abbrev pub left_in : List ℕ → ℕ
left_in pointers = get_or pointers 1 0

-- the sites are stored, and all else is empty
pub record SitesStored (sites pointers : List ℕ) : Type 0 where
  pub long : length pointers ≡ 2051
  pub count : get_or pointers 0 0 ≡ length sites
  pub none_left : left_in pointers ≡ 0
  pub sites_are : sites_in pointers ≡ sites
  pub empty : drop 514 pointers ≡ replicate 1537 0

-- there is room for all that may be linked
pub record PointerRoom (pointers : List ℕ) : Type 0 where
  pub long : length pointers ≡ 2051
  pub room : Room (owners_in pointers) (flags_in pointers) (work_in pointers) (left_in pointers)

-- a step on owners, flags and the work list, with the sites as they were
pub record PointerStep (vs : List ℕ) (a : ℕ) (step : Machine → Machine) (p p' : List ℕ) : Type 0 where
  pub long : length p' ≡ 2051
  pub taken : StepTaken vs a step (owners_in p) (flags_in p) (work_in p) (left_in p) (owners_in p') (flags_in p') (work_in p') (left_in p')
  pub count : get_or p' 0 0 ≡ get_or p 0 0
  pub sites : part 2 512 p' ≡ part 2 512 p

-- one allocation was followed from its base v to the end, with the sites as they were
pub record PointersFollowed (links causes : List ℕ) (a v : ℕ) (p p' : List ℕ) : Type 0 where
  pub long : length p' ≡ 2051
  pub none_left : left_in p' ≡ 0
  pub propagated : Propagated links causes a v (owners_in p) (flags_in p) (work_in p) (owners_in p') (flags_in p') (work_in p')
  pub count : get_or p' 0 0 ≡ get_or p 0 0
  pub sites : part 2 512 p' ≡ part 2 512 p
