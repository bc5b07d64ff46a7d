-- The tables of pointers in their flat array: sites, owners, flags and the work list, as the machine's steps write them.
use mathlib.Core.Path.{◌≡◌, refl, sym, ap, ◌∙◌}
use mathlib.Core.Bool.{Bool, true, false, cond}
use mathlib.Core.List.{List, [], ◌∷◌, ◌++◌}
use Prim.Native.Nat.{ℕ, suc, ◌+◌, ◌-◌, ◌≤◌, ◌<◌}
use native.Mathlib.Omega.{arith}
use native.Mathlib.Numerals.{add-one}
use lib.ListN.{length, get_or, set, take, drop, replicate, length-set, length-replicate}
use lib.Bits.{bit_or}
use lib.Seq.{get_or-take, get_or-set_same, get_or-set_other, take-suc, take_all, drop-set-lt}
use Rattle.sir_data.specs.Records.{locals}
use Rattle.sir_analyses.specs.Allocation.{allocs, alloc_at, base, bases}
use Rattle.sir_analyses.specs.inner.Pointers.{PointerRows}
use Rattle.sir_analyses.specs.Flags.{found}
use Rattle.sir_analyses.specs.declared.allocation_liveness.Found.{Found}
use Rattle.sir_analyses.specs.inner.Following.{Machine, link_all, follow_local}
use Rattle.sir_analyses.specs.inner.Discovery.{zeros, Room, StepTaken, links_in, used_in}
use Rattle.sir_analyses.specs.inner.Stages.{part, sites_in, owners_in, flags_in, work_in, left_in, SitesStored, PointerRoom, PointerStep, PointersFollowed, AcceptedStage, PointerStage}
use Rattle.sir_analyses.proofs.stages.Parts.{part_none, part_most, part_get, part_next, part_shorter, part_drop, part_set, part_set_low, part_set_high, put_back, put_part, put_before, put_long, put_low, put_high}
use Rattle.sir_analyses.proofs.local_liveness.LivenessTables.{cleared_part, cleared_drop}
use Rattle.sir_analyses.proofs.claims.flags.Found.{told_is, meets_another}
use Rattle.sir_analyses.proofs.allocation_liveness.Linking.{raised, push_room, link_new, link_same, link_other, linked_more, linked_all, then_flagged, raised_if, flags_raised}
use Rattle.sir_analyses.proofs.allocation_liveness.Following.{room_less, room_base, AllGoing, going_starts, going_on, going_ends}
use Rattle.sir_analyses.proofs.allocation_liveness.Discovery.{sites_long}
use Rattle.sir_analyses.proofs.allocation_liveness.Turns.{Turned, turned_starts, turned_more, turned_ends}

-- ---- a step of the machine, told of the parts

pub step_in : {vs : List ℕ} {a : ℕ} {step : Machine → Machine} {p p' o m k : List ℕ} {r : ℕ} → StepTaken vs a step (owners_in p) (flags_in p) (work_in p) (left_in p) o m k r
    → owners_in p' ≡ o → flags_in p' ≡ m → work_in p' ≡ k → left_in p' ≡ r → length p' ≡ 2051 → get_or p' 0 0 ≡ get_or p 0 0 → part 2 512 p' ≡ part 2 512 p → PointerStep vs a step p p'
step_in S eo em ek er long count sites = record { long = long; taken = rw (eo, em, ek, er) S; count = count; sites = sites }

-- a flag of allocation a is set in the flat array
abbrev pub flag_set : List ℕ → ℕ → ℕ → List ℕ
flag_set p a flag = set p (1026 + a) (bit_or (get_or p (1026 + a) 0) flag)

module _ (p : List ℕ) (flag : ℕ) {a : ℕ} (ha : a < 512) where
  pub flag_long : length (flag_set p a flag) ≡ length p
  flag_long = length-set p (1026 + a) (bit_or (get_or p (1026 + a) 0) flag)

  flag_flags : flags_in (flag_set p a flag) ≡ raised (flags_in p) a flag
  flag_flags = part_set 1026 512 a (bit_or (get_or p (1026 + a) 0) flag) p ha ∙ ap (λ (k : ℕ). set (flags_in p) a (bit_or k flag)) (sym (part_get 1026 512 a p ha))

  flag_owners : owners_in (flag_set p a flag) ≡ owners_in p
  flag_owners = part_set_high 514 512 (1026 + a) (bit_or (get_or p (1026 + a) 0) flag) p (omega arith)

  flag_work : work_in (flag_set p a flag) ≡ work_in p
  flag_work = part_set_low 1538 513 (1026 + a) (bit_or (get_or p (1026 + a) 0) flag) p (omega arith)

  flag_left : left_in (flag_set p a flag) ≡ left_in p
  flag_left = get_or-set_other p (1026 + a) 1 (bit_or (get_or p (1026 + a) 0) flag) 0 (λ q. omega arith)

  flag_count : get_or (flag_set p a flag) 0 0 ≡ get_or p 0 0
  flag_count = get_or-set_other p (1026 + a) 0 (bit_or (get_or p (1026 + a) 0) flag) 0 (λ q. omega arith)

  flag_sites : part 2 512 (flag_set p a flag) ≡ part 2 512 p
  flag_sites = part_set_high 2 512 (1026 + a) (bit_or (get_or p (1026 + a) 0) flag) p (omega arith)

-- the same, where t says so
abbrev pub flag_if : ℕ → Bool → ℕ → List ℕ → List ℕ
flag_if a t flag p = cond t (flag_set p a flag) p

pub flag_if_long : (p : List ℕ) (flag : ℕ) (t : Bool) {a : ℕ} → a < 512 → length (flag_if a t flag p) ≡ length p
flag_if_long p flag true ha = flag_long p flag ha
flag_if_long p flag false ha = refl

-- ---- one local is linked

module _ {p : List ℕ} (R : PointerRoom p) {v a : ℕ} (hv : v < 512) (ha : a < 512) where
  -- the owner is written
  abbrev one : List ℕ
  one = set p (514 + v) (a + 1)

  pub one_long : length one ≡ 2051
  one_long = length-set p (514 + v) (a + 1) ∙ R.long

  one_owners : owners_in one ≡ set (owners_in p) v (a + 1)
  one_owners = part_set 514 512 v (a + 1) p hv

  one_flags : flags_in one ≡ flags_in p
  one_flags = part_set_low 1026 512 (514 + v) (a + 1) p (omega arith)

  one_work : work_in one ≡ work_in p
  one_work = part_set_low 1538 513 (514 + v) (a + 1) p (omega arith)

  one_sites : part 2 512 one ≡ part 2 512 p
  one_sites = part_set_high 2 512 (514 + v) (a + 1) p (omega arith)

  pub one_left : left_in one ≡ left_in p
  one_left = get_or-set_other p (514 + v) 1 (a + 1) 0 (λ e. omega arith)

  one_count : get_or one 0 0 ≡ get_or p 0 0
  one_count = get_or-set_other p (514 + v) 0 (a + 1) 0 (λ e. omega arith)

  abbrev old : ℕ
  old = get_or (owners_in p) v 0

  -- a local that nobody had goes on the work list
  module _ (z : found a old ≡ Found.First) where
    nobody : old ≡ 0
    nobody = told_is a old z

    pub left_room : left_in one < 513
    left_room = omega (arith, one_left, push_room R.room hv ha nobody)

    pub reached_first : PointerStep (v ∷ []) a (link_all a (v ∷ [])) p (set (set one (1538 + left_in one) v) 1 (left_in one + 1))
    reached_first =
        let n = left_in one in
        let two = set one (1538 + n) v in
        let tl : length two ≡ 2051 = length-set one (1538 + n) v ∙ one_long in
        step_in (link_new R.room hv ha nobody)
        (part_set_low 514 512 1 (n + 1) two (omega arith) ∙ part_set_high 514 512 (1538 + n) v one (omega arith) ∙ one_owners)
        (part_set_low 1026 512 1 (n + 1) two (omega arith) ∙ part_set_high 1026 512 (1538 + n) v one (omega arith) ∙ one_flags)
        (part_set_low 1538 513 1 (n + 1) two (omega arith) ∙ part_set 1538 513 n v one left_room ∙ ap (λ (t : List ℕ). set t n v) one_work ∙ ap (λ (i : ℕ). set (work_in p) i v) one_left)
        (get_or-set_same two 1 (n + 1) 0 (omega (arith, tl)) ∙ ap (λ (i : ℕ). i + 1) one_left)
        (length-set two 1 (n + 1) ∙ tl)
        (get_or-set_other two 1 0 (n + 1) 0 (λ q. omega arith) ∙ get_or-set_other one (1538 + n) 0 v 0 (λ q. omega arith) ∙ one_count)
        (part_set_low 2 512 1 (n + 1) two (omega arith) ∙ part_set_high 2 512 (1538 + n) v one (omega arith) ∙ one_sites)

  -- one that it had before
  pub reached_before : found a old ≡ Found.Before → PointerStep (v ∷ []) a (link_all a (v ∷ [])) p one
  reached_before z =
      let e : old ≡ suc a = told_is a old z in
      step_in (link_same R.room hv ha (λ q. omega arith) (omega arith)) one_owners one_flags one_work one_left one_long one_count one_sites

  -- one that another had: both have met
  module _ (b : ℕ) (z : found a old ≡ Found.Met (record { 0 = b })) where
    had : old ≡ suc b
    had = told_is a old z

    pub other_less : b < 512
    other_less = omega (arith, R.room.owner_small v, had)

    pub reached_met : PointerStep (v ∷ []) a (link_all a (v ∷ [])) p (flag_set (flag_set one a 4) b 4)
    reached_met =
        let two = flag_set one a 4 in
        let k : old - 1 ≡ b = omega (arith, had) in
        let d = meets_another a old b z in
        step_in (link_other R.room hv ha (λ q. omega (arith, had)) (λ q. d (omega (arith, had))))
        (flag_owners two 4 other_less ∙ flag_owners one 4 ha ∙ one_owners)
        (flag_flags two 4 other_less ∙ ap (λ (t : List ℕ). raised t b 4) (flag_flags one 4 ha ∙ ap (λ (t : List ℕ). raised t a 4) one_flags) ∙ ap (λ (i : ℕ). raised (raised (flags_in p) a 4) i 4) (sym k))
        (flag_work two 4 other_less ∙ flag_work one 4 ha ∙ one_work)
        (flag_left two 4 other_less ∙ flag_left one 4 ha ∙ one_left)
        (flag_long two 4 other_less ∙ flag_long one 4 ha ∙ one_long)
        (flag_count two 4 other_less ∙ flag_count one 4 ha ∙ one_count)
        (flag_sites two 4 other_less ∙ flag_sites one 4 ha ∙ one_sites)

-- ---- a local is followed

module _ {a : ℕ} {p : List ℕ} where
  pub room_after : {vs : List ℕ} {step : Machine → Machine} {p' : List ℕ} → PointerStep vs a step p p' → PointerRoom p'
  room_after S = record { long = S.long; room = S.taken.room }

  pub links_more : {p' p'' : List ℕ} (xs : List ℕ) (i : ℕ) → i < length xs → PointerStep (take i xs) a (link_all a (take i xs)) p p'
      → PointerStep (get_or xs i 0 ∷ []) a (link_all a (get_or xs i 0 ∷ [])) p' p'' → PointerStep (take (i + 1) xs) a (link_all a (take (i + 1) xs)) p p''
  links_more xs i h P Q = record { long = Q.long; taken = linked_more xs i h P.taken Q.taken; count = Q.count ∙ P.count; sites = Q.sites ∙ P.sites }

  pub links_flagged : {p' p'' : List ℕ} (xs : List ℕ) (i : ℕ) → length xs ≤ i → PointerStep (take i xs) a (link_all a (take i xs)) p p' → (used : ℕ → Bool) → PointerStep [] a (follow_local [] used a) p' p''
      → PointerStep xs a (follow_local xs used a) p p''
  links_flagged xs i h P used Q = record { long = Q.long; taken = then_flagged xs used (linked_all xs i h P.taken) Q.taken; count = Q.count ∙ P.count; sites = Q.sites ∙ P.sites }

  pub uses_flagged : PointerRoom p → a < 512 → (used : ℕ → Bool) → PointerStep [] a (follow_local [] used a) p (flag_if a (used 1) 2 (flag_if a (used 0) 1 p))
  uses_flagged R ha used =
      let q = flag_if a (used 0) 1 p in
      step_in (flags_raised R.room ha used)
      (kept (used 1) owners_in q 2 (flag_owners q 2 ha) ∙ kept (used 0) owners_in p 1 (flag_owners p 1 ha))
      (flags_by (used 1) q 2 ∙ ap (raised_if (used 1) a 2) (flags_by (used 0) p 1))
      (kept (used 1) work_in q 2 (flag_work q 2 ha) ∙ kept (used 0) work_in p 1 (flag_work p 1 ha))
      (kept (used 1) left_in q 2 (flag_left q 2 ha) ∙ kept (used 0) left_in p 1 (flag_left p 1 ha))
      (flag_if_long q 2 (used 1) ha ∙ flag_if_long p 1 (used 0) ha ∙ R.long)
      (kept (used 1) (λ t. get_or t 0 0) q 2 (flag_count q 2 ha) ∙ kept (used 0) (λ t. get_or t 0 0) p 1 (flag_count p 1 ha))
      (kept (used 1) (part 2 512) q 2 (flag_sites q 2 ha) ∙ kept (used 0) (part 2 512) p 1 (flag_sites p 1 ha))
    where
      kept : {A : Type 0} (t : Bool) (f : List ℕ → A) (q : List ℕ) (flag : ℕ) → f (flag_set q a flag) ≡ f q → f (flag_if a t flag q) ≡ f q
      kept true f q flag same = same
      kept false f q flag same = refl

      flags_by : (t : Bool) (q : List ℕ) (flag : ℕ) → flags_in (flag_if a t flag q) ≡ raised_if t a flag (flags_in q)
      flags_by true q flag = flag_flags q flag ha
      flags_by false q flag = refl

-- ---- one allocation is followed to the end

-- on the way from p₀, with the sites as they were
pub record OnTheWay (links causes : List ℕ) (a : ℕ) (p₀ p : List ℕ) : Type 0 where
  pub room : PointerRoom p
  pub going : AllGoing links causes a (owners_in p₀) (flags_in p₀) (work_in p₀) (owners_in p) (flags_in p) (work_in p) (left_in p)
  pub count : get_or p 0 0 ≡ get_or p₀ 0 0
  pub sites : part 2 512 p ≡ part 2 512 p₀

-- the base alone is on the work list
module _ {p : List ℕ} (R : PointerRoom p) (none : left_in p ≡ 0) {v : ℕ} (hv : v < 512) where
  abbrev begun : List ℕ
  begun = set (set p 1538 v) 1 1

  begun_long : length begun ≡ 2051
  begun_long = length-set (set p 1538 v) 1 1 ∙ length-set p 1538 v ∙ R.long

  begun_owners : owners_in begun ≡ owners_in p
  begun_owners = part_set_low 514 512 1 1 (set p 1538 v) (omega arith) ∙ part_set_high 514 512 1538 v p (omega arith)

  begun_flags : flags_in begun ≡ flags_in p
  begun_flags = part_set_low 1026 512 1 1 (set p 1538 v) (omega arith) ∙ part_set_high 1026 512 1538 v p (omega arith)

  begun_work : work_in begun ≡ set (work_in p) 0 v
  begun_work = part_set_low 1538 513 1 1 (set p 1538 v) (omega arith) ∙ part_set 1538 513 0 v p (omega arith)

  begun_left : left_in begun ≡ 1
  begun_left = get_or-set_same (set p 1538 v) 1 1 0 (omega (arith, length-set p 1538 v, R.long))

  begun_count : get_or begun 0 0 ≡ get_or p 0 0
  begun_count = get_or-set_other (set p 1538 v) 1 0 1 0 (λ q. omega arith) ∙ get_or-set_other p 1538 0 v 0 (λ q. omega arith)

  begun_sites : part 2 512 begun ≡ part 2 512 p
  begun_sites = part_set_low 2 512 1 1 (set p 1538 v) (omega arith) ∙ part_set_high 2 512 1538 v p (omega arith)

  room_none : Room (owners_in p) (flags_in p) (work_in p) 0
  room_none = rw none at R.room

  pub way_starts : (links causes : List ℕ) (a : ℕ) → OnTheWay links causes a begun begun
  way_starts links causes a = record {
    room = record { long = begun_long; room = rw (begun_owners, begun_flags, begun_work, begun_left) (room_base room_none hv) };
    going = rw begun_left (going_starts links causes a (owners_in begun) (flags_in begun) (work_in begun));
    count = refl;
    sites = refl;
  }

  pub way_ends : {links causes : List ℕ} {a : ℕ} {p' : List ℕ} → left_in p' ≡ 0 → OnTheWay links causes a begun p' → PointersFollowed links causes a v p p'
  way_ends {links} {causes} {a} {p'} z W = record {
    long = W.room.long;
    none_left = z;
    propagated = going_ends z room_none.work_long W.room.room (rw (begun_owners, begun_flags, begun_work) at W.going);
    count = W.count ∙ begun_count;
    sites = W.sites ∙ begun_sites;
  }

-- the latest local is taken off the work list, and followed
module _ {links causes : List ℕ} {a : ℕ} {p₀ p : List ℕ} (W : OnTheWay links causes a p₀ p) (some : 0 < left_in p) where
  abbrev fewer : List ℕ
  fewer = set p 1 (left_in p - 1)

  fewer_owners : owners_in fewer ≡ owners_in p
  fewer_owners = part_set_low 514 512 1 (left_in p - 1) p (omega arith)

  fewer_flags : flags_in fewer ≡ flags_in p
  fewer_flags = part_set_low 1026 512 1 (left_in p - 1) p (omega arith)

  fewer_work : work_in fewer ≡ work_in p
  fewer_work = part_set_low 1538 513 1 (left_in p - 1) p (omega arith)

  fewer_left : left_in fewer ≡ left_in p - 1
  fewer_left = get_or-set_same p 1 (left_in p - 1) 0 (omega (arith, W.room.long))

  pub left_few : left_in p ≤ 513
  left_few = omega (arith, W.room.room.room)

  pub fewer_long : length fewer ≡ 2051
  fewer_long = length-set p 1 (left_in p - 1) ∙ W.room.long

  pub fewer_room : PointerRoom fewer
  fewer_room = record { long = fewer_long; room = rw (fewer_owners, fewer_flags, fewer_work, fewer_left) (room_less W.room.room) }

  -- the local that is followed
  taken_is : get_or fewer (1538 + (left_in p - 1)) 0 ≡ get_or (work_in p) (left_in p - 1) 0
  taken_is = sym (part_get 1538 513 (left_in p - 1) fewer (omega (arith, left_few))) ∙ ap (λ (t : List ℕ). get_or t (left_in p - 1) 0) fewer_work

  pub taken_less : get_or fewer (1538 + (left_in p - 1)) 0 < 512
  taken_less = rw taken_is (W.room.room.work_small (left_in p - 1) (omega arith))

  module _ {v : ℕ} (e : v ≡ get_or fewer (1538 + (left_in p - 1)) 0) {p' : List ℕ} (S : PointerStep (links_in links v) a (follow_local (links_in links v) (used_in causes v) a) fewer p') where
    step_of : StepTaken (links_in links (get_or (work_in p) (left_in p - 1) 0)) a (follow_local (links_in links (get_or (work_in p) (left_in p - 1) 0)) (used_in causes (get_or (work_in p) (left_in p - 1) 0)) a) (owners_in p) (flags_in p) (work_in p) (left_in p - 1) (owners_in p') (flags_in p') (work_in p') (left_in p')
    step_of = rw (e ∙ taken_is, fewer_owners, fewer_flags, fewer_work, fewer_left) at S.taken

    pub way_on : OnTheWay links causes a p₀ p'
    way_on = record {
      room = room_after S;
      going = going_on some W.room.room W.going step_of;
      count = S.count ∙ get_or-set_other p 1 0 (left_in p - 1) 0 (λ q. omega arith) ∙ W.count;
      sites = S.sites ∙ part_set_low 2 512 1 (left_in p - 1) p (omega arith) ∙ W.sites;
    }

    pub way_less : zeros (owners_in p') + left_in p' < zeros (owners_in p) + left_in p
    way_less = omega (arith, step_of.cost)

-- ---- the sites are stored

pub record SitesTo (sites pointers : List ℕ) (a : ℕ) : Type 0 where
  pub long : length pointers ≡ 2051
  pub count : get_or pointers 0 0 ≡ length sites
  pub none_left : left_in pointers ≡ 0
  pub front : part 2 a pointers ≡ take a sites
  pub empty : drop 514 pointers ≡ replicate 1537 0

pub sites_none : (sites p : List ℕ) → p ≡ replicate 2051 0 → SitesTo sites (set p 0 (length sites)) 0
sites_none sites p e = record {
  long = length-set p 0 (length sites) ∙ ap length e ∙ length-replicate {A = ℕ} 2051 0;
  count = get_or-set_same p 0 (length sites) 0 (omega (arith, ap length e ∙ length-replicate {A = ℕ} 2051 0));
  none_left = get_or-set_other p 0 1 (length sites) 0 (λ q. omega arith) ∙ ap (λ (t : List ℕ). get_or t 1 0) e;
  front = part_none 2 (set p 0 (length sites));
  empty = drop-set-lt 514 p 0 (length sites) (omega arith) ∙ cleared_drop 514 2051 p (omega arith) e;
}

module _ {sites p : List ℕ} {a : ℕ} (F : SitesTo sites p a) (few : length sites ≤ 512) where
  pub sites_more : a < length sites → SitesTo sites (set p (2 + a) (get_or sites a 0)) (a + 1)
  sites_more h = record {
    long = length-set p (2 + a) (get_or sites a 0) ∙ F.long;
    count = get_or-set_other p (2 + a) 0 (get_or sites a 0) 0 (λ q. omega arith) ∙ F.count;
    none_left = get_or-set_other p (2 + a) 1 (get_or sites a 0) 0 (λ q. omega arith) ∙ F.none_left;
    front = part_next 2 a (get_or sites a 0) p (omega (arith, F.long)) ∙ ap (λ (t : List ℕ). t ++ (get_or sites a 0 ∷ [])) F.front ∙ sym (take-suc sites a 0 h) ∙ ap (λ (k : ℕ). take k sites) (sym (add-one a));
    empty = drop-set-lt 514 p (2 + a) (get_or sites a 0) (omega arith) ∙ F.empty;
  }

  pub sites_all : length sites ≤ a → a ≤ length sites → SitesStored sites p
  sites_all h g =
      let e : a ≡ length sites = omega arith in
      record {
        long = F.long;
        count = F.count;
        none_left = F.none_left;
        sites_are = ap (λ (n : ℕ). part 2 n p) (F.count ∙ sym e) ∙ F.front ∙ ap (λ (n : ℕ). take n sites) e ∙ take_all (length sites) sites (omega arith);
        empty = F.empty;
      }

-- ---- allocations in turn

-- the arrays show a state after the first i allocations, with the sites as they were stored
pub record TurnedTo (w sites links causes p : List ℕ) (i : ℕ) : Type 0 where
  pub long : length p ≡ 2051
  pub none_left : left_in p ≡ 0
  pub turned : Turned w links causes (owners_in p) (flags_in p) (work_in p) i
  pub count : get_or p 0 0 ≡ length sites
  pub sites_are : sites_in p ≡ sites

module _ {w sites links causes : List ℕ} (A : AcceptedStage w sites) (rows : PointerRows w links causes) where
  pub turned_to_starts : {p : List ℕ} (o : List ℕ) → SitesStored sites p
      → ((v : ℕ) → v < locals w → get_or o v 0 ≡ get_or (bases w) v 0) × ((v : ℕ) → get_or o v 0 ≤ length (allocs w)) × (length o ≡ 512)
      → TurnedTo w sites links causes (put_back 514 512 p o) 0
  turned_to_starts {p} o S B =
      let fits : 514 + 512 ≤ length p = omega (arith, S.long) in
      let q = put_back 514 512 p o in
      let own : owners_in q ≡ o = put_part 514 512 p o B.2 fits in
      let flags : flags_in q ≡ replicate 512 0 = put_high 514 512 p o B.2 fits 1026 512 (omega arith) ∙ empty_at 1026 512 p S (omega arith) (omega arith) in
      let work : work_in q ≡ replicate 513 0 = put_high 514 512 p o B.2 fits 1538 513 (omega arith) ∙ empty_at 1538 513 p S (omega arith) (omega arith) in
      let low : take 514 q ≡ take 514 p = put_before 514 512 p o B.2 fits in
      let T : Turned w links causes (owners_in q) (flags_in q) (work_in q) 0 = turned_starts w A.well_formed A.bases_differ (λ v h. ap (λ (t : List ℕ). get_or t v 0) own ∙ B.0 v h) (λ v. rw own (B.1 v)) (ap length own ∙ B.2) flags (ap length work ∙ length-replicate {A = ℕ} 513 0) in
      record {
        long = put_long 514 512 p o B.2 fits ∙ S.long;
        none_left = front_get q p 1 low (omega arith) ∙ S.none_left;
        turned = T;
        count = front_get q p 0 low (omega arith) ∙ S.count;
        sites_are = ap (λ (n : ℕ). part 2 n q) (front_get q p 0 low (omega arith)) ∙ put_low 514 512 p o B.2 fits 2 (get_or p 0 0) (omega (arith, S.count, A.sites_few)) ∙ S.sites_are;
      }
    where
      front_get : (t u : List ℕ) (i : ℕ) → take 514 t ≡ take 514 u → i < 514 → get_or t i 0 ≡ get_or u i 0
      front_get t u i e h = sym (get_or-take 514 t i 0 h) ∙ ap (λ (s : List ℕ). get_or s i 0) e ∙ get_or-take 514 u i 0 h

      empty_at : (from n : ℕ) (p : List ℕ) → SitesStored sites p → 514 ≤ from → from + n ≤ 2051 → part from n p ≡ replicate n 0
      empty_at from n p S h l =
          part_drop 514 from n p h ∙ cleared_part (from - 514) n 1537 (drop 514 p) (omega arith) S.empty

  pub turned_to_more : {p p' : List ℕ} {i v : ℕ} → i < length (allocs w) → v ≡ base w (alloc_at w i) → TurnedTo w sites links causes p i → PointersFollowed links causes i v p p' → TurnedTo w sites links causes p' (i + 1)
  turned_to_more {p} {p'} {i} h e T F = record {
    long = F.long;
    none_left = F.none_left;
    turned = turned_more w A.well_formed A.bases_differ rows h e T.turned F.propagated;
    count = F.count ∙ T.count;
    sites_are = same_sites p p' F.count (omega (arith, T.count, A.sites_few)) F.sites ∙ T.sites_are;
  }
    where
      same_sites : (p p' : List ℕ) → get_or p' 0 0 ≡ get_or p 0 0 → get_or p 0 0 ≤ 512 → part 2 512 p' ≡ part 2 512 p → sites_in p' ≡ sites_in p
      same_sites p p' c few s =
          ap (λ (n : ℕ). part 2 n p') c ∙ part_shorter 2 (get_or p 0 0) 512 p' few ∙ ap (take (get_or p 0 0)) s ∙ sym (part_shorter 2 (get_or p 0 0) 512 p few)

  pub turned_to_ends : {p : List ℕ} {i : ℕ} → i ≡ length (allocs w) → TurnedTo w sites links causes p i → PointerStage w p
  turned_to_ends e T = record {
    well_formed = A.well_formed;
    long = T.long;
    few = omega (arith, T.count, A.sites_few);
    sites_are = T.sites_are ∙ A.sites_are;
    discovered = turned_ends w A.well_formed A.bases_differ rows e T.turned;
  }

-- before the bases are owned
pub owners_empty : {sites p : List ℕ} → SitesStored sites p → owners_in p ≡ replicate 512 0
owners_empty {p = p} S = part_drop 514 514 512 p (omega arith) ∙ cleared_part 0 512 1537 (drop 514 p) (omega arith) S.empty

-- there are no more allocations than sites fit
pub allocations_few : {w p : List ℕ} → PointerStage w p → length (allocs w) ≤ 512
allocations_few {w} {p} S = omega (arith, sym (sites_long w) ∙ sym (ap length S.sites_are), part_most 2 (get_or p 0 0) p, S.few)
