-- The work list, run to its end: what the arrays show on the way.
use mathlib.Core.Path.{◌≡◌, refl, ap, ◌∙◌}
use mathlib.Core.List.{List, [], ◌∷◌, ◌++◌, reverse}
use Prim.Native.Nat.{ℕ, suc, ◌-◌, ◌≤◌, ◌<◌}
use native.Mathlib.Omega.{arith}
use lib.ListN.{length, get_or, set, take, length-set}
use lib.Seq.{get_or-set_same, take-suc}
use Rattle.plank_core.specs.Lists.{◌∈◌}
use Rattle.plank_core.specs.laws.Loops.{reverse_snoc}
use Rattle.sir_analyses.specs.inner.Following.{Machine, follow_local, working, Runs, begun, more}
use Rattle.sir_analyses.specs.inner.Discovery.{Room, ShowsState, StepTaken, SameWidth, links_in, used_in, Reaches, Propagated}
use Rattle.sir_analyses.proofs.claims.source.Steps.{zeros_most}
use Rattle.sir_analyses.proofs.allocation_liveness.Linking.{width_then, links_width}
use Rattle.plank_core.specs.laws.Prefixes.{taken_set}

-- the latest on the work list
last_worked : (work : List ℕ) (n : ℕ) → 0 < n → n ≤ length work → reverse (take n work) ≡ get_or work (n - 1) 0 ∷ reverse (take (n - 1) work)
last_worked work n h l =
    let e : n ≡ suc (n - 1) = omega arith in
    ap (λ (k : ℕ). reverse (take k work)) e ∙ ap reverse (take-suc work (n - 1) 0 (omega arith)) ∙ reverse_snoc (take (n - 1) work) (get_or work (n - 1) 0)

pub room_less : {owner flags work : List ℕ} {n : ℕ} → Room owner flags work n → Room owner flags work (n - 1)
room_less R = record {
  owner_long = R.owner_long;
  flags_long = R.flags_long;
  work_long = R.work_long;
  owner_small = R.owner_small;
  work_small = λ k h. R.work_small k (omega arith);
  room = omega (arith, R.room);
}

pub room_base : {owner flags work : List ℕ} {v : ℕ} → Room owner flags work 0 → v < 512 → Room owner flags (set work 0 v) 1
room_base {owner} {flags} {work} {v} R h = record {
  owner_long = R.owner_long;
  flags_long = R.flags_long;
  work_long = length-set work 0 v ∙ R.work_long;
  owner_small = R.owner_small;
  work_small = λ k l. let e : k ≡ 0 = omega arith in rw (e, get_or-set_same work 0 v 0 (omega (arith, R.work_long))) h;
  room = omega (arith, zeros_most owner, R.owner_long);
}

-- a state on the way from m
pub record Going (links causes : List ℕ) (a : ℕ) (m : Machine) (owner flags work : List ℕ) (n : ℕ) : Type 0 where
  pub machine : Machine
  pub runs : Runs (links_in links) (used_in causes) a m machine
  pub shown : ShowsState owner flags work n machine
  pub width : SameWidth m.state machine.state

-- wherever the arrays began, they show a state on the way from there
abbrev pub AllGoing : (links causes : List ℕ) (a : ℕ) (owner₀ flags₀ work₀ owner flags work : List ℕ) (n : ℕ) → Type 0
AllGoing links causes a owner₀ flags₀ work₀ owner flags work n =
    (m : Machine) → ((u x : ℕ) → u < 512 → x ∈ links_in links u → x < length m.state.owner) → a < length m.state.marks → ShowsState owner₀ flags₀ work₀ 1 m → Going links causes a m owner flags work n

pub going_starts : (links causes : List ℕ) (a : ℕ) (owner flags work : List ℕ) → AllGoing links causes a owner flags work owner flags work 1
going_starts links causes a owner flags work m f l S = record { machine = m; runs = begun; shown = S; width = record { owner_wide = refl; marks_wide = refl } }

pub going_on : {links causes : List ℕ} {a : ℕ} {owner₀ flags₀ work₀ owner flags work owner' flags' work' : List ℕ} {n r : ℕ} → 0 < n → Room owner flags work n
    → AllGoing links causes a owner₀ flags₀ work₀ owner flags work n
    → StepTaken (links_in links (get_or work (n - 1) 0)) a (follow_local (links_in links (get_or work (n - 1) 0)) (used_in causes (get_or work (n - 1) 0)) a) owner flags work (n - 1) owner' flags' work' r
    → AllGoing links causes a owner₀ flags₀ work₀ owner' flags' work' r
going_on {links} {causes} {a} {owner = owner} {flags = flags} {work = work} {n = n} h R G P m f l S =
    let g = G m f l S in
    let t = g.machine in
    let u = get_or work (n - 1) 0 in
    let vs = reverse (take (n - 1) work) in
    let e : t.state.work ≡ u ∷ vs = g.shown.work_is ∙ last_worked work n h (omega (arith, R.room, R.work_long)) in
    let S' : ShowsState owner flags work (n - 1) (working vs t) = record { owner_is = g.shown.owner_is; owner_known = g.shown.owner_known; flags_are = g.shown.flags_are; work_is = refl } in
    let w = links_width a (links_in links u) (working vs t).state in
    record {
      machine = follow_local (links_in links u) (used_in causes u) a (working vs t);
      runs = more g.runs e;
      shown = P.same (working vs t) (λ x k. rw g.width.owner_wide (f u x (R.work_small (n - 1) (omega arith)) k)) (rw g.width.marks_wide l) S';
      width = width_then g.width (record { owner_wide = w.owner_wide; marks_wide = w.marks_wide });
    }

pub going_ends : {links causes : List ℕ} {a v : ℕ} {owner flags work owner' flags' work' : List ℕ} {n : ℕ} → n ≡ 0 → length work ≡ 513 → Room owner' flags' work' n
    → AllGoing links causes a owner flags (set work 0 v) owner' flags' work' n → Propagated links causes a v owner flags work owner' flags' work'
going_ends {links} {causes} {a} {v} {owner} {flags} {work} {owner'} {flags'} {work'} {n} z long R G = record { room = rw z at R; same = reaches }
  where
    reaches : (m : Machine) → ((u x : ℕ) → u < 512 → x ∈ links_in links u → x < length m.state.owner) → a < length m.state.marks → ShowsState owner flags work 0 m → Reaches links causes a v m owner' flags' work'
    reaches m f l S =
        let e : take 1 (set work 0 v) ≡ take 0 work ++ (v ∷ []) = taken_set work 0 v (omega arith) in
        let S₀ : ShowsState owner flags (set work 0 v) 1 (working (v ∷ []) m) = record { owner_is = S.owner_is; owner_known = S.owner_known; flags_are = S.flags_are; work_is = rw e refl } in
        let g = G (working (v ∷ []) m) f l S₀ in
        let shown : ShowsState owner' flags' work' 0 g.machine = rw z at g.shown in
        record { machine = g.machine; propagates = record { runs = g.runs; ended = shown.work_is }; shown = shown; width = record { owner_wide = g.width.owner_wide; marks_wide = g.width.marks_wide } }
