-- Where each local is followed at once, with a list of all that it carries and the causes for which it is used: the owners are those of
-- the definition, the flags those of the rule, and the owners tell the reach of each allocation that is not marked.
use mathlib.Core.Path.{◌≡◌, refl, sym, ◌∙◌, ap, ap₂}
use mathlib.Core.Logic.{◌⊎◌, inl, inr}
use mathlib.Core.Bool.{Bool, true, false, ◌&&◌, ◌||◌, cond, or-false}
use Prim.Native.Nat.{ℕ, suc, ◌+◌, ◌-◌, ◌≤◌, ◌<◌}
use native.Mathlib.Omega.{arith}
use native.Mathlib.Decide.{ℕ_discrete}
use mathlib.Core.List.Memᴰ
use mathlib.Core.List.{List, [], ◌∷◌, map}
use lib.ListN.{length, get_or, set}
use lib.Seq.{get_or-set_other}
use lib.Dec.{eqb}
use borrow.Author.Tests.{eqb-false, eq-eqb, ne_eqb}
use Rattle.plank_core.specs.Lists.{any, mem, count, ◌∈◌}
use Rattle.plank_core.specs.laws.Lists.{same_tests, any_mem, any_out, foldl_keeps, mem_in, in_mem}
use Rattle.sir_data.specs.Records.{locals}
use Rattle.sir_data.specs.inner.WellFormed.{WellFormed}
use Rattle.sir_analyses.specs.Liveness.{has, add_all, members}
use Rattle.sir_analyses.specs.Allocation.{allocs, alloc_at, rule12, next, reach, marked, spread, unowned, link, owners}
use Rattle.sir_analyses.specs.Propagation.{State, link_local}
use Rattle.sir_analyses.specs.Claims.{Reached, itself, linked}
use Rattle.sir_analyses.specs.Flags.{owners_before, first_used, escape_flag, meeting_flag, flag_bits, flags_word}
use Rattle.sir_analyses.specs.inner.Pointers.{used_by}
use Rattle.sir_analyses.specs.inner.Following.{Machine, Runs, begun, more, Propagates, Followed, none as nobody, next as another}
use Rattle.sir_analyses.specs.inner.Discovery.{flags_at}
use Rattle.sir_analyses.proofs.SetLaws.{members_in, members_out}
use Rattle.sir_analyses.proofs.claims.marks.Marks.{carried_link, link_less, next_less, base_less}
use Rattle.sir_analyses.proofs.claims.source.Steps.{base_of, Inv}
use Rattle.sir_analyses.proofs.claims.source.Marks as Marking
use Rattle.sir_analyses.proofs.claims.source.Owners as Owning
use Rattle.sir_analyses.proofs.claims.source.Intervals.{reach_owned}
use Rattle.sir_analyses.proofs.claims.flags.Meetings.{harmless, ended_meetings}
use Rattle.sir_analyses.proofs.claims.flags.Flags.{owners_next, owners_length}

-- ---- the locals that were followed

module _ {links : ℕ → List ℕ} {used : ℕ → ℕ → Bool} {a : ℕ} where
  trail : {m m' : Machine} → Runs links used a m m' → List ℕ
  trail begun = []
  trail (more {v = v} R e) = v ∷ trail R

  -- they flag the allocation, and no other
  trail_flags : {m m' : Machine} (R : Runs links used a m m') (cause c : ℕ) → m'.flagged cause c ≡ (m.flagged cause c || (eqb c a && any (λ v. used v cause) (trail R)))
  unfolding trail
  trail_flags {m} begun cause c = go (m.flagged cause c) (eqb c a)
    where
      go : (x e : Bool) → x ≡ (x || (e && false))
      go true e = refl
      go false true = refl
      go false false = refl
  trail_flags {m} (more {v = v} R e) cause c =
      ap (λ (t : Bool). t || (eqb c a && used v cause)) (trail_flags R cause c) ∙ go (m.flagged cause c) (eqb c a) (used v cause) (any (λ v. used v cause) (trail R))
    where
      go : (x e u t : Bool) → ((x || (e && t)) || (e && u)) ≡ (x || (e && (u || t)))
      go true e u t = refl
      go false true true true = refl
      go false true true false = refl
      go false true false true = refl
      go false true false false = refl
      go false false u t = refl

-- v, and what has an owner that it had not before, is still to be followed or was
module _ (o : List ℕ) (v : ℕ) where
  record Pending (owner work past : List ℕ) : Type 0 where
    pending : (x : ℕ) → (x ≡ v) ⊎ ((get_or o x 0 ≡ 0) × (¬ (get_or owner x 0 ≡ 0))) → (x ∈ work) ⊎ (x ∈ past)

  link_pending : {past : List ℕ} (a : ℕ) (s : State) (y : ℕ) → Pending s.owner s.work past → Pending (link_local a s y).owner (link_local a s y).work past
  link_pending {past} a s y P = go (eqb (get_or s.owner y 0) 0) refl
    where
      now : List ℕ
      now = set s.owner y (suc a)

      later : {x : ℕ} → (x ∈ s.work) ⊎ (x ∈ past) → (x ∈ (y ∷ s.work)) ⊎ (x ∈ past)
      later (inl k) = inl (Memᴰ.tail k)
      later (inr k) = inr k

      had : (x : ℕ) → ¬ (x ≡ y) → ¬ (get_or now x 0 ≡ 0) → ¬ (get_or s.owner x 0 ≡ 0)
      had x d k z = k (get_or-set_other s.owner y x (suc a) 0 d ∙ z)

      new : (x : ℕ) → Dec (x ≡ y) → (x ≡ v) ⊎ ((get_or o x 0 ≡ 0) × (¬ (get_or now x 0 ≡ 0))) → (x ∈ (y ∷ s.work)) ⊎ (x ∈ past)
      new x (yes d) k = inl (Memᴰ.head d)
      new x (no d) (inl q) = later (P.pending x (inl q))
      new x (no d) (inr q) = later (P.pending x (inr (q.0, had x d q.1)))

      old : ¬ (get_or s.owner y 0 ≡ 0) → (x : ℕ) → Dec (x ≡ y) → (x ≡ v) ⊎ ((get_or o x 0 ≡ 0) × (¬ (get_or now x 0 ≡ 0))) → (x ∈ s.work) ⊎ (x ∈ past)
      old n x d (inl q) = P.pending x (inl q)
      old n x (yes d) (inr q) = P.pending x (inr (q.0, rw d n))
      old n x (no d) (inr q) = P.pending x (inr (q.0, had x d q.1))

      after : Bool → State
      after t =
          cond t
          (record { owner = now; marks = s.marks; work = y ∷ s.work })
          (record { owner = now; marks = cond (eqb (get_or s.owner y 0) (suc a)) s.marks (add_all s.marks (a ∷ (get_or s.owner y 0 - 1) ∷ [])); work = s.work })

      go : (t : Bool) → eqb (get_or s.owner y 0) 0 ≡ t → Pending (after t).owner (after t).work past
      go true e = record { pending = λ x. new x (ℕ_discrete x y) }
      go false e = record { pending = λ x. old (eqb-false (get_or s.owner y 0) 0 e) x (ℕ_discrete x y) }

  runs_pending : {links : ℕ → List ℕ} {used : ℕ → ℕ → Bool} {a : ℕ} {m m' : Machine} → Pending m.state.owner m.state.work [] → (R : Runs links used a m m') → Pending m'.state.owner m'.state.work (trail R)
  unfolding trail
  runs_pending P begun = P
  runs_pending {links} {used} {a} P (more {t} {v = u} {vs} R e) =
      let Q = runs_pending P R in
      foldl_keeps (λ (s : State). Pending s.owner s.work (u ∷ trail R)) (link_local a) (links u) (λ s y k. link_pending a s y)
      (record { owner = t.state.owner; marks = t.state.marks; work = vs })
      (record { pending = λ x k. popped x (Q.pending x k) })
    where
      at_work : (x : ℕ) → x ∈ (u ∷ vs) → (x ∈ vs) ⊎ (x ∈ (u ∷ trail R))
      at_work x (Memᴰ.head q) = inr (Memᴰ.head q)
      at_work x (Memᴰ.tail k) = inl k

      popped : (x : ℕ) → (x ∈ t.state.work) ⊎ (x ∈ trail R) → (x ∈ vs) ⊎ (x ∈ (u ∷ trail R))
      popped x (inl k) = at_work x (rw e at k)
      popped x (inr k) = inr (Memᴰ.tail k)

module _ (w : List ℕ) (good : WellFormed w) where
  reached_less : {a v : ℕ} → a < length (allocs w) → Reached w a v → v < locals w
  reached_less {a} h (itself e) = rw e (base_less w good a h)
  reached_less h (linked r mx mv) = link_less w good (carried_link w mx mv)

  onward_less : {a v : ℕ} {o : List ℕ} → a < length (allocs w) → Owning.Onward w o (base_of w a) v → v < locals w
  onward_less {a} h (Owning.itself e) = rw e (base_less w good a h)
  onward_less {a} {v} h (Owning.onwards {u} f m z) = next_less w good u v m

module _ (w : List ℕ) (good : WellFormed w) (twelve : rule12 w ≡ false) (links : ℕ → List ℕ) (used : ℕ → ℕ → Bool)
    (links_exact : (u x : ℕ) → u < 512 → mem x (links u) ≡ mem x (next w u))
    (used_exact : (cause u : ℕ) → cause < 2 → u < 512 → used u cause ≡ used_by w cause u) where
  abbrev n : ℕ
  n = length (allocs w)

  -- links tells the same as the definition of each local
  links_next : {u : ℕ} → u < locals w → (x : ℕ) → x ∈ links u → x ∈ next w u
  links_next {u} l x m = mem_in x (next w u) (sym (links_exact u x (omega (arith, good.sized.locals_most))) ∙ in_mem x m)

  next_links : {u : ℕ} → u < locals w → (x : ℕ) → x ∈ next w u → x ∈ links u
  next_links {u} l x m = mem_in x (links u) (links_exact u x (omega (arith, good.sized.locals_most)) ∙ in_mem x m)

  -- ---- meetings

  runs_meetings : {a : ℕ} {rest : List ℕ} {m m' : Machine} → a < n → Inv w harmless a m.state rest → Runs links used a m m' → Inv w harmless a m'.state rest
  runs_meetings less I begun = I
  runs_meetings less I (more {t} {v} {vs} R e) =
      let J = runs_meetings less I R in
      let r = (J.mine v (rw e (Memᴰ.head refl))).1 in
      let l = reached_less w good less r in
      Marking.followed w harmless J e (Marking.follow_step w good harmless (Marking.popped w harmless J e) less r (links v) (links_next l) false (λ k. k)) (next_links l) refl

  -- after k allocations the bases of the other j are still to be followed
  phases : {k : ℕ} {m : Machine} (j : ℕ) → Followed w links used k m → k + j ≡ n → (b : ℕ) × Inv w harmless b m.state (map (base_of w) (count k j)) × (m.state.work ≡ [])
  phases j nobody h = let z : j ≡ n = omega arith in (0, rw z (Marking.started w good harmless twelve), refl)
  phases j (another {a} F P) h =
      let p = phases (suc j) F (omega arith) in
      let less : a < n = omega arith in
      (a, runs_meetings less (Marking.begun w harmless a p.1 p.2 less) P.runs, P.ended)

  followed_meetings : {m : Machine} → Followed w links used (length (allocs w)) m → (a : ℕ) → a < length (allocs w) → has m.state.marks a ≡ meeting_flag w a
  followed_meetings {m} F = let p = phases 0 F (omega arith) in ended_meetings w good m.state p.1 p.2

  -- ---- one turn

  runs_owners : {a : ℕ} {o : List ℕ} {m m' : Machine} → a < n → Owning.Taking w o (base_of w a) a m.state.owner m.state.work [] → Runs links used a m m' → Owning.Taking w o (base_of w a) a m'.state.owner m'.state.work []
  runs_owners less I begun = I
  runs_owners {a} {o} less I (more {t} {v} {vs} R e) =
      let J = runs_owners less I R in
      let f = J.works v (rw e (Memᴰ.head refl)) in
      let l = onward_less w good less f in
      Owning.followed w o (base_of w a) a
      (Owning.follow_step w o (base_of w a) a f (links v) false (record { owner = t.state.owner; marks = t.state.marks; work = vs }) (Owning.popped w o (base_of w a) a J e) (λ x m. let k = links_next l x m in (k, next_less w good v x k)))
      (next_links l)

  -- only what the work list comes to is followed
  trail_onward : {a x : ℕ} {o : List ℕ} {m m' : Machine} → a < n → Owning.Taking w o (base_of w a) a m.state.owner m.state.work [] → (R : Runs links used a m m') → x ∈ trail R → Owning.Onward w o (base_of w a) x
  unfolding trail
  trail_onward less I begun k = absurd (Memᴰ.not-nil k)
  trail_onward {a} {x} {o} less I (more {t} {v} R e) (Memᴰ.head q) = rw q ((runs_owners less I R).works v (rw e (Memᴰ.head refl)))
  trail_onward less I (more R e) (Memᴰ.tail k) = trail_onward less I R k

  module _ {a : ℕ} {m m' : Machine} (less : a < n) (before : m.state.owner ≡ owners_before w a) (P : Propagates links used a (base_of w a) m m') where
    abbrev o : List ℕ
    o = m.state.owner

    size : length o ≡ locals w
    size = ap length before ∙ owners_length w good a

    first : Owning.Taking w o (base_of w a) a o (base_of w a ∷ []) []
    first = Owning.first w good a less o size

    turn_owners : m'.state.owner ≡ link w o a
    turn_owners = let I = runs_owners less first P.runs in Owning.turned w good a less o size (rw P.ended at I)

    -- and all of it
    onward_trail : {x : ℕ} → Owning.Onward w o (base_of w a) x → x ∈ trail P.runs
    onward_trail {x} f = followed f
      where
        Q : Pending o (base_of w a) m'.state.owner m'.state.work (trail P.runs)
        Q = runs_pending o (base_of w a) (record { pending = λ x k. begin x k }) P.runs
          where
            begin : (x : ℕ) → (x ≡ base_of w a) ⊎ ((get_or o x 0 ≡ 0) × (¬ (get_or o x 0 ≡ 0))) → (x ∈ (base_of w a ∷ [])) ⊎ (x ∈ [])
            begin x (inl q) = inl (Memᴰ.head q)
            begin x (inr q) = absurd (q.1 q.0)

        past : {x : ℕ} → (x ∈ m'.state.work) ⊎ (x ∈ trail P.runs) → x ∈ trail P.runs
        past {x} (inl k) = absurd (Memᴰ.not-nil {a = x} (rw P.ended at k))
        past (inr k) = k

        followed : {x : ℕ} → Owning.Onward w o (base_of w a) x → x ∈ trail P.runs
        followed {x} (Owning.itself q) = past (Q.pending x (inl q))
        followed {x} (Owning.onwards f k z) =
            let y : get_or m'.state.owner x 0 ≡ suc a = ap (λ (o : List ℕ). get_or o x 0) turn_owners ∙ Owning.turn_takes w good a less o size f k in
            past (Q.pending x (inr (z, λ e. omega arith)))

    -- what flags the allocation in its turn
    turn_used : (cause : ℕ) → cause < 2 → any (λ v. used v cause) (trail P.runs) ≡ first_used w (used_by w cause) a
    turn_used cause h = same_tests (any (λ v. used v cause) (trail P.runs)) (any (used_by w cause) (members reached)) there back ∙ ap (λ (o : List ℕ). any (used_by w cause) (members (spread w (unowned w o) (base_of w a)))) before
      where
        reached : List Bool
        reached = spread w (unowned w o) (base_of w a)

        same : {x : ℕ} → Owning.Onward w o (base_of w a) x → used x cause ≡ used_by w cause x
        same {x} f = used_exact cause x h (omega (arith, onward_less w good less f, good.sized.locals_most))

        there : any (λ v. used v cause) (trail P.runs) ≡ true → any (used_by w cause) (members reached) ≡ true
        there t =
            let q = any_out (λ (v : ℕ). used v cause) (trail P.runs) t in
            let f = trail_onward less first P.runs q.1 in
            any_mem (used_by w cause) (members_in reached q.0 (Owning.onward_reached w good a less o size f)) (sym (same f) ∙ q.2)

        back : any (used_by w cause) (members reached) ≡ true → any (λ v. used v cause) (trail P.runs) ≡ true
        back t =
            let q = any_out (used_by w cause) (members reached) t in
            let f = Owning.reached_onward w good a less o size q.0 (members_out reached q.1) in
            any_mem (λ (v : ℕ). used v cause) (onward_trail f) (same f ∙ q.2)

  -- ---- all turns

  -- after k turns: the owners, and the flags of the first k allocations; the others have none
  record After (k : ℕ) (m : Machine) : Type 0 where
    owners_are : m.state.owner ≡ owners_before w k
    flags_are : (cause c : ℕ) → cause < 2 → c < k → m.flagged cause c ≡ first_used w (used_by w cause) c
    flags_none : (cause c : ℕ) → k ≤ c → m.flagged cause c ≡ false

  after_next : {a : ℕ} {m m' : Machine} → a < n → After a m → Propagates links used a (base_of w a) m m' → After (suc a) m'
  after_next {a} {m} {m'} less A P = record {
    owners_are = turn_owners less A.owners_are P ∙ ap (λ (o : List ℕ). link w o a) A.owners_are ∙ sym (owners_next w a);
    flags_are = λ cause c h l. mine cause c h l (ℕ_discrete c a);
    flags_none = λ cause c l. other cause c (λ e. omega arith) ∙ A.flags_none cause c (omega arith);
  }
    where
      other : (cause c : ℕ) → ¬ (c ≡ a) → m'.flagged cause c ≡ m.flagged cause c
      other cause c d =
          trail_flags P.runs cause c ∙ ap (λ (t : Bool). m.flagged cause c || (t && any (λ v. used v cause) (trail P.runs))) (ne_eqb c a d) ∙ or-false (m.flagged cause c)

      mine : (cause c : ℕ) → cause < 2 → c < suc a → Dec (c ≡ a) → m'.flagged cause c ≡ first_used w (used_by w cause) c
      mine cause c h l (no d) = other cause c d ∙ A.flags_are cause c h (omega arith)
      mine cause c h l (yes d) =
          trail_flags P.runs cause c
          ∙ ap₂ (λ (x e : Bool). x || (e && any (λ v. used v cause) (trail P.runs))) (A.flags_none cause c (omega arith)) (eq-eqb c a d)
          ∙ turn_used less A.owners_are P cause h
          ∙ ap (first_used w (used_by w cause)) (sym d)

  after : {k : ℕ} {m : Machine} → k ≤ n → Followed w links used k m → After k m
  after h nobody = record { owners_are = refl; flags_are = λ cause c l k. absurd (omega arith); flags_none = λ cause c k. refl }
  after h (another F P) = after_next h (after (omega arith) F) P

  -- the owners are those of the definition
  pub followed_owners : {m : Machine} → Followed w links used (length (allocs w)) m → m.state.owner ≡ owners w
  followed_owners F = (after (omega arith) F).owners_are

  -- the flags are those of the rule
  pub followed_flags : {m : Machine} → Followed w links used (length (allocs w)) m → (a : ℕ) → a < length (allocs w) → flags_at m a ≡ flags_word w a
  followed_flags {m} F a h =
      let flags = (after (omega arith) F).flags_are in
      ap (λ (e : Bool). flag_bits e (m.flagged 1 a) (has m.state.marks a)) (flags 0 a (omega arith) h)
      ∙ ap₂ (flag_bits (escape_flag w a)) (flags 1 a (omega arith) h) (followed_meetings F a h)

  -- an allocation that is not marked owns exactly its reach
  pub followed_reach : {m : Machine} → Followed w links used (length (allocs w)) m → (a v : ℕ) → a < length (allocs w) → marked w a ≡ false → has (reach w (alloc_at w a)) v ≡ eqb (get_or m.state.owner v 0) (suc a)
  followed_reach F a v h free = reach_owned w good twelve a v h free ∙ ap (λ (o : List ℕ). eqb (get_or o v 0) (suc a)) (Owning.source_owners w good ∙ sym (followed_owners F))
