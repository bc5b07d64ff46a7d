-- Linking tells exactly the meetings: where nothing but linking marks, those are marked whose reach overlaps that of another.
use mathlib.Core.Path.{◌≡◌, refl, ap}
use mathlib.Core.Bool.{Bool, true, false}
use Prim.Native.Nat.{ℕ, zero, suc, ◌+◌, ◌≤◌, ◌<◌}
use native.Mathlib.Omega.{arith}
use mathlib.Core.List.Memᴰ
use mathlib.Core.List.{List, [], ◌∷◌, map}
use lib.ListN.{length}
use Rattle.plank_core.specs.Lists.{foldl, count, upto}
use Rattle.plank_core.specs.laws.Lists.{none, same_tests, any_mem, any_out, length_none}
use Rattle.sir_data.specs.Records.{locals}
use Rattle.sir_data.specs.inner.WellFormed.{WellFormed}
use Rattle.sir_analyses.specs.Liveness.{has, members}
use Rattle.sir_analyses.specs.Allocation.{allocs, alloc_at, rule12, next, reach, reached_by_other}
use Rattle.sir_analyses.specs.Propagation.{State, link_local, start}
use Rattle.sir_analyses.specs.Source.{pop}
use Rattle.sir_analyses.specs.Flags.{meeting_flag, meet_drain, meet_turn, meetings, Overlaps}
use Rattle.sir_analyses.specs.inner.Discovery.{zeros}
use Rattle.sir_analyses.proofs.SetLaws.{members_in, members_out}
use Rattle.sir_analyses.proofs.claims.marks.Marks.{other_reaches, reached_by_other_lem, mark_rule}
use Rattle.sir_analyses.proofs.claims.source.Steps.{zeros_most, base_of, MarkedBy, harmed, met, Inv}
use Rattle.sir_analyses.proofs.claims.source.Marks.{popped, followed, begun, follow_step, started, ended_exact}

-- nothing harms
abbrev pub harmless : ℕ → Bool
harmless v = false

module _ (w : List ℕ) (good : WellFormed w) where
  abbrev n : ℕ
  n = length (allocs w)

  -- ---- the flag

  pub meeting_sound : (a : ℕ) → a < n → meeting_flag w a ≡ true → Overlaps w a
  meeting_sound a h t =
      let p = any_out (reached_by_other w a) (members (reach w (alloc_at w a))) t in
      let q = other_reaches w good a p.0 p.2 in
      record { local = p.0; other = q.0; known = q.1; another = q.2; reached = ((mark_rule w good).reach_exact a p.0 h).0 (members_out (reach w (alloc_at w a)) p.1); reached_too = q.3 }

  pub meeting_complete : (a : ℕ) → a < n → Overlaps w a → meeting_flag w a ≡ true
  meeting_complete a h k =
      any_mem (reached_by_other w a) (members_in (reach w (alloc_at w a)) k.local (((mark_rule w good).reach_exact a k.local h).1 k.reached))
      (reached_by_other_lem w good a k.local k.other k.known k.another k.reached_too)

  by_meeting : {a : ℕ} → MarkedBy w harmless a → Overlaps w a
  by_meeting (harmed r t) = none false t refl
  by_meeting (met {v} {b} r l d q) = record { local = v; other = b; known = l; another = d; reached = r; reached_too = q }

  -- once nothing is left to be followed, the marks are the meetings
  pub ended_meetings : {last : ℕ} (s : State) → Inv w harmless last s [] → s.work ≡ [] → (a : ℕ) → a < length (allocs w) → has s.marks a ≡ meeting_flag w a
  ended_meetings s I e a h =
      let exact = ended_exact w good harmless s I e a h in
      same_tests (has s.marks a) (meeting_flag w a) (λ t. meeting_complete a h (by_meeting (exact.0 t))) (λ t. let k = meeting_sound a h t in exact.1 (met k.reached k.known k.another k.reached_too))

  -- ---- the loops

  drain_step : {a : ℕ} {more : List ℕ} (m : ℕ) (s : State) → Inv w harmless a s more → a < n → zeros s.owner + length s.work ≤ m → Inv w harmless a (meet_drain m w a s) more × ((meet_drain m w a s).work ≡ [])
  drain_step zero s I less h = (I, length_none s.work (omega arith))
  drain_step {a} {more} (suc m) s I less h = go s.work refl (drain_step m)
    where
      go : (vs : List ℕ) → s.work ≡ vs → ((t : State) → Inv w harmless a t more → a < n → zeros t.owner + length t.work ≤ m → Inv w harmless a (meet_drain m w a t) more × ((meet_drain m w a t).work ≡ []))
          → Inv w harmless a (pop (λ v t. meet_drain m w a (foldl (link_local a) t (next w v))) vs s) more × ((pop (λ v t. meet_drain m w a (foldl (link_local a) t (next w v))) vs s).work ≡ [])
      go [] e f = (I, e)
      go (v ∷ vs) e f =
          let t : State = record { owner = s.owner; marks = s.marks; work = vs } in
          let S = follow_step w good harmless (popped w harmless I e) less (I.mine v (rw e (Memᴰ.head refl))).1 (next w v) (λ y k. k) false (λ k. k) in
          f (foldl (link_local a) t (next w v)) (followed w harmless I e S (λ y k. k) refl) less (omega (arith, S.grown.cost, ap length e))

  -- allocations k and on, m of them, have their turns
  turns : {b : ℕ} (k m : ℕ) (s : State) → Inv w harmless b s (map (base_of w) (count k m)) → s.work ≡ [] → k + m ≡ n
      → (a : ℕ) × Inv w harmless a (foldl (meet_turn w) s (count k m)) [] × ((foldl (meet_turn w) s (count k m)).work ≡ [])
  turns {b} k zero s I e h = (b, I, e)
  turns {b} k (suc m) s I e h =
      let less : k < n = omega arith in
      let d = drain_step (suc (locals w)) (record { owner = s.owner; marks = s.marks; work = base_of w k ∷ [] }) (begun w harmless k I e less) less (omega (arith, zeros_most s.owner, I.owner_length)) in
      turns (suc k) m (meet_turn w s k) d.0 d.1 (omega arith)

  -- linking tells the meetings
  pub meetings_told : rule12 w ≡ false → (a : ℕ) → a < length (allocs w) → has (meetings w) a ≡ meeting_flag w a
  meetings_told twelve =
      let end = turns 0 n (start w) (started w good harmless twelve) refl (omega arith) in
      ended_meetings (foldl (meet_turn w) (start w) (upto n)) end.1 end.2
