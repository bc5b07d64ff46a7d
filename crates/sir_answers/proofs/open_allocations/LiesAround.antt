-- An operation lies in an interval of a local exactly where the local is live before it or after it.
use mathlib.Core.Path.{◌≡◌, refl, sym, ◌∙◌, ap}
use mathlib.Core.Logic.{◌↔◌, ◌⊎◌, inl, inr}
use mathlib.Core.Bool.{true, not, ◌||◌}
use Prim.Native.Nat.{ℕ, zero, suc, ◌+◌, ◌-◌, ◌≤◌, ◌<◌}
use native.Mathlib.Omega.{arith}
use native.Mathlib.Decide.{ℕ_discrete}
use mathlib.Core.List.{List}
use lib.Dec.{eqb}
use borrow.Author.Tests.{eqb-false, ne_eqb, not-true}
use Rattle.plank_core.specs.Lists.{count, range, mem, ◌∈◌}
use Rattle.plank_core.specs.laws.Lists.{or_true_left, or_true_right, or_cases, mem_range}
use Rattle.sir_data.specs.Records.{locals, ops, ins, outs, block_word}
use Rattle.sir_data.specs.inner.WellFormed.{WellFormed}
use Rattle.sir_analyses.specs.Order.{blocks_rpo}
use Rattle.sir_analyses.specs.Liveness.{Set, has, end_reads, exit_set, block_end, Scan, close, block_intervals, intervals}
use Rattle.sir_analyses.specs.Walk.{Lies}
use Rattle.sir_analyses.proofs.claims.order.OrderProof.{blocks_below}
use Rattle.sir_analyses.proofs.claims.liveness.LivenessProof.{exit_size}
use Rattle.sir_analyses.proofs.claims.lifetimes.Merging.{Spans, nothing_spans, lies_spans, spans_lies}
use Rattle.sir_analyses.proofs.claims.lifetimes.Scans.{scan, live_in}
use Rattle.sir_analyses.proofs.claims.lifetimes.OpenProof.{lies_bind_in, local_out}
use Rattle.sir_analyses.proofs.merged_intervals.SweepSteps.{Ahead, end_ahead, Covers, inside, onwards, Step, same, opens, ends, turns, step_ahead, step_out, step_old, step_new, start_out, start_old, close_covers, scan_step}
use Rattle.sir_analyses.proofs.merged_intervals.SweepProof.{scan_live}
use Rattle.sir_answers.specs.inner.LiveAround.{live_ahead, is_around}

-- ---- the scan of a local in a block

module _ (w : List ℕ) (b v : ℕ) where
  abbrev scanned : ℕ → ℕ → Scan
  scanned p k = scan w b v (count p k)

  steps : (p k : ℕ) → Step b p (scanned (suc p) k) (scanned p (suc k))
  steps p k = (scan_step b p (mem v (outs w p)) (mem v (ins w p)) (scanned (suc p) k)).0

  ahead : (k p : ℕ) → p + k ≤ block_end → Ahead p (scanned p k)
  ahead zero p h = end_ahead p (has (exit_set w b) v || mem v (end_reads w b)) (omega arith)
  ahead (suc k) p h = step_ahead (steps p k) (ahead k (suc p) (omega arith))

  -- what is closed starts after p
  closed_behind : {d m n : ℕ} (k p : ℕ) → Spans d m n (scanned p k).closed → p < m
  closed_behind zero p s = absurd (nothing_spans s)
  closed_behind {d} {m} {n} (suc k) p s = go (steps p k) (closed_behind k (suc p))
    where
      more : (Spans d m n (scanned (suc p) k).closed → suc p < m) → Spans d m n (scanned (suc p) k).closed ⊎ ((b ≡ d) × (suc p ≤ m) × (n ≤ (scanned (suc p) k).open')) → p < m
      more f (inl t) = omega (arith, f t)
      more f (inr t) = omega arith

      go : Step b p (scanned (suc p) k) (scanned p (suc k)) → (Spans d m n (scanned (suc p) k).closed → suc p < m) → p < m
      go (same e c) f = more f (inl (rw c at s))
      go (opens z e c) f = more f (inl (rw c at s))
      go (ends z e em) f = more f (em.out s)
      go (turns z e em) f = more f (em.out s)

  -- an end is open before operation o, or after it
  abbrev Around : ℕ → ℕ → Type 0
  Around o j = (¬ ((scanned o (suc j)).open' ≡ 0)) ⊎ (¬ ((scanned (suc o) j).open' ≡ 0))

  module _ (o j : ℕ) (fits : o + suc j ≤ block_end) where
    here_out : Covers b b (o + 1) (o + 1) o (scanned o (suc j)) → Around o j
    here_out c = go (step_out (omega arith) (steps o j) c)
      where
        go : Covers b b (o + 1) (o + 1) (suc o) (scanned (suc o) j) ⊎ (¬ ((scanned o (suc j)).open' ≡ 0) × ((b ≡ b) × (o ≤ o + 1) × (o + 1 ≤ suc o))) → Around o j
        go (inl (inside s)) = absurd (omega (arith, closed_behind j (suc o) s))
        go (inl (onwards q h k l)) = inr h
        go (inr x) = inl x.0

    here_in : Around o j → Covers b b (o + 1) (o + 1) o (scanned o (suc j))
    here_in (inl h) = step_new (omega arith) (steps o j) (ahead j (suc o) (omega arith)) h (refl, omega arith, omega arith)
    here_in (inr h) = step_old (omega arith) (steps o j) (go (ahead j (suc o) (omega arith)))
      where
        go : Ahead (suc o) (scanned (suc o) j) → Covers b b (o + 1) (o + 1) (suc o) (scanned (suc o) j)
        go (inl z) = absurd (h z)
        go (inr g) = onwards refl h (omega arith) (omega arith)

    -- m operations from p on, o among them, and j after o
    before_out : (m p : ℕ) → p ≤ o → p + m ≡ o + suc j → Covers b b (o + 1) (o + 1) p (scanned p m) → Around o j
    before_out zero p l e c = absurd (omega arith)
    before_out (suc m) p l e c = by_cases (ℕ_discrete p o) (before_out m (suc p))
      where
        go : p < o → Covers b b (o + 1) (o + 1) (suc p) (scanned (suc p) m) ⊎ (¬ ((scanned p (suc m)).open' ≡ 0) × ((b ≡ b) × (p ≤ o + 1) × (o + 1 ≤ suc p)))
            → (suc p ≤ o → suc p + m ≡ o + suc j → Covers b b (o + 1) (o + 1) (suc p) (scanned (suc p) m) → Around o j) → Around o j
        go k (inl x) f = f (omega arith) (omega arith) x
        go k (inr x) f = absurd (omega arith)

        by_cases : Dec (p ≡ o) → (suc p ≤ o → suc p + m ≡ o + suc j → Covers b b (o + 1) (o + 1) (suc p) (scanned (suc p) m) → Around o j) → Around o j
        by_cases (yes q) f = let k : m ≡ j = omega arith in here_out (rw (q, k) at c)
        by_cases (no q) f = go (omega arith) (step_out (omega arith) (steps p m) c) f

    before_in : (m p : ℕ) → p ≤ o → p + m ≡ o + suc j → Around o j → Covers b b (o + 1) (o + 1) p (scanned p m)
    before_in zero p l e r = absurd (omega arith)
    before_in (suc m) p l e r = by_cases (ℕ_discrete p o) (before_in m (suc p))
      where
        by_cases : Dec (p ≡ o) → (suc p ≤ o → suc p + m ≡ o + suc j → Around o j → Covers b b (o + 1) (o + 1) (suc p) (scanned (suc p) m)) → Covers b b (o + 1) (o + 1) p (scanned p (suc m))
        by_cases (yes q) f = let k : m ≡ j = omega arith in rw (q, k) (here_in r)
        by_cases (no q) f = step_old (omega arith) (steps p m) (f (omega arith) (omega arith) r)

    -- in the whole block, which starts at p
    block_out : (m p : ℕ) → p ≤ o → p + m ≡ o + suc j → Spans b (o + 1) (o + 1) (close b 0 (scanned p m)).closed → Around o j
    block_out m p l e s = go (start_out {p = p} (omega arith) ((close_covers 0 (scanned p m)).0 s))
      where
        go : Covers b b (o + 1) (o + 1) p (scanned p m) ⊎ (¬ ((scanned p m).open' ≡ 0) × (b ≡ b) × (o + 1 < p)) → Around o j
        go (inl c) = before_out m p l e c
        go (inr x) = absurd (omega arith)

    block_in : (m p : ℕ) → p ≤ o → p + m ≡ o + suc j → Around o j → Spans b (o + 1) (o + 1) (close b 0 (scanned p m)).closed
    block_in m p l e r = (close_covers 0 (scanned p m)).1 (start_old (omega arith) (before_in m p l e r))

-- ---- the whole

module _ (w : List ℕ) (good : WellFormed w) where
  module _ (b o : ℕ) (mb : b ∈ blocks_rpo w) (mo : o ∈ ops w b) where
    -- how many operations of b are after o
    abbrev rest : ℕ
    rest = block_word w b 5 - suc o

    held : (block_word w b 4 ≤ o) × (o < block_word w b 5) × (o + suc rest ≤ block_end) × (block_word w b 4 + (block_word w b 5 - block_word w b 4) ≡ o + suc rest)
    held =
        let k = mem_range o (block_word w b 4) (block_word w b 5) mo in
        let r = good.in_range.ops_range b (blocks_below w good b mb) in
        (k.0, k.1, omega (arith, good.sized.operations_most), omega arith)

    -- the locals that are live before o, and after it
    abbrev set_before : Set
    set_before = live_ahead w b (range o (block_word w b 5))

    abbrev set_after : Set
    set_after = live_ahead w b (range (suc o) (block_word w b 5))

    before_is : set_before ≡ live_in w b (count o (suc rest))
    before_is = let k : block_word w b 5 - o ≡ suc rest = omega (arith, held) in ap (λ (n : ℕ). live_in w b (count o n)) k

    -- v is live before o, or after it
    abbrev Near : ℕ → Type 0
    Near v = (has set_before v ≡ true) ⊎ (has set_after v ≡ true)

    open_live : (v : ℕ) (os : List ℕ) → v < locals w → ¬ ((scan w b v os).open' ≡ 0) → has (live_in w b os) v ≡ true
    open_live v os l h = sym (scan_live w b v os (rw (exit_size w good b (blocks_below w good b mb)) l)) ∙ ap not (ne_eqb (scan w b v os).open' 0 h)

    live_open : (v : ℕ) (os : List ℕ) → v < locals w → has (live_in w b os) v ≡ true → ¬ ((scan w b v os).open' ≡ 0)
    live_open v os l h = eqb-false (scan w b v os).open' 0 (not-true (eqb (scan w b v os).open' 0) (scan_live w b v os (rw (exit_size w good b (blocks_below w good b mb)) l) ∙ h))

    around_near : (v : ℕ) → v < locals w → Around w b v o rest → Near v
    around_near v l (inl h) = inl (ap (λ (s : Set). has s v) before_is ∙ open_live v (count o (suc rest)) l h)
    around_near v l (inr h) = inr (open_live v (count (suc o) rest) l h)

    near_around : (v : ℕ) → v < locals w → Near v → Around w b v o rest
    near_around v l (inl h) = inl (live_open v (count o (suc rest)) l (ap (λ (s : Set). has s v) (sym before_is) ∙ h))
    near_around v l (inr h) = inr (live_open v (count (suc o) rest) l h)

    near_told : (v : ℕ) → Near v → is_around w b o v ≡ true
    unfolding is_around
    near_told v (inl h) = or_true_left (has set_before v) (has set_after v) h
    near_told v (inr h) = or_true_right (has set_before v) (has set_after v) h

    told_near : (v : ℕ) → is_around w b o v ≡ true → Near v
    unfolding is_around
    told_near v t = or_cases (has set_before v) (has set_after v) t

    -- operation o of block b lies in an interval of v exactly where v is live before it or after it
    pub local_lies : (v : ℕ) → v < locals w → Lies b o (intervals w v) ↔ (is_around w b o v ≡ true)
    local_lies v l = (λ k. near_told v (out k), λ t. back (told_near v t))
      where
        out : Lies b o (intervals w v) → Near v
        out k = around_near v l (block_out w b v o rest held.2 (block_word w b 5 - block_word w b 4) (block_word w b 4) held.0 held.3 (lies_spans (local_out w v k).1))

        back : Near v → Lies b o (intervals w v)
        back k =
            lies_bind_in (λ (c : ℕ). block_intervals w (exit_set w c) v c) mb
            (spans_lies (block_in w b v o rest held.2 (block_word w b 5 - block_word w b 4) (block_word w b 4) held.0 held.3 (near_around v l k)))
