-- The scan that gives a local's intervals in a block: what one operation does to it, and that what is live has an interval.
use mathlib.Core.Path.{◌≡◌, refl, sym, ◌∙◌, ap}
use mathlib.Core.Logic.{◌⊎◌, inl, inr}
use mathlib.Core.Bool.{Bool, true, false, ◌&&◌, ◌||◌, cond}
use Prim.Native.Nat.{ℕ, zero, suc, ◌-◌, ◌≤◌, ◌<◌}
use native.Mathlib.Omega.{arith}
use mathlib.Core.List.{List, [], ◌∷◌, foldr, Memᴰ}
use lib.Dec.{eqb}
use borrow.Author.Tests.{eqb-true, eqb-false, ne_eqb}
use Rattle.plank_core.specs.Lists.{count, mem, ◌∈◌, ◌∉◌}
use Rattle.plank_core.specs.laws.Lists.{or_true_left, or_true_right, bool_or, none, mem_count, mem_in, in_mem, mem_not}
use Rattle.sir_data.specs.Records.{ops, ins, outs, block_word}
use Rattle.sir_analyses.specs.Liveness.{Set, has, end_reads, exit_set, block_end, Interval, Scan, closing, close, scan_op, block_intervals}
use Rattle.sir_analyses.proofs.claims.liveness.GenKill.{through}

-- os is what is left of all after some operation, or all of it
pub data Suffix (all : List ℕ) : List ℕ → Type 0 where
  whole : Suffix all all
  behind : {o : ℕ} {os : List ℕ} → Suffix all (o ∷ os) → Suffix all os

abbrev pub Ascends : List ℕ → Type 0
Ascends [] = Unit {0}
Ascends (o ∷ os) = ((p : ℕ) → p ∈ os → o < p) × Ascends os

pub suffix_mem : {all os : List ℕ} {o : ℕ} → Suffix all os → o ∈ os → o ∈ all
suffix_mem whole m = m
suffix_mem (behind s) m = suffix_mem s (mathlib.Core.List.Memᴰ.tail m)

pub suffix_ascends : {all os : List ℕ} → Suffix all os → Ascends all → Ascends os
suffix_ascends whole h = h
suffix_ascends (behind s) h = (suffix_ascends s h).1

pub count_ascends : (s n : ℕ) → Ascends (count s n)
count_ascends s zero = tt
count_ascends s (suc n) = (λ p m. omega (arith, mem_count p (suc s) n m), count_ascends (suc s) n)

-- ---- one step of a scan

-- an end is none, or after operation o
abbrev pub Behind : ℕ → ℕ → Type 0
Behind o n = (n ≡ 0) ⊎ (suc o ≤ n)

close_closed : {i : Interval} (b f : ℕ) (c : Scan) → Memᴰ i c.closed → Memᴰ i (close b f c).closed
close_closed b f c m = mathlib.Core.List.Memᴰ.append_left (closing b f c.open') m

abbrev pub piece : ℕ → ℕ → ℕ → Interval
piece b f t = record { block = b; from = f; to = t }

close_emits : (b f : ℕ) (c : Scan) → ¬ (c.open' ≡ 0) → Memᴰ (piece b f c.open') (close b f c).closed
close_emits b f c n =
    rw (ne_eqb c.open' 0 n) (mathlib.Core.List.Memᴰ.append_right c.closed (mathlib.Core.List.Memᴰ.head refl))

pub close_out : {i : Interval} (b f : ℕ) (c : Scan) → Memᴰ i (close b f c).closed → Memᴰ i c.closed ⊎ (¬ (c.open' ≡ 0) × (i ≡ piece b f c.open'))
close_out {i} b f c m = go (eqb c.open' 0) refl (mathlib.Core.List.Memᴰ.append_cases c.closed m)
  where
    go : (t : Bool) → eqb c.open' 0 ≡ t → Memᴰ i c.closed ⊎ Memᴰ i (cond t [] (piece b f c.open' ∷ [])) → Memᴰ i c.closed ⊎ (¬ (c.open' ≡ 0) × (i ≡ piece b f c.open'))
    go t e (inl h) = inl h
    go true e (inr h) = absurd (mathlib.Core.List.Memᴰ.not-nil h)
    go false e (inr (mathlib.Core.List.Memᴰ.head q)) = inr (eqb-false c.open' 0 e, q)
    go false e (inr (mathlib.Core.List.Memᴰ.tail h)) = absurd (mathlib.Core.List.Memᴰ.not-nil h)

module _ (w : List ℕ) (b v o : ℕ) where
  abbrev ended : Scan → Scan
  ended c = cond (mem v (outs w o)) (close b (suc o) c) c

  abbrev opened : Scan → Scan
  opened d = cond (mem v (ins w o) && eqb d.open' 0) (record { open' = suc o; closed = d.closed }) d

  opened_closed : (d : Scan) → (opened d).closed ≡ d.closed
  opened_closed d = go (mem v (ins w o) && eqb d.open' 0)
    where
      go : (t : Bool) → (cond t (record { open' = suc o; closed = d.closed }) d).closed ≡ d.closed
      go true = refl
      go false = refl

  opened_keeps : (d : Scan) → ¬ (d.open' ≡ 0) → (opened d).open' ≡ d.open'
  opened_keeps d n = go (mem v (ins w o)) (eqb d.open' 0) refl
    where
      go : (s t : Bool) → eqb d.open' 0 ≡ t → (cond (s && t) (record { open' = suc o; closed = d.closed }) d).open' ≡ d.open'
      go true true e = absurd (n (eqb-true d.open' 0 e))
      go true false e = refl
      go false t e = refl

  opened_reads : (d : Scan) → v ∈ ins w o → ¬ ((opened d).open' ≡ 0)
  opened_reads d m =
      rw (in_mem v m) (go (eqb d.open' 0) refl)
    where
      go : (t : Bool) → eqb d.open' 0 ≡ t → ¬ ((cond t (record { open' = suc o; closed = d.closed }) d).open' ≡ 0)
      go true e q = omega arith
      go false e q = eqb-false d.open' 0 e q

  opened_behind : (p : ℕ) (d : Scan) → p ≤ o → Behind p d.open' → Behind p (opened d).open'
  opened_behind p d le h = go (mem v (ins w o) && eqb d.open' 0)
    where
      go : (t : Bool) → Behind p (cond t (record { open' = suc o; closed = d.closed }) d).open'
      go true = inr (omega arith)
      go false = h

  ended_behind : (p : ℕ) (c : Scan) → Behind p c.open' → Behind p (ended c).open'
  ended_behind p c h = go (mem v (outs w o))
    where
      go : (t : Bool) → Behind p (cond t (close b (suc o) c) c).open'
      go true = inl refl
      go false = h

  ended_closed : {i : Interval} (c : Scan) → Memᴰ i c.closed → Memᴰ i (ended c).closed
  ended_closed {i} c m = go (mem v (outs w o))
    where
      go : (t : Bool) → Memᴰ i (cond t (close b (suc o) c) c).closed
      go true = close_closed b (suc o) c m
      go false = m

  scan_closed : {i : Interval} (c : Scan) → Memᴰ i c.closed → Memᴰ i (scan_op w b v o c).closed
  scan_closed c m = rw (opened_closed (ended c)) (ended_closed c m)

  -- what is open after an operation and no output of it is open before it
  scan_keeps : (c : Scan) → v ∉ outs w o → ¬ (c.open' ≡ 0) → (scan_op w b v o c).open' ≡ c.open'
  scan_keeps c n h =
      rw (mem_not v (outs w o) n) (opened_keeps c h)

  pub scan_emits : (c : Scan) → v ∈ outs w o → ¬ (c.open' ≡ 0) → Memᴰ (piece b (suc o) c.open') (scan_op w b v o c).closed
  scan_emits c m h =
      let k : Memᴰ (piece b (suc o) c.open') (ended c).closed = rw (in_mem v m) (close_emits b (suc o) c h) in
      rw (opened_closed (ended c)) k

  scan_behind : (p : ℕ) (c : Scan) → p ≤ o → Behind p c.open' → Behind p (scan_op w b v o c).open'
  scan_behind p c le h = opened_behind p (ended c) le (ended_behind p c h)

  pub scan_out : {i : Interval} (c : Scan) → Memᴰ i (scan_op w b v o c).closed → Memᴰ i c.closed ⊎ (¬ (c.open' ≡ 0) × (i ≡ piece b (suc o) c.open'))
  scan_out {i} c m = go (mem v (outs w o)) (rw (opened_closed (ended c)) at m)
    where
      go : (t : Bool) → Memᴰ i (cond t (close b (suc o) c) c).closed → Memᴰ i c.closed ⊎ (¬ (c.open' ≡ 0) × (i ≡ piece b (suc o) c.open'))
      go true h = close_out b (suc o) c h
      go false h = inl h

-- ---- liveness and intervals of a block

module _ (w : List ℕ) where
  -- v is live in b where the operations os are still to come
  pub data Live (b : ℕ) : List ℕ → ℕ → Type 0 where
    leaves : {v : ℕ} → has (exit_set w b) v ≡ true → Live b [] v
    tests : {v : ℕ} → v ∈ (end_reads w b) → Live b [] v
    reads : {o v : ℕ} {os : List ℕ} → v ∈ ins w o → Live b (o ∷ os) v
    later : {o v : ℕ} {os : List ℕ} → v ∉ outs w o → Live b os v → Live b (o ∷ os) v

  abbrev pub scan : ℕ → ℕ → List ℕ → Scan
  scan b v os = foldr (scan_op w b v) (record { open' = cond (has (exit_set w b) v || mem v (end_reads w b)) block_end 0; closed = [] }) os

  -- the live set of b where the operations os are still to come
  abbrev pub live_in : ℕ → List ℕ → Set
  live_in b os = through w (end_reads w b) os (exit_set w b)

  -- what is live has an end
  pub live_end : {b v : ℕ} {os : List ℕ} → Live b os v → ¬ ((scan b v os).open' ≡ 0)
  live_end {b} {v} (leaves t) =
      let h : (has (exit_set w b) v || mem v (end_reads w b)) ≡ true = or_true_left (has (exit_set w b) v) (mem v (end_reads w b)) t in
      rw h (λ e. omega arith)
  live_end {b} {v} (tests m) =
      let h : (has (exit_set w b) v || mem v (end_reads w b)) ≡ true = or_true_right (has (exit_set w b) v) (mem v (end_reads w b)) (in_mem v m) in
      rw h (λ e. omega arith)
  live_end {b} {v} (reads {o} {os = os} i) = opened_reads w b v o (ended w b v o (scan b v os)) i
  live_end {b} {v} (later {o} {os = os} n l) = λ e. live_end l (sym (scan_keeps w b v o (scan b v os) n (live_end l)) ∙ e)

  -- an end lies after every operation before it
  pub ends_behind : (p b v : ℕ) (os : List ℕ) → p < block_end → ((q : ℕ) → q ∈ os → p < q) → Behind p (scan b v os).open'
  ends_behind p b v [] l h = go (has (exit_set w b) v || mem v (end_reads w b))
    where
      go : (t : Bool) → Behind p (cond t block_end 0)
      go true = inr (omega arith)
      go false = inl refl
  ends_behind p b v (o ∷ os) l h = scan_behind w b v o p (scan b v os) (omega (arith, h o (mathlib.Core.List.Memᴰ.head refl))) (ends_behind p b v os l (λ q m. h q (mathlib.Core.List.Memᴰ.tail m)))

  pub ends_at : (b v o : ℕ) (os : List ℕ) → o < block_end → Ascends (o ∷ os) → Behind o (scan b v (o ∷ os)).open'
  ends_at b v o os l h = scan_behind w b v o o (scan b v os) (omega arith) (ends_behind o b v os l h.0)

  pub ops_ascend : (b : ℕ) → Ascends (ops w b)
  ops_ascend b = count_ascends (block_word w b 4) (block_word w b 5 - block_word w b 4)

  pub grows : (b v : ℕ) {os : List ℕ} {i : Interval} → Suffix (ops w b) os → Memᴰ i (scan b v os).closed → Memᴰ i (block_intervals w (exit_set w b) v b)
  grows b v whole m = close_closed b 0 (scan b v (ops w b)) m
  grows b v (behind {o} {os} s) m = grows b v s (scan_closed w b v o (scan b v os) m)

  -- what has an end is emitted, with a start before every operation that is left
  pub emitted : (b v : ℕ) {os : List ℕ} → Suffix (ops w b) os → ¬ ((scan b v os).open' ≡ 0) → (lo : ℕ) × Memᴰ (piece b lo (scan b v os).open') (block_intervals w (exit_set w b) v b) × ((q : ℕ) → q ∈ os → lo ≤ suc q)
  emitted b v whole n = (0, close_emits b 0 (scan b v (ops w b)) n, λ q m. omega arith)
  emitted b v (behind {o} {os} s) n = go (λ z. emitted b v s z) (bool_or (mem v (outs w o)))
    where
      go : (¬ ((scan b v (o ∷ os)).open' ≡ 0) → (lo : ℕ) × Memᴰ (piece b lo (scan b v (o ∷ os)).open') (block_intervals w (exit_set w b) v b) × ((q : ℕ) → q ∈ (o ∷ os) → lo ≤ suc q)) → (mem v (outs w o) ≡ true) ⊎ (mem v (outs w o) ≡ false)
          → (lo : ℕ) × Memᴰ (piece b lo (scan b v os).open') (block_intervals w (exit_set w b) v b) × ((q : ℕ) → q ∈ os → lo ≤ suc q)
      go f (inl t) = (suc o, grows b v s (scan_emits w b v o (scan b v os) (mem_in v (outs w o) t) n), λ q m. omega (arith, (suffix_ascends s (ops_ascend b)).0 q m))
      go f (inr t) =
          let e : (scan b v (o ∷ os)).open' ≡ (scan b v os).open' = scan_keeps w b v o (scan b v os) (λ m. none (mem v (outs w o)) (in_mem v m) t) n in
          let r = f (λ z. n (sym e ∙ z)) in
          (r.0, mathlib.Core.List.Memᴰ.cast (ap (piece b r.0) (sym e)) r.1, λ q m. r.2 q (mathlib.Core.List.Memᴰ.tail m))
