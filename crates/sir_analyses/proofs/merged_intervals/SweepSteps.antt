-- What passing one operation does to a scan and to a sweep, and what each covers then.
use mathlib.Core.Path.{◌≡◌, refl, sym, ◌∙◌}
use mathlib.Core.Logic.{◌↔◌, ◌⊎◌, inl, inr}
use mathlib.Core.Bool.{Bool, true, false, not, ◌&&◌, ◌||◌, cond}
use Prim.Native.Nat.{ℕ, suc, ◌≤◌, ◌<◌}
use native.Mathlib.Omega.{arith}
use native.Mathlib.Decide.{dec_le}
use mathlib.Core.List.{List, [], ◌∷◌, ◌++◌, append-nil}
use lib.Dec.{eqb, eqb-suc-zero}
use borrow.Author.Tests.{eqb-true, eqb-false}
use Rattle.sir_analyses.specs.Liveness.{block_end, Interval, Scan, close}
use Rattle.sir_analyses.proofs.claims.lifetimes.Merging.{Spans, nothing_spans}
use Rattle.sir_analyses.proofs.claims.lifetimes.Scans.{piece}
use Rattle.sir_analyses.specs.inner.Sweep.{shut, note}

-- ---- what a scan covers

-- an end is none, or not before p
abbrev pub Ahead : ℕ → Scan → Type 0
Ahead p c = (c.open' ≡ 0) ⊎ (p ≤ c.open')

-- the scan c of block b stands at p: in block d, all from m to n is in a closed interval or in the open one
pub data Covers (b d m n p : ℕ) (c : Scan) : Type 0 where
  inside : Spans d m n c.closed → Covers b d m n p c
  onwards : b ≡ d → ¬ (c.open' ≡ 0) → p ≤ m → n ≤ c.open' → Covers b d m n p c

-- new has one interval more than old
pub record Emits (b f t : ℕ) (old new : List Interval) : Type 0 where
  pub out : {d m n : ℕ} → Spans d m n new → Spans d m n old ⊎ ((b ≡ d) × (f ≤ m) × (n ≤ t))
  pub keeps : {d m n : ℕ} → Spans d m n old → Spans d m n new
  pub has_it : {d m n : ℕ} → b ≡ d → f ≤ m → n ≤ t → Spans d m n new

emits_covers : {b d m n p : ℕ} {c : Scan} {new : List Interval} → Emits b p c.open' c.closed new → ¬ (c.open' ≡ 0) → Spans d m n new → Covers b d m n p c
emits_covers {b} {d} {m} {n} {p} {c} em z s = go (em.out s)
  where
    go : Spans d m n c.closed ⊎ ((b ≡ d) × (p ≤ m) × (n ≤ c.open')) → Covers b d m n p c
    go (inl t) = inside t
    go (inr t) = onwards t.0 z t.1 t.2

-- what passing operation o does to a scan
pub data Step (b o : ℕ) (c c' : Scan) : Type 0 where
  same : c'.open' ≡ c.open' → c'.closed ≡ c.closed → Step b o c c'
  opens : c.open' ≡ 0 → c'.open' ≡ suc o → c'.closed ≡ c.closed → Step b o c c'
  ends : ¬ (c.open' ≡ 0) → c'.open' ≡ 0 → Emits b (suc o) c.open' c.closed c'.closed → Step b o c c'
  turns : ¬ (c.open' ≡ 0) → c'.open' ≡ suc o → Emits b (suc o) c.open' c.closed c'.closed → Step b o c c'

-- the cell from o to o + 1
abbrev pub Cell : ℕ → ℕ → ℕ → ℕ → ℕ → Type 0
Cell b d m n o = (b ≡ d) × (o ≤ m) × (n ≤ suc o)

-- where a block ends
pub end_ahead : (p : ℕ) (t : Bool) → p ≤ block_end → Ahead p (record { open' = cond t block_end 0; closed = [] })
end_ahead p true h = inr h
end_ahead p false h = inl refl

pub step_ahead : {b o : ℕ} {c c' : Scan} → Step b o c c' → Ahead (suc o) c → Ahead o c'
step_ahead (same e f) (inl z) = inl (e ∙ z)
step_ahead (same e f) (inr h) = inr (omega arith)
step_ahead (opens z e f) h = inr (omega arith)
step_ahead (ends z e em) h = inl e
step_ahead (turns z e em) h = inr (omega arith)

module _ {b d m n o : ℕ} (le : n ≤ suc m) {c c' : Scan} where
  pub step_out : Step b o c c' → Covers b d m n o c' → Covers b d m n (suc o) c ⊎ (¬ (c'.open' ≡ 0) × Cell b d m n o)
  step_out (same e f) (inside s) = inl (inside (rw f at s))
  step_out (same e f) (onwards q h k l) = go (dec_le (suc o) m)
    where
      go : Dec (suc o ≤ m) → Covers b d m n (suc o) c ⊎ (¬ (c'.open' ≡ 0) × Cell b d m n o)
      go (yes y) = inl (onwards q (λ z. h (e ∙ z)) y (omega arith))
      go (no y) = inr (h, (q, k, omega arith))
  step_out (opens z e f) (inside s) = inl (inside (rw f at s))
  step_out (opens z e f) (onwards q h k l) = inr (h, (q, k, omega arith))
  step_out (ends z e em) (inside s) = inl (emits_covers em z s)
  step_out (ends z e em) (onwards q h k l) = absurd (h e)
  step_out (turns z e em) (inside s) = inl (emits_covers em z s)
  step_out (turns z e em) (onwards q h k l) = inr (h, (q, k, omega arith))

  pub step_old : Step b o c c' → Covers b d m n (suc o) c → Covers b d m n o c'
  step_old (same e f) (inside s) = inside (rw f s)
  step_old (same e f) (onwards q h k l) = onwards q (λ z. h (sym e ∙ z)) (omega arith) (omega arith)
  step_old (opens z e f) (inside s) = inside (rw f s)
  step_old (opens z e f) (onwards q h k l) = absurd (h z)
  step_old (ends z e em) (inside s) = inside (em.keeps s)
  step_old (ends z e em) (onwards q h k l) = inside (em.has_it q k l)
  step_old (turns z e em) (inside s) = inside (em.keeps s)
  step_old (turns z e em) (onwards q h k l) = inside (em.has_it q k l)

  pub step_new : Step b o c c' → Ahead (suc o) c → ¬ (c'.open' ≡ 0) → Cell b d m n o → Covers b d m n o c'
  step_new (same e f) (inl z) h k = absurd (h (e ∙ z))
  step_new (same e f) (inr g) h k = onwards k.0 h k.1 (omega arith)
  step_new (opens z e f) g h k = onwards k.0 h k.1 (omega arith)
  step_new (ends z e em) g h k = absurd (h e)
  step_new (turns z e em) g h k = onwards k.0 h k.1 (omega arith)

-- at the start of the block an open one gets start 0
module _ {b d m n p : ℕ} (le : n ≤ suc m) {c : Scan} where
  pub start_out : Covers b d m n 0 c → Covers b d m n p c ⊎ (¬ (c.open' ≡ 0) × (b ≡ d) × (m < p))
  start_out (inside s) = inl (inside s)
  start_out (onwards q h k l) = go (dec_le p m)
    where
      go : Dec (p ≤ m) → Covers b d m n p c ⊎ (¬ (c.open' ≡ 0) × (b ≡ d) × (m < p))
      go (yes y) = inl (onwards q h y l)
      go (no y) = inr (h, q, omega arith)

  pub start_old : Covers b d m n p c → Covers b d m n 0 c
  start_old (inside s) = inside s
  start_old (onwards q h k l) = onwards q h (omega arith) l

  pub start_new : Ahead p c → ¬ (c.open' ≡ 0) → b ≡ d → m < p → Covers b d m n 0 c
  start_new (inl z) h q k = absurd (h z)
  start_new (inr g) h q k = onwards q h (omega arith) (omega arith)

-- ---- one interval more, after or in front

spans_left : {d m n : ℕ} {is : List Interval} (js : List Interval) → Spans d m n is → Spans d m n (is ++ js)
spans_left js (Spans.first p q r) = Spans.first p q r
spans_left js (Spans.rest s) = Spans.rest (spans_left js s)

spans_right : {d m n : ℕ} (is : List Interval) {js : List Interval} → Spans d m n js → Spans d m n (is ++ js)
spans_right [] s = s
spans_right (i ∷ is) s = Spans.rest (spans_right is s)

spans_cases : {d m n : ℕ} (is : List Interval) {js : List Interval} → Spans d m n (is ++ js) → Spans d m n is ⊎ Spans d m n js
spans_cases [] s = inr s
spans_cases (i ∷ is) (Spans.first p q r) = inl (Spans.first p q r)
spans_cases {d} {m} {n} (i ∷ is) {js} (Spans.rest s) = go (spans_cases is s)
  where
    go : Spans d m n is ⊎ Spans d m n js → Spans d m n (i ∷ is) ⊎ Spans d m n js
    go (inl t) = inl (Spans.rest t)
    go (inr t) = inr t

front : (b f t : ℕ) (is : List Interval) → Emits b f t is (piece b f t ∷ is)
front b f t is = record { out = out'; keeps = λ s. Spans.rest s; has_it = λ q k l. Spans.first q k l }
  where
    out' : {d m n : ℕ} → Spans d m n (piece b f t ∷ is) → Spans d m n is ⊎ ((b ≡ d) × (f ≤ m) × (n ≤ t))
    out' (Spans.first p q r) = inr (p, q, r)
    out' (Spans.rest s) = inl s

back : (b f t : ℕ) (is : List Interval) → Emits b f t is (is ++ (piece b f t ∷ []))
back b f t is = record { out = λ s. out' (spans_cases is s); keeps = λ s. spans_left (piece b f t ∷ []) s; has_it = λ q k l. spans_right is (Spans.first q k l) }
  where
    out' : {d m n : ℕ} → Spans d m n is ⊎ Spans d m n (piece b f t ∷ []) → Spans d m n is ⊎ ((b ≡ d) × (f ≤ m) × (n ≤ t))
    out' (inl s) = inl s
    out' (inr (Spans.first p q r)) = inr (p, q, r)
    out' (inr (Spans.rest s)) = absurd (nothing_spans s)

-- an open interval of a scan that stands at p is closed there: `new` is the list then, by whether none is open
module _ {b d m n : ℕ} (p : ℕ) (c : Scan) where
  ended_covers : (new : Bool → List Interval) → new true ≡ c.closed → Emits b p c.open' c.closed (new false)
      → Spans d m n (new (eqb c.open' 0)) ↔ Covers b d m n p c
  ended_covers new none em = go (eqb c.open' 0) refl
    where
      old : c.open' ≡ 0 → Covers b d m n p c → Spans d m n (new true)
      old z (inside s) = rw none s
      old z (onwards q h k l) = absurd (h z)

      more : Covers b d m n p c → Spans d m n (new false)
      more (inside s) = em.keeps s
      more (onwards q h k l) = em.has_it q k l

      go : (t : Bool) → eqb c.open' 0 ≡ t → Spans d m n (new t) ↔ Covers b d m n p c
      go true e = (λ s. inside (rw none at s), λ k. old (eqb-true c.open' 0 e) k)
      go false e = (λ s. emits_covers em (eqb-false c.open' 0 e) s, λ k. more k)

  pub close_covers : Spans d m n (close b p c).closed ↔ Covers b d m n p c
  close_covers = ended_covers (λ t. c.closed ++ cond t [] (piece b p c.open' ∷ [])) (append-nil c.closed) (back b p c.open' c.closed)

  pub shut_covers : Spans d m n (shut b p c).closed ↔ Covers b d m n p c
  shut_covers = ended_covers (λ t. cond t [] (piece b p c.open' ∷ []) ++ c.closed) refl (front b p c.open' c.closed)

-- the step of a scan, and the step of a sweep
abbrev pub scan_form : ℕ → ℕ → Bool → Bool → Scan → Scan
scan_form b o x y c =
    let d = cond x (close b (suc o) c) c in
    cond (y && eqb d.open' 0) (record { open' = suc o; closed = d.closed }) d

pub scan_step : (b o : ℕ) (x y : Bool) (c : Scan) → Step b o c (scan_form b o x y c) × (not (eqb (scan_form b o x y c).open' 0) ≡ ((not (eqb c.open' 0) && not x) || y))
scan_step b o false y c = go y (eqb c.open' 0) refl
  where
    go : (y t : Bool) → eqb c.open' 0 ≡ t → Step b o c (cond (y && t) (record { open' = suc o; closed = c.closed }) c) × (not (eqb (cond (y && t) (record { open' = suc o; closed = c.closed }) c).open' 0) ≡ ((not t && true) || y))
    go true true e = (opens (eqb-true c.open' 0 e) refl refl, rw eqb-suc-zero)
    go true false e = (same refl refl, rw e refl)
    go false true e = (same refl refl, rw e refl)
    go false false e = (same refl refl, rw e refl)
scan_step b o true y c = go y (eqb c.open' 0) refl
  where
    after : Bool → Bool → Scan
    after y t =
        let all = c.closed ++ cond t [] (piece b (suc o) c.open' ∷ []) in
        cond (y && eqb 0 0) (record { open' = suc o; closed = all }) (record { open' = 0; closed = all })

    go : (y t : Bool) → eqb c.open' 0 ≡ t → Step b o c (after y t) × (not (eqb (after y t).open' 0) ≡ ((not t && false) || y))
    go true true e = (opens (eqb-true c.open' 0 e) refl (append-nil c.closed), rw eqb-suc-zero)
    go false true e = (same (sym (eqb-true c.open' 0 e)) (append-nil c.closed), refl)
    go true false e = (turns (eqb-false c.open' 0 e) refl (back b (suc o) c.open' c.closed), rw eqb-suc-zero)
    go false false e = (ends (eqb-false c.open' 0 e) refl (back b (suc o) c.open' c.closed), refl)

pub note_step : (b o : ℕ) (t : Bool) (c : Scan) → Step b o c (note b o t c)
note_step b o true c = go (eqb c.open' 0) refl
  where
    go : (t : Bool) → eqb c.open' 0 ≡ t → Step b o c (record { open' = cond t (suc o) c.open'; closed = c.closed })
    go true e = opens (eqb-true c.open' 0 e) refl refl
    go false e = same refl refl
note_step b o false c = go (eqb c.open' 0) refl
  where
    go : (t : Bool) → eqb c.open' 0 ≡ t → Step b o c (record { open' = 0; closed = cond t [] (piece b (suc o) c.open' ∷ []) ++ c.closed })
    go true e = same (sym (eqb-true c.open' 0 e)) refl
    go false e = ends (eqb-false c.open' 0 e) refl (front b (suc o) c.open' c.closed)

-- after it, one is open exactly where something is live
pub note_open : (b o : ℕ) (t : Bool) (c : Scan) → not (eqb (note b o t c).open' 0) ≡ t
note_open b o true c = go (eqb c.open' 0) refl
  where
    go : (t : Bool) → eqb c.open' 0 ≡ t → not (eqb (cond t (suc o) c.open') 0) ≡ true
    go true e = rw eqb-suc-zero
    go false e = rw e refl
note_open b o false c = refl
