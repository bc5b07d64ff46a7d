-- A block's intervals of one local, as the step over its operations finds them.
use mathlib.Core.Path.{◌≡◌, refl, sym, ap, ap₂, ◌∙◌}
use mathlib.Core.Bool.{Bool, true, false, ◌&&◌, cond, ◌||◌}
use mathlib.Core.List.{List, [], ◌∷◌, ◌++◌, foldr, append-nil}
use Rattle.std.specs.Prelude.{Option, Some, None}
use Rattle.std.specs.Bool.{then_some}
use Rattle.std.specs.Option.{option_or}
use Prim.Native.Nat.{ℕ, zero, suc, ◌+◌, ◌*◌, ◌≤◌, ◌<◌}
use native.Mathlib.Omega.{arith}
use native.Mathlib.Numerals.{add-one}
use lib.ListN.{length, take, length-append}
use lib.Dec.{eqb}
use borrow.Author.Tests.{ne_eqb}
use Rattle.plank_core.specs.Lists.{mem}
use Rattle.plank_core.specs.inner.DenseIndexSet.{contains}
use Rattle.sir_data.specs.Records.{operations, ops, ins, outs}
use Rattle.sir_analyses.specs.Liveness.{Interval, Scan, closing, close, scan_op, block_end, end_open}
use Rattle.sir_analyses.specs.Answers.{interval_words}
use Rattle.sir_analyses.specs.inner.Tables.{OperandRows}
use Rattle.sir_analyses.specs.inner.Scanning.{open_before, closed_by, end_of, ending, scan_words}

-- ---- the end that is open after the operations

-- the block's, for what is in one of two sets
pub end_either : (s t : Bool) → cond t block_end (cond s block_end 0) ≡ end_open (s || t)
end_either true true = refl
end_either true false = refl
end_either false true = refl
end_either false false = refl

-- ---- ends as options

-- what is left open, and what is closed
pub end_kept : (d : Bool) (t : ℕ) → cond d (end_of t) None ≡ end_of (closed_by d t)
end_kept true t = refl
end_kept false t = refl

pub end_opened : (d r : Bool) (h t : ℕ) → option_or (cond d None (end_of t)) (then_some r (h + 1)) ≡ end_of (open_before d r (h + 1) t)
end_opened d r h t = rw (add-one h) (go d r t)
  where
    go : (d r : Bool) (t : ℕ) → option_or (cond d None (end_of t)) (then_some r (suc h)) ≡ end_of (open_before d r (suc h) t)
    go true true t = refl
    go true false t = refl
    go false true zero = refl
    go false true (suc t) = rw (ne_eqb (suc t) 0 (λ z. omega (arith, z)))
    go false false zero = refl
    go false false (suc t) = refl

-- the interval that it closes
pub ending_is : (b from t : ℕ) → ending b from (end_of t) ≡ closing b from t
ending_is b from zero = refl
ending_is b from (suc t) = rw (ne_eqb (suc t) 0 (λ z. omega (arith, z)))

pub ending_few : (b from : ℕ) (to : Option ℕ) → length (interval_words (ending b from to)) ≤ 3
ending_few b from None = omega arith
ending_few b from (Some e) = omega arith

-- ---- one step of the definition

module _ (w : List ℕ) (b v o : ℕ) (c : Scan) where
  pub scan_open : (scan_op w b v o c).open' ≡ open_before (mem v (outs w o)) (mem v (ins w o)) (o + 1) c.open'
  scan_open = go (mem v (outs w o)) (mem v (ins w o)) ∙ ap (λ (k : ℕ). open_before (mem v (outs w o)) (mem v (ins w o)) k c.open') (sym (add-one o))
    where
      kept : (t : Bool) → (cond t (record { open' = suc o; closed = c.closed }) c).open' ≡ cond t (suc o) c.open'
      kept true = refl
      kept false = refl

      go : (g r : Bool) → (let d = cond g (close b (suc o) c) c in cond (r && eqb d.open' 0) (record { open' = suc o; closed = d.closed }) d).open' ≡ open_before g r (suc o) c.open'
      go true true = refl
      go true false = refl
      go false r = kept (r && eqb c.open' 0)

  pub scan_closed : (scan_op w b v o c).closed ≡ c.closed ++ closing b (o + 1) (closed_by (mem v (outs w o)) c.open')
  scan_closed = go (mem v (outs w o)) (mem v (ins w o)) ∙ ap (λ (k : ℕ). c.closed ++ closing b k (closed_by (mem v (outs w o)) c.open')) (sym (add-one o))
    where
      kept : (t : Bool) → (cond t (record { open' = suc o; closed = c.closed }) c).closed ≡ c.closed
      kept true = refl
      kept false = refl

      go : (g r : Bool) → (let d = cond g (close b (suc o) c) c in cond (r && eqb d.open' 0) (record { open' = suc o; closed = d.closed }) d).closed ≡ c.closed ++ closing b (suc o) (closed_by g c.open')
      go true true = refl
      go true false = refl
      go false r = kept (r && eqb c.open' 0) ∙ sym (append-nil c.closed)

-- ---- words

pub words_append : (xs ys : List Interval) → interval_words (xs ++ ys) ≡ interval_words xs ++ interval_words ys
words_append [] ys = refl
words_append (x ∷ xs) ys = ap (λ (l : List ℕ). x.block ∷ x.from ∷ x.to ∷ l) (words_append xs ys)

pub closing_few : (b from to : ℕ) → length (interval_words (closing b from to)) ≤ 3
closing_few b from to = go (eqb to 0)
  where
    go : (z : Bool) → length (interval_words (cond z [] (record { block = b; from = from; to = to } ∷ []))) ≤ 3
    go true = omega arith
    go false = omega arith

-- ---- a block's operations backwards: `os` are done

abbrev scanned : List ℕ → ℕ → ℕ → ℕ → List ℕ → Scan
scanned w b v end os = foldr (scan_op w b v) (record { open' = end; closed = [] }) os

-- till is the open end, and the first n words of out are those of the intervals closed so far
pub record Scanning (w : List ℕ) (b v end : ℕ) (os out : List ℕ) (till : Option ℕ) (n : ℕ) : Type 0 where
  pub opened : till ≡ end_of (scanned w b v end os).open'
  pub count : n ≡ length (interval_words (scanned w b v end os).closed)
  pub written : take n out ≡ interval_words (scanned w b v end os).closed

module _ {w : List ℕ} {b v end : ℕ} {os out : List ℕ} {till : Option ℕ} {n : ℕ} (g : Scanning w b v end os out till n) where
  -- an interval, if one is closed, is written after the others
  behind : (out' : List ℕ) (from to : ℕ) {r : ℕ} → r ≡ n + length (interval_words (closing b from to)) → take r out' ≡ take n out ++ interval_words (closing b from to)
      → (r ≡ length (interval_words ((scanned w b v end os).closed ++ closing b from to))) × (take r out' ≡ interval_words ((scanned w b v end os).closed ++ closing b from to))
  behind out' from to l e =
      let a : interval_words ((scanned w b v end os).closed ++ closing b from to) ≡ interval_words (scanned w b v end os).closed ++ interval_words (closing b from to) = words_append (scanned w b v end os).closed (closing b from to) in (
        l ∙ ap (λ (k : ℕ). k + length (interval_words (closing b from to))) g.count ∙ sym (length-append (interval_words (scanned w b v end os).closed) (interval_words (closing b from to))) ∙ ap length (sym a),
        e ∙ ap (λ (xs : List ℕ). xs ++ interval_words (closing b from to)) g.written ∙ sym a,
      )

  pub scanning_more : (reads writes : List ℕ) (o : ℕ) → OperandRows w reads writes → o < operations w → v < 512
      → (out' : List ℕ) {next closed : Option ℕ} {r : ℕ} → next ≡ option_or (cond (contains writes (512 * o + v)) None till) (then_some (contains reads (512 * o + v)) (o + 1)) → closed ≡ cond (contains writes (512 * o + v)) till None
      → r ≡ n + length (interval_words (ending b (o + 1) closed)) → take r out' ≡ take n out ++ interval_words (ending b (o + 1) closed)
      → Scanning w b v end (o ∷ os) out' next r
  scanning_more reads writes o rows l h out' {closed = closed} p q s t =
      let c = scanned w b v end os in
      let x = rows.written o v l h in
      let y = rows.read o v l h in
      let to : ℕ = closed_by (mem v (outs w o)) c.open' in
      let d : closed ≡ end_of to = q ∙ ap₂ (λ (k : Bool) (u : Option ℕ). cond k u None) x g.opened ∙ end_kept (mem v (outs w o)) c.open' in
      let i : ending b (o + 1) closed ≡ closing b (o + 1) to = ap (ending b (o + 1)) d ∙ ending_is b (o + 1) to in
      let e : c.closed ++ closing b (o + 1) to ≡ (scan_op w b v o c).closed = sym (scan_closed w b v o c) in
      let f = behind out' (o + 1) to (s ∙ ap (λ (is : List Interval). n + length (interval_words is)) i) (t ∙ ap (λ (is : List Interval). take n out ++ interval_words is) i) in
      record {
        opened = p ∙ rw (x, y, g.opened) (end_opened (mem v (outs w o)) (mem v (ins w o)) o c.open') ∙ ap end_of (sym (scan_open w b v o c));
        count = f.0 ∙ ap (λ (is : List Interval). length (interval_words is)) e;
        written = f.1 ∙ ap interval_words e;
      }

  pub scanning_ends : os ≡ ops w b → (out' : List ℕ) {r : ℕ} → r ≡ n + length (interval_words (ending b 0 till)) → take r out' ≡ take n out ++ interval_words (ending b 0 till)
      → (r ≡ length (scan_words w b v end)) × (take r out' ≡ scan_words w b v end)
  scanning_ends k out' s t =
      let c = scanned w b v end os in
      let i : ending b 0 till ≡ closing b 0 c.open' = ap (ending b 0) g.opened ∙ ending_is b 0 c.open' in
      let e : interval_words (c.closed ++ closing b 0 c.open') ≡ scan_words w b v end = ap (λ (ps : List ℕ). interval_words (close b 0 (scanned w b v end ps)).closed) k in
      let f = behind out' 0 c.open' (s ∙ ap (λ (is : List Interval). n + length (interval_words is)) i) (t ∙ ap (λ (is : List Interval). take n out ++ interval_words is) i) in
      (f.0 ∙ ap length e, f.1 ∙ e)
