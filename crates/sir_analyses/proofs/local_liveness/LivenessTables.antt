-- The tables of liveness in their flat array, as they are filled: operand sets, use and def sets, end sets, exit sets.
use mathlib.Core.Path.{◌≡◌, refl, sym, ap, ap₂, ◌∙◌, subst}
use mathlib.Core.Bool.{Bool, true, false, ◌&&◌, ◌||◌}
use mathlib.Core.List.{List, ◌++◌}
use Prim.Native.Nat.{ℕ, ◌+◌, ◌-◌, ◌≤◌, ◌<◌}
use native.Mathlib.Omega.{arith}
use lib.ListN.{length, take, drop, replicate, length-replicate, replicate-append-replicate}
use lib.Seq.{take_at, drop_at, drop-drop, take-take}
use lib.Dec.{eqb}
use Rattle.plank_core.specs.Lists.{mem}
use Rattle.plank_core.specs.inner.DenseIndexSet.{row_of, row_union, is_empty}
use Rattle.plank_core.specs.laws.DenseIndexSet.{length_union}
use Rattle.sir_data.specs.Records.{blocks, operations, ops, ins, outs}
use Rattle.sir_data.specs.inner.WellFormed.{WellFormed}
use Rattle.sir_analyses.specs.Liveness.{Set, has, use_set, def_set, back}
use Rattle.sir_analyses.specs.inner.Tables.{Adds, OperandRows, RangeSets, BlockRows, EndRows, PredecessorRows, Unsent, SentToPredecessors, Stepped}
use Rattle.sir_analyses.specs.inner.Stages.{part, reads_in, writes_in, uses_in, defs_in, exits_in, LivenessStage, Emptied, OperandsAdded, BlockAdded, ExitsEmpty, Passing, PassStep, ExitsFound}
use Rattle.sir_analyses.proofs.stages.Parts.{length_part, part_drop, same_front, put_back, put_part, put_before, put_after, put_long, put_low, put_high}
use Rattle.sir_analyses.proofs.Tables.{Filled, filled_starts, filled_more, filled_ends, cleared_long}
use Rattle.sir_analyses.proofs.block_sets.BlockSets.{row_defined}
use Rattle.sir_analyses.proofs.local_liveness.Stepping.{stepped_empty, stepped_sent}
use Rattle.sir_analyses.proofs.local_liveness.Passes.{stepped_as, stepped_then, stepped_none, Settling, settling_starts}
use Rattle.sir_analyses.proofs.local_liveness.SetAnswers.{exit_members, entry_members}

-- ---- an array of zeros

abbrev empty : ℕ → List ℕ
empty n = replicate n 0

cleared_split : (a m : ℕ) → a ≤ m → empty a ++ empty (m - a) ≡ empty m
cleared_split a m h = let e : a + (m - a) ≡ m = omega arith in replicate-append-replicate {A = ℕ} a (m - a) 0 ∙ ap empty e

empty_long : (n : ℕ) → length (empty n) ≡ n
empty_long n = length-replicate {A = ℕ} n 0

pub cleared_drop : (a m : ℕ) (t : List ℕ) → a ≤ m → t ≡ replicate m 0 → drop a t ≡ replicate (m - a) 0
cleared_drop a m t h e = ap (drop a) (e ∙ sym (cleared_split a m h)) ∙ drop_at (empty a) (empty (m - a)) a (empty_long a)

cleared_take : (a m : ℕ) → a ≤ m → take a (empty m) ≡ empty a
cleared_take a m h = ap (take a) (sym (cleared_split a m h)) ∙ take_at (empty a) (empty (m - a)) a (empty_long a)

pub cleared_part : (a n m : ℕ) (t : List ℕ) → a + n ≤ m → t ≡ replicate m 0 → part a n t ≡ replicate n 0
unfolding part
cleared_part a n m t h e = ap (take n) (cleared_drop a m t (omega arith) e) ∙ cleared_take n (m - a) (omega arith)

-- a part that is still empty
pub empty_part : (from a n : ℕ) (live : List ℕ) → Emptied from live → from ≤ a → a + n ≤ 24576 → part a n live ≡ replicate n 0
empty_part from a n live E h l =
    part_drop from a n live h ∙ cleared_part (a - from) n (24576 - from) (drop from live) (omega arith) E.empty

pub empty_from : (from a : ℕ) (live : List ℕ) → Emptied from live → from ≤ a → a ≤ 24576 → drop a live ≡ replicate (24576 - a) 0
empty_from from a live E h l =
    let e : from + (a - from) ≡ a = omega arith in
    let d : 24576 - from - (a - from) ≡ 24576 - a = omega arith in
    sym (drop-drop (a - from) from live ∙ ap (λ (k : ℕ). drop k live) e)
    ∙ cleared_drop (a - from) (24576 - from) (drop from live) (omega arith) E.empty
    ∙ ap empty d

-- ---- operand sets

-- the rows of the first o operations are filled, and all from the use sets on is empty
pub record OperandsTo (w live : List ℕ) (o : ℕ) : Type 0 where
  pub long : length live ≡ 24576
  pub read : Filled (reads_in live) 1024 o (λ r v. mem v (ins w r))
  pub written : Filled (writes_in live) 1024 o (λ r v. mem v (outs w r))
  pub empty : drop 16384 live ≡ replicate 8192 0

pub operands_none : (w live : List ℕ) → live ≡ replicate 24576 0 → OperandsTo w live 0
operands_none w live e = record {
  long = cleared_long live 24576 e;
  read = filled_starts (reads_in live) 8192 1024 (λ r v. mem v (ins w r)) (cleared_part 0 8192 24576 live (omega arith) e);
  written = filled_starts (writes_in live) 8192 1024 (λ r v. mem v (outs w r)) (cleared_part 8192 8192 24576 live (omega arith) e);
  empty = cleared_drop 16384 24576 live (omega arith) e;
}

pub reads_part : (live : List ℕ) → length live ≡ 24576 → length (reads_in live) ≡ 8192
reads_part live h = length_part 0 8192 live (omega arith)

pub writes_part : (live : List ℕ) → length live ≡ 24576 → length (writes_in live) ≡ 8192
writes_part live h = length_part 8192 8192 live (omega arith)

-- one operation: its row of reads, then its row of writes
module _ (w live : List ℕ) (o : ℕ) (long : length live ≡ 24576) {r : List ℕ} (a : Adds (reads_in live) (λ q v. eqb q o && mem v (ins w o)) r) where
  r_long : length r ≡ 8192
  r_long = a.long ∙ reads_part live long

  abbrev one : List ℕ
  one = put_back 0 8192 live r

  pub one_long : length one ≡ 24576
  one_long = put_long 0 8192 live r r_long (omega (arith, long)) ∙ long

  pub operands_added : {x : List ℕ} → Adds (writes_in one) (λ q v. eqb q o && mem v (outs w o)) x → OperandsAdded w o live (put_back 8192 8192 one x)
  operands_added {x} b =
      let xl : length x ≡ 8192 = b.long ∙ writes_part one one_long in
      let fits : 8192 + 8192 ≤ length one = omega (arith, one_long) in
      let low : reads_in (put_back 8192 8192 one x) ≡ r = put_low 8192 8192 one x xl fits 0 8192 (omega arith) ∙ put_part 0 8192 live r r_long (omega (arith, long)) in
      let high : writes_in (put_back 8192 8192 one x) ≡ x = put_part 8192 8192 one x xl fits in
      let kept : writes_in one ≡ writes_in live = put_high 0 8192 live r r_long (omega (arith, long)) 8192 8192 (omega arith) in
      record {
        long = put_long 8192 8192 one x xl fits ∙ one_long ∙ sym long;
        read = rw low a;
        written = rw (high, ← kept) b;
        after = put_after 8192 8192 one x xl fits ∙ rest;
      }
    where
      rest : drop 16384 one ≡ drop 16384 live
      rest =
          let e : drop (0 + 8192) one ≡ drop (0 + 8192) live = put_after 0 8192 live r r_long (omega (arith, long)) in
          sym (drop-drop 8192 8192 one) ∙ ap (drop 8192) e ∙ drop-drop 8192 8192 live

pub operands_more : {w live live' : List ℕ} {o : ℕ} → OperandsTo w live o → OperandsAdded w o live live' → OperandsTo w live' (o + 1)
operands_more {w} {live} {live'} {o} F A = record {
  long = A.long ∙ F.long;
  read = filled_more (reads_in live) (reads_in live') 1024 o (λ r v. mem v (ins w r)) (omega (arith, reads_part live F.long)) F.read A.read;
  written = filled_more (writes_in live) (writes_in live') 1024 o (λ r v. mem v (outs w r)) (omega (arith, writes_part live F.long)) F.written A.written;
  empty = A.after ∙ F.empty;
}

pub operands_all : {w live : List ℕ} {o : ℕ} → WellFormed w → operations w ≤ o → OperandsTo w live o → OperandRows w (reads_in live) (writes_in live) × Emptied 16384 live
operands_all {w} {live} {o} good h F = (
  record {
    reads_long = length_part 0 8192 live (omega (arith, F.long));
    writes_long = length_part 8192 8192 live (omega (arith, F.long));
    read = filled_ends (reads_in live) 1024 o (operations w) (λ r v. mem v (ins w r)) h good.sized.operations_most F.read;
    written = filled_ends (writes_in live) 1024 o (operations w) (λ r v. mem v (outs w r)) h good.sized.operations_most F.written;
  },
  record { long = F.long; empty = F.empty },
)

-- ---- use and def sets

-- one block: its use row, then its def row
module _ {w : List ℕ} (good : WellFormed w) {b : ℕ} (l : b < blocks w) (live : List ℕ) (long : length live ≡ 24576) {sets : List ℕ} (run : RangeSets w (ops w b) sets)
    (u : List ℕ) (a : Adds (uses_in live) (λ r v. eqb r b && has (use_set w b) v) u) where
  uses_long : length u ≡ 2048
  uses_long = a.long ∙ length_part 16384 2048 live (omega (arith, long))

  abbrev used_live : List ℕ
  used_live = put_back 16384 2048 live u

  pub used_long : length used_live ≡ 24576
  used_long = put_long 16384 2048 live u uses_long (omega (arith, long)) ∙ long

  pub block_added : (d : List ℕ) → d ≡ row_union (defs_in used_live) b (row_of sets 1) → BlockAdded w b live (put_back 18432 2048 used_live d)
  block_added d e =
      let kept : defs_in used_live ≡ defs_in live = put_high 16384 2048 live u uses_long (omega (arith, long)) 18432 2048 (omega arith) in
      let f : d ≡ row_union (defs_in live) b (row_of sets 1) = e ∙ ap (λ (t : List ℕ). row_union t b (row_of sets 1)) kept in
      let n : length d ≡ 2048 = ap length f ∙ length_union (defs_in live) b (row_of sets 1) ∙ length_part 18432 2048 live (omega (arith, long)) in
      let fits : 18432 + 2048 ≤ length used_live = omega (arith, used_long) in
      let us : uses_in (put_back 18432 2048 used_live d) ≡ u = put_low 18432 2048 used_live d n fits 16384 2048 (omega arith) ∙ put_part 16384 2048 live u uses_long (omega (arith, long)) in
      let ds : defs_in (put_back 18432 2048 used_live d) ≡ d = put_part 18432 2048 used_live d n fits in
      record {
        long = put_long 18432 2048 used_live d n fits ∙ used_long ∙ sym long;
        used = rw us a;
        defined = rw (ds, f) (row_defined good b l (defs_in live) run);
        before = front (put_back 18432 2048 used_live d) used_live (put_before 18432 2048 used_live d n fits) ∙ put_before 16384 2048 live u uses_long (omega (arith, long));
        after = put_after 18432 2048 used_live d n fits ∙ rest used_live live (put_after 16384 2048 live u uses_long (omega (arith, long)));
      }
    where
      front : (t u : List ℕ) → take 18432 t ≡ take 18432 u → take 16384 t ≡ take 16384 u
      front t u e = sym (take-take 16384 18432 t (omega arith)) ∙ ap (take 16384) e ∙ take-take 16384 18432 u (omega arith)

      rest : (t u : List ℕ) → drop 18432 t ≡ drop 18432 u → drop 20480 t ≡ drop 20480 u
      rest t u e = sym (drop-drop 2048 18432 t) ∙ ap (drop 2048) e ∙ drop-drop 2048 18432 u

-- the rows of the first b blocks are filled, the operand sets are as they were, and all from the end sets on is empty
pub record BlocksTo (w live₀ live : List ℕ) (b : ℕ) : Type 0 where
  pub long : length live ≡ 24576
  pub used : Filled (uses_in live) 256 b (λ r v. has (use_set w r) v)
  pub defined : Filled (defs_in live) 256 b (λ r v. has (def_set w r) v)
  pub before : take 16384 live ≡ take 16384 live₀
  pub empty : drop 20480 live ≡ replicate 4096 0

pub blocks_none : (w live : List ℕ) → Emptied 16384 live → BlocksTo w live live 0
blocks_none w live E = record {
  long = E.long;
  used = filled_starts (uses_in live) 2048 256 (λ r v. has (use_set w r) v) (empty_part 16384 16384 2048 live E (omega arith) (omega arith));
  defined = filled_starts (defs_in live) 2048 256 (λ r v. has (def_set w r) v) (empty_part 16384 18432 2048 live E (omega arith) (omega arith));
  before = refl;
  empty = empty_from 16384 20480 live E (omega arith) (omega arith);
}

module _ {w live₀ live : List ℕ} {b : ℕ} (F : BlocksTo w live₀ live b) where
  pub blocks_operands : length live₀ ≡ 24576 → OperandRows w (reads_in live₀) (writes_in live₀) → OperandRows w (reads_in live) (writes_in live)
  blocks_operands h =
      let r : reads_in live₀ ≡ reads_in live = same_front 0 8192 16384 live₀ live (omega arith) (omega (arith, h)) (omega (arith, F.long)) (sym F.before) in
      let x : writes_in live₀ ≡ writes_in live = same_front 8192 8192 16384 live₀ live (omega arith) (omega (arith, h)) (omega (arith, F.long)) (sym F.before) in
      subst (λ (t : List ℕ × List ℕ). OperandRows w t.0 t.1) (ap₂ (λ (p q : List ℕ). (p, q)) r x)

  pub blocks_more : {live' : List ℕ} → BlockAdded w b live live' → BlocksTo w live₀ live' (b + 1)
  blocks_more {live'} A = record {
    long = A.long ∙ F.long;
    used = filled_more (uses_in live) (uses_in live') 256 b (λ r v. has (use_set w r) v) (omega (arith, length_part 16384 2048 live (omega (arith, F.long)))) F.used A.used;
    defined = filled_more (defs_in live) (defs_in live') 256 b (λ r v. has (def_set w r) v) (omega (arith, length_part 18432 2048 live (omega (arith, F.long)))) F.defined A.defined;
    before = A.before ∙ F.before;
    empty = A.after ∙ F.empty;
  }

  pub blocks_all : WellFormed w → blocks w ≤ b → BlockRows w (uses_in live) (defs_in live) × Emptied 20480 live × (take 16384 live ≡ take 16384 live₀)
  blocks_all good h = (
    record {
      uses_long = length_part 16384 2048 live (omega (arith, F.long));
      defs_long = length_part 18432 2048 live (omega (arith, F.long));
      used = filled_ends (uses_in live) 256 b (blocks w) (λ r v. has (use_set w r) v) h good.sized.blocks_most F.used;
      defined = filled_ends (defs_in live) 256 b (blocks w) (λ r v. has (def_set w r) v) h good.sized.blocks_most F.defined;
    },
    record { long = F.long; empty = F.empty },
    F.before,
  )

-- ---- passes

-- what a step keeps is ready for the next one
pub passing_on : {w preds live sent live' sent' : List ℕ} {step : List Set → List Set} {told : Bool} → Passing w preds live sent → PassStep w step live live' sent' told → Passing w preds live' sent'
passing_on {w} {live = live} {live' = live'} P S =
    let l : length live' ≡ 24576 = S.long ∙ P.long in
    let u : uses_in live ≡ uses_in live' = same_front 16384 2048 22528 live live' (omega arith) (omega (arith, P.long)) (omega (arith, l)) (sym S.before) in
    let d : defs_in live ≡ defs_in live' = same_front 18432 2048 22528 live live' (omega arith) (omega (arith, P.long)) (omega (arith, l)) (sym S.before) in
    record {
      preds_rows = P.preds_rows;
      long = l;
      sent_long = S.stepped.sent_long;
      block_rows = subst (λ (t : List ℕ × List ℕ). BlockRows w t.0 t.1) (ap₂ (λ (p q : List ℕ). (p, q)) u d) P.block_rows;
      sent_on = S.stepped.sent_on;
    }

module _ {w : List ℕ} {f : List Set → List Set} {live live' sent' : List ℕ} {told : Bool} (S : PassStep w f live live' sent' told) where
  pub pass_as : {g : List Set → List Set} → ((e : List Set) → f e ≡ g e) → PassStep w g live live' sent' told
  pass_as h = record { stepped = stepped_as h S.stepped; long = S.long; before = S.before }

  pub pass_then : {g : List Set → List Set} {live'' sent'' : List ℕ} {later now : Bool} → PassStep w g live' live'' sent'' later → now ≡ (told || later) → PassStep w (λ e. g (f e)) live live'' sent'' now
  pass_then T e = record { stepped = stepped_then S.stepped T.stepped e; long = T.long ∙ S.long; before = T.before ∙ S.before }

module _ {w preds live sent : List ℕ} (P : Passing w preds live sent) where
  pub exits_part : length (exits_in live) ≡ 2048
  exits_part = length_part 22528 2048 live (omega (arith, P.long))

  pub pass_none : PassStep w (λ e. e) live live sent false
  pass_none = record { stepped = stepped_none exits_part P.sent_long P.sent_on; long = refl; before = refl }

  -- one block, where new is what its entry set has and was not sent before
  module _ (good : WellFormed w) (b : ℕ) (l : b < blocks w) {new : List ℕ} (un : Unsent (uses_in live) (defs_in live) (exits_in live) sent b new) where
    pub pass_empty : is_empty new ≡ true → PassStep w (λ e. back w e b) live live sent false
    pass_empty z = record { stepped = stepped_empty good b l exits_part P.sent_long P.sent_on un P.block_rows z; long = refl; before = refl }

    -- the exits are put back as x
    pass_put : {s x : List ℕ} {told : Bool} → s ≡ row_union sent b new → SentToPredecessors w b new (exits_in live) x told → PassStep w (λ e. back w e b) live (put_back 22528 2048 live x) s told
    pass_put {s} {x} {told} e t =
        let m : length x ≡ 2048 = t.sends.adds.long ∙ exits_part in
        let fits : 22528 + 2048 ≤ length live = omega (arith, P.long) in
        record {
          stepped = subst (λ (y : List ℕ). Stepped w (λ d. back w d b) (exits_in live) y s told) (sym (put_part 22528 2048 live x m fits)) (stepped_sent good b l exits_part P.sent_long P.sent_on un P.block_rows e t);
          long = put_long 22528 2048 live x m fits;
          before = put_before 22528 2048 live x m fits;
        }

    pub pass_sent : {s x : List ℕ} {told : Bool} → s ≡ row_union sent b new → SentToPredecessors w b new (take 2048 (drop 22528 live)) x told → PassStep w (λ e. back w e b) live (put_back 22528 2048 live x) s told
    unfolding part
    pass_sent e t = pass_put e t

-- before the first pass: the exits are empty, and nothing was sent
pub passing_starts : {w preds live : List ℕ} → WellFormed w → BlockRows w (uses_in live) (defs_in live) → Emptied 22528 live → PredecessorRows w preds
    → Passing w preds live (replicate 2048 0) × Settling w (exits_in live) (replicate 2048 0) 0 × (take 22528 live ≡ take 22528 live)
passing_starts {w} {live = live} good rows E P =
    let S : Settling w (exits_in live) (empty 2048) 0 = settling_starts good (exits_in live) (empty 2048) (empty_part 22528 22528 2048 live E (omega arith) (omega arith)) refl in (
      record { preds_rows = P; long = E.long; sent_long = empty_long 2048; block_rows = rows; sent_on = S.sent_on },
      S,
      refl,
    )

-- the end sets are put between the def sets and the exits
pub ended : {w live₀ live ends : List ℕ} → OperandRows w (reads_in live₀) (writes_in live₀) × Emptied 16384 live₀ → BlockRows w (uses_in live) (defs_in live) × Emptied 20480 live × (take 16384 live ≡ take 16384 live₀) → EndRows w ends
    → ExitsEmpty w (put_back 20480 2048 live ends)
ended {w} {live₀} {live} {ends} A B X =
    let E = B.1 in
    let fits : 20480 + 2048 ≤ length live = omega (arith, E.long) in
    let n = X.ends_long in
    let t = put_back 20480 2048 live ends in
    let low : (from n' : ℕ) → from + n' ≤ 20480 → part from n' t ≡ part from n' live = put_low 20480 2048 live ends n fits in
    let front : (from n' : ℕ) → from + n' ≤ 16384 → part from n' live₀ ≡ part from n' t = λ from n' h. same_front from n' 16384 live₀ live h (omega (arith, A.1.long)) (omega (arith, E.long)) (sym B.2) ∙ sym (low from n' (omega arith)) in
    record {
      operands = subst (λ (p : List ℕ × List ℕ). OperandRows w p.0 p.1) (ap₂ (λ (p q : List ℕ). (p, q)) (front 0 8192 (omega arith)) (front 8192 8192 (omega arith))) A.0;
      block_rows = subst (λ (p : List ℕ × List ℕ). BlockRows w p.0 p.1) (ap₂ (λ (p q : List ℕ). (p, q)) (sym (low 16384 2048 (omega arith))) (sym (low 18432 2048 (omega arith)))) B.0;
      ends = subst (EndRows w) (sym (put_part 20480 2048 live ends n fits)) X;
      emptied = record { long = put_long 20480 2048 live ends n fits ∙ E.long; empty = put_after 20480 2048 live ends n fits ∙ empty_from 20480 22528 live E (omega arith) (omega arith) };
    }

pub ends_empty : {live : List ℕ} → Emptied 20480 live → take 2048 (drop 20480 live) ≡ replicate 2048 0
unfolding part
ends_empty {live} E = empty_part 20480 20480 2048 live E (omega arith) (omega arith)

-- ---- all tables

pub live_stage : {w live₀ live : List ℕ} → WellFormed w → ExitsEmpty w live₀ → ExitsFound w live₀ live → LivenessStage w live
live_stage {w} {live₀} {live} good T X =
    let long₀ = T.emptied.long in
    let long : length live ≡ 24576 = X.long ∙ long₀ in
    let kept : (from n : ℕ) → from + n ≤ 22528 → part from n live₀ ≡ part from n live = λ from n h. same_front from n 22528 live₀ live h (omega (arith, long₀)) (omega (arith, long)) (sym X.before) in
    let rows' : BlockRows w (uses_in live) (defs_in live) = subst (λ (t : List ℕ × List ℕ). BlockRows w t.0 t.1) (ap₂ (λ (p q : List ℕ). (p, q)) (kept 16384 2048 (omega arith)) (kept 18432 2048 (omega arith))) T.block_rows in
    record {
      well_formed = good;
      long = long;
      operands = subst (λ (t : List ℕ × List ℕ). OperandRows w t.0 t.1) (ap₂ (λ (p q : List ℕ). (p, q)) (kept 0 8192 (omega arith)) (kept 8192 8192 (omega arith))) T.operands;
      sets = record {
        block_rows = rows';
        exits_long = length_part 22528 2048 live (omega (arith, long));
        exit_rows = X.exit_rows;
        exit_is = λ b l. exit_members good b l _ X.exit_rows;
        entry_is = λ b l v ws h. rw v (entry_members good b l _ X.exit_rows ws rows' h);
      };
      ends = subst (EndRows w) (kept 20480 2048 (omega arith)) T.ends;
    }
