-- The ends that are open for the locals of a block, as its operations are passed backwards.
use mathlib.Core.Path.{◌≡◌, refl, sym, ap, ap₂, ◌∙◌}
use mathlib.Core.Logic.{⊎_elim}
use mathlib.Core.Bool.{Bool, true, false, not, ◌&&◌, ◌||◌, cond, and-false}
use mathlib.Core.List.Memᴰ
use mathlib.Core.List.{List, [], ◌∷◌, ◌++◌}
use Prim.Native.Nat.{ℕ, ◌+◌, ◌*◌, ◌≤◌, ◌<◌}
use native.Mathlib.Omega.{arith}
use lib.ListN.{length, get_or, drop, set, drop_of_length-le}
use lib.Seq.{get_or-set_same, get_or-set_other}
use lib.Dec.{eqb}
use borrow.Author.Tests.{ne_eqb, eqb-true, eqb-false, not-false}
use Rattle.plank_core.specs.Lists.{upto, range, mem, ◌∈◌}
use Rattle.plank_core.specs.laws.Lists.{split, same_tests, mem_in, in_mem, get_or_mem, bind_mem, mem_upto}
use Rattle.plank_core.specs.laws.Loops.{drop_next}
use Rattle.plank_core.specs.inner.DenseIndexSet.{contains, members, row_of}
use Rattle.plank_core.specs.laws.DenseIndexSet.{contains_row}
use Rattle.plank_core.specs.laws.Members.{member_in, member_is}
use Rattle.plank_core.specs.laws.Folds.{bind_kept, bind_each}
use Rattle.sir_data.specs.Records.{blocks, operations, locals, block_word, ops, outs}
use Rattle.sir_data.specs.inner.WellFormed.{WellFormed}
use Rattle.sir_analyses.specs.Liveness.{has, exit_set, block_end, end_open, closing}
use Rattle.sir_analyses.specs.inner.Tables.{EntryWords}
use Rattle.sir_analyses.specs.inner.Stages.{LivenessStage, reads_in, writes_in, uses_in, defs_in, ends_in, exits_in}
use Rattle.sir_analyses.specs.inner.Scanning.{closed_by}
use Rattle.sir_answers.specs.inner.Scatter.{Pieces, Direction, number_at, Below, Fits, Scatters}
use Rattle.sir_answers.specs.inner.IntervalPieces.{interval_pieces, closed_pieces, open_end, OpenEnds, operation_pieces, start_pieces}
use Rattle.sir_analyses.proofs.claims.liveness.LivenessProof.{exit_size}
use Rattle.sir_analyses.proofs.local_liveness.Stepping.{entry_shows}
use Rattle.sir_analyses.proofs.claims.lifetimes.Scans.{live_in}
use Rattle.sir_analyses.proofs.merged_intervals.SweepProof.{scan_live}
use Rattle.sir_answers.proofs.all_intervals.IntervalPieces.{scanned_open, never_open}
use Rattle.sir_analyses.proofs.local_intervals.Scanning.{end_either}
use Rattle.sir_answers.proofs.scatter.Scattering.{Scattering, scattering_none, scattering_as, scattering_fits, scattering_more, scattering_all}

-- ---- an array after one store

pub at_set : (xs : List ℕ) (i x v : ℕ) → i < length xs → number_at (set xs i x) v ≡ cond (eqb v i) x (number_at xs v)
at_set xs i x v h = go (eqb v i) refl
  where
    go : (t : Bool) → eqb v i ≡ t → number_at (set xs i x) v ≡ cond t x (number_at xs v)
    go true e = ap (number_at (set xs i x)) (eqb-true v i e) ∙ get_or-set_same xs i x 0 h
    go false e = get_or-set_other xs i v x 0 (eqb-false v i e)

-- ---- ends are set for some ids: what is left decides

module _ (ids : List ℕ) (i : ℕ) (h : i < length ids) (till : List ℕ) (to : ℕ) (l : get_or ids i 0 < length till) (v : ℕ) where
  pub set_next : cond (mem v (drop (i + 1) ids)) to (number_at (set till (get_or ids i 0) to) v) ≡ cond (mem v (drop i ids)) to (number_at till v)
  set_next =
      ap (cond (mem v (drop (i + 1) ids)) to) (at_set till (get_or ids i 0) to v l)
      ∙ go (eqb v (get_or ids i 0)) (mem v (drop (i + 1) ids))
      ∙ ap (λ (xs : List ℕ). cond (mem v xs) to (number_at till v)) (sym (drop_next i ids h))
    where
      go : (e m : Bool) → cond m to (cond e to (number_at till v)) ≡ cond (e || m) to (number_at till v)
      go true true = refl
      go true false = refl
      go false m = refl

  -- where none is open
  pub open_next : number_at till (get_or ids i 0) ≡ 0
      → (let t : ℕ = number_at (set till (get_or ids i 0) to) v in cond (mem v (drop (i + 1) ids) && eqb t 0) to t) ≡ cond (mem v (drop i ids) && eqb (number_at till v) 0) to (number_at till v)
  open_next z =
      ap (λ (t : ℕ). cond (mem v (drop (i + 1) ids) && eqb t 0) to t) (at_set till (get_or ids i 0) to v l)
      ∙ go (eqb v (get_or ids i 0)) refl (mem v (drop (i + 1) ids))
      ∙ ap (λ (xs : List ℕ). cond (mem v xs && eqb (number_at till v) 0) to (number_at till v)) (sym (drop_next i ids h))
    where
      same : (t : Bool) → cond t to to ≡ to
      same true = refl
      same false = refl

      go : (e : Bool) → eqb v (get_or ids i 0) ≡ e → (m : Bool)
          → (let t : ℕ = cond e to (number_at till v) in cond (m && eqb t 0) to t) ≡ cond ((e || m) && eqb (number_at till v) 0) to (number_at till v)
      go true e m = same (m && eqb to 0) ∙ sym (rw (ap (number_at till) (eqb-true v (get_or ids i 0) e) ∙ z))
      go false e m = refl

  -- where one is
  pub open_skip : ¬ (number_at till (get_or ids i 0) ≡ 0) → cond (mem v (drop (i + 1) ids) && eqb (number_at till v) 0) to (number_at till v) ≡ cond (mem v (drop i ids) && eqb (number_at till v) 0) to (number_at till v)
  open_skip z =
      go (eqb v (get_or ids i 0)) refl (mem v (drop (i + 1) ids))
      ∙ ap (λ (xs : List ℕ). cond (mem v xs && eqb (number_at till v) 0) to (number_at till v)) (sym (drop_next i ids h))
    where
      go : (e : Bool) → eqb v (get_or ids i 0) ≡ e → (m : Bool) → cond (m && eqb (number_at till v) 0) to (number_at till v) ≡ cond ((e || m) && eqb (number_at till v) 0) to (number_at till v)
      go true e m =
          let f : eqb (number_at till v) 0 ≡ false = ne_eqb (number_at till v) 0 (λ q. z (sym (ap (number_at till) (eqb-true v (get_or ids i 0) e)) ∙ q)) in
          rw (f, and-false)
      go false e m = refl

module _ (ids : List ℕ) (i : ℕ) (h : length ids ≤ i) (till : List ℕ) (to v : ℕ) where
  pub set_end : cond (mem v (drop i ids)) to (number_at till v) ≡ number_at till v
  set_end = rw (drop_of_length-le ids {i = i} h)

  pub open_end_lem : cond (mem v (drop i ids) && eqb (number_at till v) 0) to (number_at till v) ≡ number_at till v
  open_end_lem = rw (drop_of_length-le ids {i = i} h)

-- ---- what a start closes for some ids, one after the other

module _ (b from : ℕ) (till ids : List ℕ) where
  -- the pieces from id i on
  abbrev closed_left : ℕ → Pieces
  closed_left i = closed_pieces b from (number_at till) (drop i ids)

  closed_next : (i : ℕ) → i < length ids → ¬ (number_at till (get_or ids i 0) ≡ 0) → closed_left i ≡ ((get_or ids i 0, b ∷ from ∷ number_at till (get_or ids i 0) ∷ []) ∷ []) ++ closed_left (i + 1)
  closed_next i h z = ap (closed_pieces b from (number_at till)) (drop_next i ids h) ∙ rw (ne_eqb (number_at till (get_or ids i 0)) 0 z)

  closed_skip : (i : ℕ) → i < length ids → number_at till (get_or ids i 0) ≡ 0 → closed_left i ≡ closed_left (i + 1)
  closed_skip i h z = ap (closed_pieces b from (number_at till)) (drop_next i ids h) ∙ rw z

  closed_end : (i : ℕ) → length ids ≤ i → closed_left i ≡ []
  closed_end i h = ap (closed_pieces b from (number_at till)) (drop_of_length-le ids {i = i} h)

  -- an id for which something is closed
  closed_known : {n : ℕ} (i : ℕ) → i < length ids → ¬ (number_at till (get_or ids i 0) ≡ 0) → Below n (closed_pieces b from (number_at till) ids) → get_or ids i 0 < n
  closed_known i h z below =
      let v : ℕ = get_or ids i 0 in
      below (v, b ∷ from ∷ number_at till v ∷ []) (bind_mem (λ u. interval_pieces u (closing b from (number_at till u))) (get_or_mem ids i 0 h) (rw (ne_eqb (number_at till v) 0 z) (Memᴰ.head refl)))

-- those from id i on are to be put, whichever way the segments are filled
pub record Closing (d : Direction) (b from : ℕ) (till ids cursors₀ out₀ : List ℕ) (i : ℕ) (cursors out : List ℕ) : Type 0 where
  pub put : Scattering d (closed_pieces b from (number_at till) ids) cursors₀ out₀ (closed_left b from till ids i) cursors out

pub closing_none : {d : Direction} {b from : ℕ} {till ids cursors out : List ℕ} → Fits d (closed_pieces b from (number_at till) ids) cursors → Closing d b from till ids cursors out 0 cursors out
closing_none f = record { put = scattering_none f }

module _ {d : Direction} {b from : ℕ} {till ids cursors₀ out₀ : List ℕ} {i : ℕ} {cursors out : List ℕ} (k : Closing d b from till ids cursors₀ out₀ i cursors out) where
  -- what is closed for the next id
  abbrev closed_piece : ℕ × List ℕ
  closed_piece = (get_or ids i 0, b ∷ from ∷ number_at till (get_or ids i 0) ∷ [])

  module _ (h : i < length ids) (z : ¬ (number_at till (get_or ids i 0) ≡ 0)) where
    closing_next : Scattering d (closed_pieces b from (number_at till) ids) cursors₀ out₀ ((closed_piece ∷ []) ++ closed_left b from till ids (i + 1)) cursors out
    closing_next = scattering_as (closed_next b from till ids i h z) k.put

    -- it can be put
    pub closing_fits : Below (length cursors₀) (closed_pieces b from (number_at till) ids) → (get_or ids i 0 < length cursors) × Fits d (closed_piece ∷ []) cursors
    closing_fits below = (omega (arith, closed_known b from till ids i h z below, k.put.wide), scattering_fits (closed_piece ∷ []) (closed_left b from till ids (i + 1)) closing_next)

    pub closing_more : {cursors' out' : List ℕ} → Scatters d (closed_piece ∷ []) cursors out cursors' out' → Closing d b from till ids cursors₀ out₀ (i + 1) cursors' out'
    closing_more p = record { put = scattering_more (closed_left b from till ids (i + 1)) closing_next p }

  -- no end is open for it
  pub closing_skip : i < length ids → number_at till (get_or ids i 0) ≡ 0 → Closing d b from till ids cursors₀ out₀ (i + 1) cursors out
  closing_skip h z = record { put = scattering_as (closed_skip b from till ids i h z) k.put }

  pub closing_all : length ids ≤ i → Scatters d (closed_pieces b from (number_at till) ids) cursors₀ out₀ cursors out
  closing_all h = scattering_all (closed_end b from till ids i h) k.put

-- ---- the members of a row, and what is closed for them

pub mem_members : (ws : List ℕ) (v : ℕ) → v < 512 → mem v (members ws) ≡ contains ws v
mem_members ws v h = same_tests (mem v (members ws)) (contains ws v) (λ e. (member_is ws v (mem_in v (members ws) e)).1) (λ e. in_mem v (member_in ws v h e))

pub mem_row : (t : List ℕ) (r v : ℕ) → v < 512 → mem v (members (row_of t r)) ≡ contains t (512 * r + v)
mem_row t r v h = mem_members (row_of t r) v h ∙ contains_row t r v h

-- what is listed of a set is small
pub listed_below : {ids : List ℕ} (ws till : List ℕ) → ids ≡ members ws → length till ≡ 512 → (v : ℕ) → v ∈ ids → v < length till
listed_below ws till e l v m = omega (arith, (member_is ws v (rw e at m)).0)

pub closed_members : (ws till : List ℕ) (b from : ℕ) (ends : ℕ → ℕ) → ((v : ℕ) → v < 512 → ends v ≡ cond (contains ws v) (number_at till v) 0) → closed_pieces b from (number_at till) (members ws) ≡ closed_pieces b from ends (upto 512)
unfolding members
closed_members ws till b from ends e =
    sym (bind_kept (contains ws) (λ v. interval_pieces v (closing b from (number_at till v))) (upto 512))
    ∙ bind_each (λ v. cond (contains ws v) (interval_pieces v (closing b from (number_at till v))) []) (λ v. interval_pieces v (closing b from (ends v))) (upto 512)
    (λ v m. sym (ap (λ (t : ℕ). interval_pieces v (closing b from t)) (e v (mem_upto v 512 m)) ∙ go v (contains ws v)))
  where
    go : (v : ℕ) (t : Bool) → interval_pieces v (closing b from (cond t (number_at till v) 0)) ≡ cond t (interval_pieces v (closing b from (number_at till v))) []
    go v true = refl
    go v false = refl

-- ---- the ends that are open after a block's operations

pub block_opened : (exits ends : List ℕ) (b v x y z : ℕ) → v < 512 → x ≡ 0 → y ≡ cond (mem v (members (row_of exits b))) block_end x → z ≡ cond (mem v (members (row_of ends b))) block_end y
    → z ≡ end_open (contains exits (512 * b + v) || contains ends (512 * b + v))
block_opened exits ends b v x y z h e f g =
    g ∙ ap₂ (λ (t : Bool) (k : ℕ). cond t block_end k) (mem_row ends b v h) (f ∙ ap₂ (λ (t : Bool) (k : ℕ). cond t block_end k) (mem_row exits b v h) e) ∙ end_either (contains exits (512 * b + v)) (contains ends (512 * b + v))

module _ {w live : List ℕ} (stage : LivenessStage w live) {b : ℕ} (l : b < blocks w) where
  pub ends_none : {till : List ℕ} → length till ≡ 512 → ((v : ℕ) → v < 512 → number_at till v ≡ end_open (contains (exits_in live) (512 * b + v) || contains (ends_in live) (512 * b + v))) → OpenEnds w b [] till
  unfolding open_end
  ends_none long e = record { long = long; end_is = λ v h. e v h ∙ rw (stage.sets.exit_rows b v l h, stage.ends.ended b v l h) }

  -- ---- one operation

  module _ {os till : List ℕ} (k : OpenEnds w b os till) {o : ℕ} (m : o < operations w) where
    -- what it closes
    pub operation_closed : os ≡ range (o + 1) (block_word w b 5) → closed_pieces b (o + 1) (number_at till) (members (row_of (writes_in live) o)) ≡ operation_pieces w b o
    unfolding operation_pieces
    operation_closed e =
        closed_members (row_of (writes_in live) o) till b (o + 1) (λ v. closed_by (mem v (outs w o)) (open_end w b v (range (o + 1) (block_word w b 5))))
        (λ v h. ap₂ closed_by (sym (contains_row (writes_in live) o v h ∙ stage.operands.written o v m h)) (ap (open_end w b v) (sym e) ∙ sym (k.end_is v h)))

    -- what is open before it
    pub ends_more : (till₁ : List ℕ) {till₂ : List ℕ} → length till₂ ≡ 512 → ((v : ℕ) → number_at till₁ v ≡ cond (mem v (members (row_of (writes_in live) o))) 0 (number_at till v))
        → ((v : ℕ) → number_at till₂ v ≡ cond (mem v (members (row_of (reads_in live) o)) && eqb (number_at till₁ v) 0) (o + 1) (number_at till₁ v)) → OpenEnds w b (o ∷ os) till₂
    unfolding open_end
    ends_more till₁ long e f = record {
      long = long;
      end_is = λ v h.
          f v ∙ ap₂ (λ (r : Bool) (t : ℕ). cond (r && eqb t 0) (o + 1) t) (mem_row (reads_in live) o v h ∙ stage.operands.read o v m h)
          (e v ∙ ap₂ (λ (g : Bool) (t : ℕ). cond g 0 t) (mem_row (writes_in live) o v h ∙ stage.operands.written o v m h) (k.end_is v h));
    }

  -- ---- the start of the block

  pub start_closed : {till : List ℕ} (ws : List ℕ) → OpenEnds w b (ops w b) till → EntryWords (uses_in live) (defs_in live) (exits_in live) b ws → closed_pieces b 0 (number_at till) (members ws) ≡ start_pieces w b
  unfolding start_pieces
  start_closed {till} ws k entry =
      closed_members ws till b 0 (λ v. open_end w b v (ops w b))
      (λ v h. go v h (contains ws v) (entry_shows good b l ws (exits_in live) (exit_set w b) stage.sets.block_rows entry (exit_size w good b l) (λ v h. stage.sets.exit_rows b v l h) v h) (sym (k.end_is v h)))
    where
      good : WellFormed w
      good = stage.well_formed

      zero_open : {n : ℕ} → not (eqb n 0) ≡ false → n ≡ 0
      zero_open {n} e = eqb-true n 0 (not-false (eqb n 0) e)

      go : (v : ℕ) → v < 512 → (t : Bool) → t ≡ has (live_in w b (ops w b)) v → open_end w b v (ops w b) ≡ number_at till v → open_end w b v (ops w b) ≡ cond t (number_at till v) 0
      go v h true e f = f
      go v h false e f = ⊎_elim
          (λ (q : v < locals w). sym (scanned_open w b v (ops w b)) ∙ zero_open (scan_live w b v (ops w b) (omega (arith, exit_size w good b l)) ∙ sym e))
          (λ (q : locals w ≤ v). never_open good l v (ops w b) q (λ o. good.in_range.op b o l))
          (split v (locals w))

-- pieces that are those of a definition can be put where those can
pub close_ready : {d : Direction} {n : ℕ} {ps qs : Pieces} {cursors : List ℕ} → qs ≡ ps → length cursors ≡ n → Below n ps → Fits d ps cursors → Below (length cursors) qs × Fits d qs cursors
close_ready e l below fits = (rw (e, l) below, rw e fits)
