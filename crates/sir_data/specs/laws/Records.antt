-- What the readers of records share: runs as parts of the words, and successors by place.
use Rattle.std.specs.Prelude.{◌≡◌, ℕ, zero, suc, ◌+◌, ◌-◌, ◌<◌, ◌≤◌, Bool, true, false, List, [], ◌∷◌, ◌++◌, map, length, take, drop, ◌==◌, slice_index, refl, Option, Some, None}
use Rattle.std.proofs.Common.{sym, ap, ◌∙◌, arith, rules, get_or, add-suc, length-append, drop-cons, get_or-append-add, eqb-true, ne_eqb}
use Rattle.std.proofs.Math.ListN.{get_or-append}
use Rattle.std.specs.Option.{IsSome}
use Rattle.plank_core.specs.declared.index.BlockId.{BlockId}
use Rattle.plank_core.specs.Lists.{count}
use Rattle.plank_core.specs.laws.Loops.{length_map_count, get_or_map_count}
use Rattle.sir_data.specs.Records.{operands_at, operand_words, target, run, control, field, optional, successors}
use Rattle.sir_data.specs.inner.Cases.{block_ids}
use Rattle.sir_data.specs.inner.WellFormed.{Sized}

-- ---- runs

-- n words from a + s on, one by one or as a part
pub count_part : (w : List ℕ) (a s n : ℕ) → a + s + n ≤ length w → map (λ i. slice_index w (a + i)) (count s n) ≡ take n (drop (a + s) w)
count_part w a s zero h = refl
count_part w a s (suc n) h =
    rw (drop-cons w (a + s) 0 (omega arith))
    (ap (λ (xs : List ℕ). slice_index w (a + s) ∷ xs) (rw (← add-suc) (count_part w a (suc s) n (omega arith))))

pub run_part : (w : List ℕ) (s e : ℕ) → Sized w → s ≤ e → e ≤ operand_words w → run w s e ≡ take (e - s) (drop (operands_at w + s) w)
run_part w s e z h k = count_part w (operands_at w) s (e - s) (omega arith)

-- ---- one more, perhaps

-- the optional id that a list of none or one stands for
pub optional_none : (k : ℕ) → [] ≡ optional k → k ≡ 0
optional_none zero e = refl
optional_none (suc n) e = absurd (omega (arith, ap length e))

pub optional_one : (k f : ℕ) → f ∷ [] ≡ optional k → k ≡ suc f
optional_one zero f e = absurd (omega (arith, ap length e))
optional_one (suc n) f e = ap suc (sym (ap (λ (l : List ℕ). slice_index l 0) e))

pub optional_some : (k : ℕ) → ¬ (k ≡ 0) → length (optional k) ≡ 1
optional_some zero h = absurd (h refl)
optional_some (suc k) h = refl

-- a block that is named as one or none is there where the number is not 0, and it is one less
pub block_some : (r : Option BlockId) (k : ℕ) → block_ids r ≡ optional k → 0 < k → IsSome r
block_some (Some b) k e h = search rules
block_some None zero e h = absurd (omega (arith, h))
block_some None (suc k) e h = absurd (omega (arith, ap length e))

pub block_named : (b : BlockId) (k : ℕ) → block_ids (Some b) ≡ optional k → 0 < k → b.0 ≡ k - 1
block_named b zero e h = absurd (omega (arith, h))
block_named b (suc k) e h =
    let same : b.0 ≡ k = ap (λ (l : List ℕ). get_or l 0 0) e in
    omega (arith, same)

-- past the others: the one more
pub optional_last : (xs : List ℕ) (k i : ℕ) → length xs ≤ i → i < length (xs ++ optional k) → (0 < k) × (slice_index (xs ++ optional k) i ≡ k - 1)
optional_last xs zero i l h = absurd (omega (arith, length-append xs []))
optional_last xs (suc k) i l h =
    let e : i ≡ length xs + 0 = omega (arith, length-append xs (k ∷ [])) in
    let p : k ≡ suc k - 1 = omega arith in
    (omega arith, rw e (get_or-append-add xs (k ∷ []) 0 0) ∙ p)

-- ---- successors, by control kind

module _ (w : List ℕ) (b : ℕ) where
  pub continue_at : control w b ≡ 2 → (i : ℕ) → i < length (successors w b) → slice_index (successors w b) i ≡ field w b 0
  continue_at kind i h =
      let l : i < 1 = rw kind at h in
      let e : i ≡ 0 = omega arith in
      rw (kind, e)

  pub branch_other : control w b ≡ 3 → (i : ℕ) → ¬ (i ≡ 0) → i < length (successors w b) → slice_index (successors w b) i ≡ field w b 1
  branch_other kind i n h =
      let l : i < 2 = rw kind at h in
      let e : i ≡ 1 = omega arith in
      rw (kind, e)

  -- a block with a successor that neither continues nor branches is a switch
  pub is_switch : {k i : ℕ} → k ≡ control w b → ¬ (k ≡ 2) → ¬ (k ≡ 3) → i < length (successors w b) → control w b ≡ 4
  is_switch {k} {i} same n2 n3 h = go (control w b == 4) refl
    where
      go : (t : Bool) → (control w b == 4) ≡ t → control w b ≡ 4
      go true e = eqb-true (control w b) 4 e
      go false e =
          let z : i < 0 = simp (ne_eqb (control w b) 2 (rw same at n2), ne_eqb (control w b) 3 (rw same at n3), e) at h in
          absurd (omega arith)

  module _ (kind : control w b ≡ 4) where
    abbrev targets : List ℕ
    targets = map (target w) (count (field w b 1) (field w b 2))

    pub switch_count : length (successors w b) ≡ field w b 2 + length (optional (field w b 3))
    switch_count = rw kind (length-append targets (optional (field w b 3)) ∙ rw length_map_count)

    pub switch_target : (i : ℕ) → i < field w b 2 → slice_index (successors w b) i ≡ target w (field w b 1 + i)
    switch_target i h =
        rw kind
        (get_or-append targets (optional (field w b 3)) 0 i (rw length_map_count h)
        ∙ get_or_map_count (target w) (field w b 1) (field w b 2) i 0 h)

    pub switch_fallback : (i : ℕ) → field w b 2 ≤ i → i < length (successors w b) → (0 < field w b 3) × (slice_index (successors w b) i ≡ field w b 3 - 1)
    switch_fallback i l h = rw kind (optional_last targets (field w b 3) i (rw length_map_count l) (rw kind at h))
