-- The visit in its flat array: the order's sequence, and which blocks were visited.
use mathlib.Core.Path.{◌≡◌, sym, ap, ◌∙◌}
use mathlib.Core.Bool.{not}
use mathlib.Core.List.{List}
use Prim.Native.Nat.{ℕ, ◌+◌, ◌≤◌, ◌<◌}
use native.Mathlib.Omega.{arith}
use lib.ListN.{length, get_or, set, take, replicate, length-set, length-replicate, get_or-replicate}
use lib.Seq.{get_or-set_same}
use lib.Dec.{eqb}
use Rattle.plank_core.specs.Lists.{one_if}
use Rattle.plank_core.specs.inner.DenseIndexSet.{contains}
use Rattle.plank_core.specs.laws.Lists.{one_if_told}
use Rattle.sir_data.specs.Records.{blocks}
use Rattle.sir_data.specs.inner.WellFormed.{WellFormed}
use Rattle.sir_analyses.specs.Order.{is_visited}
use Rattle.sir_analyses.specs.inner.Visiting.{VisitedAll, blocks_in, Listed}
use Rattle.sir_analyses.specs.inner.Stages.{part, VisitStage}
use Rattle.sir_analyses.proofs.stages.Parts.{length_part, part_get, part_shorter, part_set_low, put_back, put_part, put_long, put_low, put_high}
use Rattle.sir_analyses.proofs.local_liveness.LivenessTables.{cleared_part}
use Rattle.sir_analyses.proofs.loading.Loads.{blocks_fit, rpo_is}

-- ---- which blocks were seen, told for those below b

pub record FlagsTo (seen flags : List ℕ) (b : ℕ) : Type 0 where
  pub long : length flags ≡ 256
  pub told : (i : ℕ) → i < b → get_or flags i 0 ≡ one_if (contains seen (512 + i))
  pub empty : (i : ℕ) → b ≤ i → i < 256 → get_or flags i 0 ≡ 0

pub flags_none : (seen flags : List ℕ) → flags ≡ replicate 256 0 → FlagsTo seen flags 0
flags_none seen flags e = record {
  long = ap length e ∙ length-replicate {A = ℕ} 256 0;
  told = λ i h. absurd (omega arith);
  empty = λ i h l. ap (λ (t : List ℕ). get_or t i 0) e ∙ get_or-replicate 256 i 0 0 l;
}

-- ---- the whole visit

module _ {w seen postorder : List ℕ} {n : ℕ} (good : WellFormed w) (v : VisitedAll w seen postorder n) {table : List ℕ} (e : table ≡ replicate 513 0) where
  pub table_long : length table ≡ 513
  table_long = ap length e ∙ length-replicate {A = ℕ} 513 0

  pub rpo_room : length (part 1 256 table) ≡ 256
  rpo_room = length_part 1 256 table (omega (arith, table_long))

  rpo_empty : part 1 256 table ≡ replicate 256 0
  rpo_empty = cleared_part 1 256 513 table (omega arith) e

  module _ {rpo : List ℕ} {m : ℕ} (l : Listed (blocks_in (take n postorder)) 0 (part 1 256 table) rpo m) where
    rpo_long : length rpo ≡ 256
    rpo_long = l.long ∙ ap length rpo_empty ∙ length-replicate {A = ℕ} 256 0

    pub blocks_few : m ≤ 256
    blocks_few = omega (arith, l.next, blocks_fit good v)

    abbrev one : List ℕ
    one = put_back 1 256 table rpo

    one_long : length one ≡ 513
    one_long = put_long 1 256 table rpo rpo_long (omega (arith, table_long)) ∙ table_long

    pub rpo_put_long : length one ≡ 513
    rpo_put_long = one_long

    pub flags_empty : part 257 256 one ≡ replicate 256 0
    flags_empty = put_high 1 256 table rpo rpo_long (omega (arith, table_long)) 257 256 (omega arith) ∙ cleared_part 257 256 513 table (omega arith) e

    pub flags_put_long : (flags : List ℕ) → length flags ≡ 256 → length (put_back 257 256 one flags) ≡ 513
    flags_put_long flags h = put_long 257 256 one flags h (omega (arith, one_long)) ∙ one_long

    pub visit_stage : (flags : List ℕ) → (length flags ≡ 256) × ((b : ℕ) → b < blocks w → get_or flags b 0 ≡ one_if (contains seen (512 + b))) → VisitStage w (set (put_back 257 256 one flags) 0 m)
    visit_stage flags F =
        let two = put_back 257 256 one flags in
        let fits : 257 + 256 ≤ length one = omega (arith, one_long) in
        let two_long : length two ≡ 513 = put_long 257 256 one flags F.0 fits ∙ one_long in
        let count : get_or (set two 0 m) 0 0 ≡ m = get_or-set_same two 0 m 0 (omega (arith, two_long)) in
        let back : part 257 256 (set two 0 m) ≡ flags = part_set_low 257 256 0 m two (omega arith) ∙ put_part 257 256 one flags F.0 fits in
        let front : part 1 256 (set two 0 m) ≡ rpo = part_set_low 1 256 0 m two (omega arith) ∙ put_low 257 256 one flags F.0 fits 1 256 (omega arith) ∙ put_part 1 256 table rpo rpo_long (omega (arith, table_long)) in
        record {
          well_formed = good;
          long = length-set two 0 m ∙ two_long;
          few = omega (arith, count, blocks_few);
          rpo_is = ap (λ (k : ℕ). part 1 k (set two 0 m)) count ∙ part_shorter 1 m 256 (set two 0 m) blocks_few ∙ ap (take m) front ∙ rpo_is good v l;
          visited_is = λ b h.
              ap (λ (k : ℕ). not (eqb k 0)) (sym (part_get 257 256 b (set two 0 m) (omega (arith, good.sized.blocks_most))) ∙ ap (λ (t : List ℕ). get_or t b 0) back ∙ F.1 b h ∙ ap one_if (sym (v.shows.blocks_seen b (omega (arith, good.sized.blocks_most)))))
              ∙ one_if_told (is_visited w b);
        }
