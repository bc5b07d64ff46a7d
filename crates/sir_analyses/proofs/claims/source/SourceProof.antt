-- The source's own steps come to the predecessors, uses, sets, intervals, allocations, marks, owners and merged intervals of the
-- definitions.
use mathlib.Core.Path.{◌≡◌, ◌∙◌, ap}
use mathlib.Core.Bool.{false}
use Prim.Native.Nat.{ℕ, suc, ◌-◌}
use native.Mathlib.Omega.{arith}
use mathlib.Core.List.{List}
use lib.ListN.{length, get_or}
use lib.Dec.{eqb}
use Rattle.sir_data.specs.inner.WellFormed.{WellFormed}
use Rattle.sir_analyses.specs.Allocation.{allocs, rule12}
use Rattle.sir_analyses.specs.SourceLiveness.{propagated}
use Rattle.sir_analyses.specs.Claims.{SourceRule}
use Rattle.sir_analyses.proofs.claims.source.Tables.{source_predecessors_row, source_uses_row}
use Rattle.sir_analyses.proofs.claims.source.Liveness.{live_ends, source_exits, source_entries}
use Rattle.sir_analyses.proofs.claims.source.AnyOrder.{any_inserted, any_ended, any_drained}
use Rattle.sir_analyses.proofs.claims.source.Discovery.{source_allocations, source_bases, assertion_fails}
use Rattle.sir_analyses.proofs.claims.source.Marks.{source_after_lem, source_marks}
use Rattle.sir_analyses.proofs.claims.source.Owners.{source_owners}
use Rattle.sir_analyses.proofs.claims.source.Intervals.{reach_owned, local_intervals, source_merged}

pub source_rule : (w : List ℕ) → WellFormed w → rule12 w ≡ false → SourceRule w
source_rule w good twelve = record {
  predecessors_same = source_predecessors_row w;
  uses_same = source_uses_row w good;
  unchanged = live_ends w good;
  exits_same = source_exits w good;
  entries_same = source_entries w good;
  local_intervals_same = local_intervals w good twelve;
  allocations_same = source_allocations w;
  bases_same = source_bases w;
  asserted = assertion_fails w good ∙ twelve;
  drained = λ n h. (source_after_lem w good twelve n (length (allocs w) - n) (omega arith)).2;
  marks = source_marks w good twelve;
  owners_same = source_owners w good;
  owned = λ a v h free. reach_owned w good twelve a v h free ∙ ap (λ (o : List ℕ). eqb (get_or o v 0) (suc a)) (source_owners w good);
  intervals_same = source_merged w good twelve;
  any_order_inserted = λ p b. any_inserted p (propagated w p b);
  any_order_ended = any_ended;
  any_order_drained = any_drained;
}
