-- `open_columns` meets its contract. The invariant: the owners of the locals before this one are open.
use mathlib.Core.List.{List}
use mathlib.Core.Bool.{cond}
use mathlib.Core.Path.{refl, ap, ◌∙◌}
use Prim.Native.Nat.{ℕ, ◌+◌, ◌-◌, ◌*◌}
use native.Mathlib.Omega.{arith}
use lib.Seq.{take_all}
use lib.ListN.{length-set, get_or}
use Rattle.plank_core.specs.laws.Lists.{get_or_mem}
use Rattle.sir_analyses.proofs.allocation_liveness.PointerTables.{allocations_few}
use Rattle.sir_answers.specs.inner.Columns.{owns_some}
use Rattle.sir_answers.proofs.chart_columns.ColumnLaws.{opened_next, series_bounds}
use Rattle.sir_answers.proofs.chart_columns.open_columns.Goals as goal
use Rattle.sir_answers.proofs.chart_columns.open_columns.Goals.{in-Some, in_default}

pub loop-v-init : goal.loop-v-init
loop-v-init c = (c.requires.series_bound.1, λ k h. refl)

pub unmarked_owner-requires : goal.unmarked_owner-requires
unmarked_owner-requires c =
    let v = get_or c.args.ids.now c.loop-v.v-index 0 in
    let stage = c.requires.by_index.1 in
    let m = get_or_mem c.args.ids.now c.loop-v.v-index 0 c.loop-v-test.true in
    ((c.requires.by_index_2 v m).0, omega (arith, stage.discovered.owner_known v, allocations_few stage))

pub overflow_sub-columns : goal.overflow_sub-columns
overflow_sub-columns c =
    let v = get_or c.args.ids.now c.loop-v.v-index 0 in
    let m = get_or_mem c.args.ids.now c.loop-v.v-index 0 c.loop-v-test.true in
    let bounds = series_bounds c.args.series (c.in-Some.a.0 + 1) (rw c.in-Some.ensures.0 (c.requires.by_index_2 v m).1) in
    omega (arith, bounds.0)

pub bounds-columns-a : goal.bounds-columns-a
bounds-columns-a c =
    let v = get_or c.args.ids.now c.loop-v.v-index 0 in
    let m = get_or_mem c.args.ids.now c.loop-v.v-index 0 c.loop-v-test.true in
    let bounds = series_bounds c.args.series (c.in-Some.a.0 + 1) (rw c.in-Some.ensures.0 (c.requires.by_index_2 v m).1) in
    omega (arith, bounds.0, bounds.1, c.loop-v.invariant.0)

pub loop-v-preserved : goal.loop-v-preserved
loop-v-preserved c =
    let a = c.args in
    let l = c.loop-v in
    let h = c.loop-v-test.true in
    let v = get_or a.ids.now l.v-index 0 in
    let own = (c.requires.by_index_2 v (get_or_mem a.ids.now l.v-index 0 h)).1 in
    elim c.match-unmarked_owner.branch [
      | in-Some w ↦
          let bounds = series_bounds a.series (w.in-Some.a.0 + 1) (rw w.in-Some.ensures.0 own) in
          let place : ℕ = w.in-Some.a.0 - 64 * a.series in
          rw w.columns-is (
            length-set l.columns place 35 ∙ l.invariant.0,
            opened_next a.pointers.now a.ids.now l.columns a.columns.now a.series l.v-index (w.in-Some.a.0 + 1) place h w.in-Some.ensures.0 (omega (arith, bounds.0)) (omega (arith, bounds.0, bounds.1, l.invariant.0)) l.invariant.1,
          )
      | in_default w ↦
          let bounds = series_bounds a.series 0 (rw w.in_default.ensures.0 own) in
          absurd (omega (arith, bounds.0))
    ]

pub returns : goal.returns
returns c =
    let a = c.args in
    let l = c.loop-v in
    λ k h. l.invariant.1 k h ∙ ap (λ (ids : List ℕ). cond (owns_some a.pointers.now ids (64 * a.series + k)) 35 (get_or a.columns.now k 0)) (take_all l.v-index a.ids.now c.loop-v-test.false)
