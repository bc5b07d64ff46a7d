-- `operation_times` meets its contract. The invariant: the operations of the blocks left are to be counted.
use mathlib.Core.Path.{sym, ap, ◌∙◌}
use mathlib.Core.List.{List}
use Prim.Native.Nat.{ℕ, ◌+◌}
use native.Mathlib.Omega.{arith}
use lib.ListN.{get_or, drop}
use Rattle.plank_core.specs.Lists.{bind}
use Rattle.plank_core.specs.laws.Lists.{get_or_mem}
use Rattle.plank_core.specs.laws.Loops.{bind_drop_step, bind_drop_end}
use Rattle.sir_answers.specs.inner.Pieces.{one_pieces}
use Rattle.sir_answers.proofs.scatter.Scattering.{scattering_none, scattering_as, scattering_fits, scattering_more, scattering_all, scatters_as, fits_as}
use Rattle.sir_analyses.proofs.claims.order.OrderLength.{rpo_below}
use Rattle.sir_answers.proofs.all_uses.UsePieces.{ones_most}
use Rattle.sir_answers.proofs.scatter.AllAnswers.{scatters_cursor, zero_room}
use Rattle.sir_answers.proofs.all_uses.operation_times.Goals as goal

pub loop-b-init : goal.loop-b-init
loop-b-init c =
    let w = c.args.visited.image.words.now in
    scattering_none (fits_as (ap (λ (l : List ℕ). bind l (one_pieces w)) (sym (c.rpo-order.ensures ∙ c.args.visited.visit_stage.rpo_is))) (zero_room c.requires.times_len.1 (λ o h. omega (arith, ones_most w c.args.visited.visit_stage.well_formed o))))

pub invariant_of-block : goal.invariant_of-block
invariant_of-block c =
    let w = c.args.visited.image.words.now in
    let good = c.args.visited.visit_stage.well_formed in
    let order = c.rpo-order.result.now in
    let i = c.loop-b.b-index in
    let b = get_or order i 0 in
    let h = c.loop-b-test.true in
    record { known = rpo_below w good (c.rpo-order.ensures ∙ c.args.visited.visit_stage.rpo_is) b (get_or_mem order i 0 h) }

pub count_operations-requires : goal.count_operations-requires
count_operations-requires c =
    let w = c.args.visited.image.words.now in
    let good = c.args.visited.visit_stage.well_formed in
    let order = c.rpo-order.result.now in
    let i = c.loop-b.b-index in
    let b = get_or order i 0 in
    let h = c.loop-b-test.true in
    record { times_len = c.loop-b.invariant.wide ∙ c.requires.times_len.0; fits = scattering_fits (one_pieces w b) (bind (drop (i + 1) order) (one_pieces w)) (scattering_as (bind_drop_step (one_pieces w) order i h) c.loop-b.invariant) }

pub loop-b-preserved : goal.loop-b-preserved
loop-b-preserved c =
    let w = c.args.visited.image.words.now in
    let order = c.rpo-order.result.now in
    let i = c.loop-b.b-index in
    scattering_more (bind (drop (i + 1) order) (one_pieces w)) (scattering_as (bind_drop_step (one_pieces w) order i c.loop-b-test.true) c.loop-b.invariant) c.count_operations.ensures

pub returns : goal.returns
returns c =
    let g = one_pieces c.args.visited.image.words.now in
    let e = ap (λ (l : List ℕ). bind l g) (c.rpo-order.ensures ∙ c.args.visited.visit_stage.rpo_is) in
    let p = scatters_as e (scattering_all (bind_drop_end g c.rpo-order.result.now c.loop-b.b-index c.loop-b-test.false) c.loop-b.invariant) in
    record {
      wide = c.loop-b.invariant.wide ∙ c.requires.times_len.0;
      times_is = λ o h. scatters_cursor o (omega (arith, c.requires.times_len.0, c.args.visited.visit_stage.well_formed.sized.operations_most)) p ∙ omega (arith, c.requires.times_len.1 o);
    }
