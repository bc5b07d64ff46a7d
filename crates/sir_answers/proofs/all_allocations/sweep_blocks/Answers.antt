-- `sweep_blocks` meets its contract. The invariant: the pieces of the visited blocks below b are to be put.
use mathlib.Core.Path.{◌≡◌, sym, ap, ◌∙◌}
use mathlib.Core.List.{[]}
use Prim.Native.Nat.{◌-◌, ◌<◌}
use native.Mathlib.Omega.{arith}
use Rattle.sir_data.specs.Records.{blocks}
use Rattle.sir_answers.specs.inner.AllocationPieces.{sweep_pieces}
use Rattle.sir_answers.proofs.scatter.Scattering.{scattering_none, scattering_as, scattering_fits, scattering_more, scattering_all}
use Rattle.sir_answers.proofs.all_allocations.AllocationPieces.{visited_to, visited_next, visited_skip}
use Rattle.sir_answers.proofs.all_allocations.sweep_blocks.Goals as goal

pub loop-b-init : goal.loop-b-init
loop-b-init c =
    let n = c.block_count-count.ensures in
    scattering_as (ap (visited_to c.args.tables.image.words.now) (sym n)) (scattering_none c.requires.cursors_len.1)

pub sweep_block-requires : goal.sweep_block-requires
sweep_block-requires c =
    let w = c.args.tables.image.words.now in
    let L = c.loop-b in
    let h = c.loop-b-test.true in
    let b = L.b - 1 in
    let below : b < blocks w = omega (arith, h) in
    let t = sym (c.args.tables.visit_stage.visited_is b below) ∙ sym (rw c.visited.ensures.1 at c.is_visited.ensures) ∙ c.if-is_visited.true in
    let k = scattering_as (visited_next w L.b h t) L.invariant in
    record { owned_tables = c.requires.owned_tables; b_bound = below; cursors_len = (L.invariant.wide ∙ c.requires.cursors_len.0, scattering_fits (sweep_pieces w b) (visited_to w b) k) }

pub loop-b-preserved-then-is_visited : goal.loop-b-preserved-then-is_visited
loop-b-preserved-then-is_visited c =
    let w = c.args.tables.image.words.now in
    let L = c.loop-b in
    let h = c.loop-b-test.true in
    let b = L.b - 1 in
    let below : b < blocks w = omega (arith, h) in
    let t = sym (c.args.tables.visit_stage.visited_is b below) ∙ sym (rw c.visited.ensures.1 at c.is_visited.ensures) ∙ c.if-is_visited.true in
    let k = scattering_as (visited_next w L.b h t) L.invariant in
    scattering_more (visited_to w b) k c.sweep_block.ensures

pub loop-b-preserved : goal.loop-b-preserved
loop-b-preserved c =
    let w = c.args.tables.image.words.now in
    let L = c.loop-b in
    let h = c.loop-b-test.true in
    let b = L.b - 1 in
    let below : b < blocks w = omega (arith, h) in
    let t = sym (c.args.tables.visit_stage.visited_is b below) ∙ sym (rw c.visited.ensures.1 at c.is_visited.ensures) ∙ c.if-is_visited.false in
    scattering_as (visited_skip w L.b h t) L.invariant

pub returns : goal.returns
returns c =
    let L = c.loop-b in
    let z : L.b ≡ 0 = omega (arith, c.loop-b-test.false) in
    let e : visited_to c.args.tables.image.words.now L.b ≡ [] = rw z in
    scattering_all e L.invariant
