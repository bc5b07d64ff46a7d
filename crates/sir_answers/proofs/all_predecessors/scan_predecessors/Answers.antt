-- `scan_predecessors` meets its contract. The invariant: the pieces of the visited blocks from p on are to be put.
use mathlib.Core.Path.{◌≡◌, sym, ◌∙◌}
use mathlib.Core.Bool.{true}
use Prim.Native.Nat.{◌+◌, ◌<◌}
use native.Mathlib.Omega.{arith}
use Rattle.plank_core.specs.laws.Loops.{range_all}
use Rattle.sir_data.specs.Records.{blocks}
use Rattle.sir_analyses.specs.Order.{is_visited}
use Rattle.sir_answers.specs.inner.Pieces.{edge_pieces}
use Rattle.sir_answers.proofs.scatter.Scattering.{scattering_none, scattering_as, scattering_fits, scattering_more, scattering_all}
use Rattle.sir_analyses.proofs.predecessors.Edges.{visited_left, visited_step, unvisited_step, visited_end}
use Rattle.sir_answers.proofs.all_predecessors.scan_predecessors.Goals as goal
use Rattle.sir_answers.proofs.all_predecessors.scan_predecessors.Goals.{then-is_visited, else-is_visited}

pub loop-p-init : goal.loop-p-init
loop-p-init c = scattering_as (rw (c.block_count-count.ensures, range_all)) (scattering_none c.requires.cursors_len.1)

pub scan_edges-requires : goal.scan_edges-requires
scan_edges-requires c =
    let w = c.args.visited.image.words.now in
    let p = c.loop-p.p in
    let n = c.block_count-count.result in
    let h : p < blocks w = omega (arith, c.block_count-count.ensures, c.loop-p-test.true) in
    let t : is_visited w p ≡ true = sym (c.args.visited.visit_stage.visited_is p h) ∙ sym c.is_visited.ensures ∙ c.if-is_visited.true in
    let e = visited_step w (edge_pieces w) p n c.loop-p-test.true t in
    record { cursors_len = c.loop-p.invariant.wide ∙ c.requires.cursors_len.0; fits = scattering_fits (edge_pieces w p) (visited_left w (edge_pieces w) (p + 1) n) (scattering_as e c.loop-p.invariant) }

pub loop-p-preserved : goal.loop-p-preserved
loop-p-preserved c =
    let w = c.args.visited.image.words.now in
    let p = c.loop-p.p in
    let n = c.block_count-count.result in
    let l = c.loop-p-test.true in
    let h : p < blocks w = omega (arith, c.block_count-count.ensures, l) in
    let seen : is_visited w p ≡ c.is_visited.result = sym (c.args.visited.visit_stage.visited_is p h) ∙ sym c.is_visited.ensures in
    elim c.if-is_visited.branch [
      | then-is_visited x ↦ rw (x.cursors-is, x.out-is) (scattering_more (visited_left w (edge_pieces w) (p + 1) n) (scattering_as (visited_step w (edge_pieces w) p n l (seen ∙ x.if-is_visited.true)) c.loop-p.invariant) x.scan_edges.ensures)
      | else-is_visited x ↦ rw (x.cursors-is, x.out-is) (scattering_as (unvisited_step w (edge_pieces w) p n l (seen ∙ x.if-is_visited.false)) c.loop-p.invariant)
    ]

pub returns : goal.returns
returns c =
    let w = c.args.visited.image.words.now in
    scattering_all (visited_end w (edge_pieces w) c.loop-p.p c.block_count-count.result c.loop-p-test.false) c.loop-p.invariant
