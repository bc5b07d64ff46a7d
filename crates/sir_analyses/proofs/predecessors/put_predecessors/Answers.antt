-- `put_predecessors` meets its contract. The invariant: the predecessors from block p on are to be put.
use mathlib.Core.Path.{◌≡◌, sym, ◌∙◌}
use mathlib.Core.Bool.{true}
use Prim.Native.Nat.{◌+◌, ◌<◌}
use native.Mathlib.Omega.{arith}
use Rattle.sir_data.specs.Records.{blocks}
use Rattle.sir_analyses.specs.Order.{is_visited, edges_from}
use Rattle.sir_analyses.proofs.answers.Writing.{putting_as, putting_count, putting_more, putting_all}
use Rattle.sir_analyses.proofs.predecessors.Edges.{predecessors_most, predecessors_left, visited_step, unvisited_step, visited_end}
use Rattle.sir_analyses.proofs.predecessors.put_predecessors.Goals as goal
use Rattle.sir_analyses.proofs.predecessors.put_predecessors.Goals.{else-is_visited, then-is_visited}

pub put_edges-m-requires : goal.put_edges-m-requires
put_edges-m-requires c =
    let L = c.loop-p in
    let w = c.args.visited.image.words.now in
    let h : L.p < blocks w = omega (arith, c.block_count-count.ensures, c.loop-p-test.true) in
    let n = c.block_count-count.result in
    let t : is_visited w L.p ≡ true = sym (c.args.visited.visit_stage.visited_is L.p h) ∙ sym c.is_visited.ensures ∙ c.if-is_visited.true in
    let e = visited_step w (λ q. edges_from w q c.args.b.0) L.p n c.loop-p-test.true t in
    record { b_bound = putting_count (edges_from w L.p c.args.b.0) (predecessors_left w c.args.b.0 (L.p + 1) n) (omega (arith, predecessors_most w c.args.visited.visit_stage.well_formed c.args.b.0)) (putting_as e L.invariant.1) }

pub loop-p-preserved : goal.loop-p-preserved
loop-p-preserved c =
    let L = c.loop-p in
    let w = c.args.visited.image.words.now in
    let h : L.p < blocks w = omega (arith, c.block_count-count.ensures, c.loop-p-test.true) in
    let n = c.block_count-count.result in
    let told = sym (c.args.visited.visit_stage.visited_is L.p h) ∙ sym c.is_visited.ensures in (
      omega arith,
      elim c.if-is_visited.branch [
        | then-is_visited x ↦ rw (x.out-is, x.m-is) (putting_more (putting_as (visited_step w (λ q. edges_from w q c.args.b.0) L.p n c.loop-p-test.true (told ∙ x.if-is_visited.true)) L.invariant.1) x.put_edges-m.ensures)
        | else-is_visited x ↦ rw (x.out-is, x.m-is) (putting_as (unvisited_step w (λ q. edges_from w q c.args.b.0) L.p n c.loop-p-test.true (told ∙ x.if-is_visited.false)) L.invariant.1)
      ],
    )

pub returns : goal.returns
returns c =
    putting_all (visited_end c.args.visited.image.words.now (λ q. edges_from c.args.visited.image.words.now q c.args.b.0) c.loop-p.p c.block_count-count.result c.loop-p-test.false) c.loop-p.invariant.1
