-- `put_edges` meets its contract. The invariant: the edges of the successors left are to be put.
use mathlib.Core.Path.{sym, ◌∙◌}
use Prim.Native.Nat.{◌<◌}
use native.Mathlib.Omega.{arith}
use lib.ListN.{length}
use borrow.Author.Tests.{eqb-true, eqb-false}
use Rattle.sir_data.specs.Records.{successors}
use Rattle.sir_analyses.proofs.answers.Writing.{putting_as, putting_more, putting_all}
use Rattle.sir_analyses.proofs.predecessors.Edges.{edge_here, edge_other, edges_end}
use Rattle.sir_analyses.proofs.predecessors.put_edges.Goals as goal
use Rattle.sir_analyses.proofs.predecessors.put_edges.Goals.{else-eq, then-eq}

pub loop-i-preserved : goal.loop-i-preserved
loop-i-preserved c =
    let L = c.loop-i in
    let w = c.args.p.image.words.now in
    let h : L.i < length (successors w c.args.p.id.0) = omega (arith, c.successor_count-count.ensures, c.loop-i-test.true) in (
      omega arith,
      elim c.if-eq.branch [
        | then-eq x ↦ rw (x.out-is, x.m-is) (putting_more (putting_as (edge_here w c.args.p.id.0 c.args.b.0 L.i h (sym c.successor.ensures ∙ eqb-true _ _ (sym c.eq.ensures ∙ x.if-eq.true))) L.invariant.1) x.put_word-m.ensures)
        | else-eq x ↦ rw (x.out-is, x.m-is) (putting_as (edge_other w c.args.p.id.0 c.args.b.0 L.i h (λ z. eqb-false _ _ (sym c.eq.ensures ∙ x.if-eq.false) (c.successor.ensures ∙ z))) L.invariant.1)
      ],
    )

pub returns : goal.returns
returns c =
    putting_all (edges_end c.args.p.image.words.now c.args.p.id.0 c.args.b.0 c.loop-i.i (omega (arith, c.successor_count-count.ensures, c.loop-i-test.false))) c.loop-i.invariant.1
