-- `link_edge` meets its contract. The invariant: the first k outputs are linked.
use mathlib.Core.Path.{◌≡◌}
use lib.ListN.{length, get_or}
use Rattle.sir_analyses.specs.inner.Tables.{Adds}
use Rattle.sir_analyses.proofs.Tables.{adds_one}
use Rattle.sir_analyses.proofs.pointer_links.PointerLinks.{passed, adds_counted, edge_places}
use native.Mathlib.Omega.{arith}
use Rattle.sir_analyses.proofs.pointer_links.link_edge.Goals as goal

pub row_add-requires : goal.row_add-requires
row_add-requires c =
    let l = c.loop-k in
    let p = edge_places c.args.b.image.well_formed c.args.b.id.0 c.args.s.0 l.k c.outputs-given.ensures c.inputs-taken.ensures c.args.b.known c.requires.s_in.0 c.loop-k-test.true in
    (omega (arith, l.invariant.1.long, p.1), p.2)

pub loop-k-preserved : goal.loop-k-preserved
loop-k-preserved c =
    let l = c.loop-k in
    let xs = c.outputs-given.result.now in
    let ys = c.inputs-taken.result.now in
    let p = edge_places c.args.b.image.well_formed c.args.b.id.0 c.args.s.0 l.k c.outputs-given.ensures c.inputs-taken.ensures c.args.b.known c.requires.s_in.0 c.loop-k-test.true in
    let a : Adds l.links (passed xs ys l.k) c.row_add.new.table = rw c.row_add.ensures.1 (adds_one l.links (get_or xs l.k 0) (get_or ys l.k 0) p.2) in
    (omega arith, adds_counted (passed xs ys) l.k l.invariant.1 a)

pub returns : goal.returns
returns c =
    let l = c.loop-k in
    let e : l.k ≡ length c.outputs-given.result.now = omega arith in
    rw (e, c.outputs-given.ensures, c.inputs-taken.ensures) at l.invariant.1
