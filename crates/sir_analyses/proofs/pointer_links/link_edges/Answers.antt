-- `link_edges` meets its contract. The invariant: the edges to the first i successors are linked.
use mathlib.Core.Path.{◌∙◌}
use Prim.Native.Nat.{◌≤◌, ◌<◌}
use lib.ListN.{length}
use Rattle.plank_core.specs.laws.Lists.{get_or_mem}
use Rattle.sir_data.specs.Records.{successors}
use Rattle.sir_analyses.specs.inner.Pointers.{passes_by}
use Rattle.sir_analyses.proofs.pointer_links.PointerLinks.{adds_listed, adds_all}
use native.Mathlib.Omega.{arith}
use Rattle.sir_analyses.proofs.pointer_links.link_edges.Goals as goal

pub link_edge-requires : goal.link_edge-requires
link_edge-requires c =
    let l = c.loop-i in
    let ss = successors c.args.b.image.words.now c.args.b.id.0 in
    let i : l.i < length ss = omega (arith, c.successor_count-count.ensures) in
    record { s_in = (rw c.successor-s.ensures (get_or_mem ss l.i 0 i), l.invariant.1.long ∙ c.requires.links_len) }

pub loop-i-preserved : goal.loop-i-preserved
loop-i-preserved c =
    let l = c.loop-i in
    let w = c.args.b.image.words.now in
    let b = c.args.b.id.0 in
    let i : l.i < length (successors w b) = omega (arith, c.successor_count-count.ensures) in
    (omega arith, adds_listed (λ t v u. passes_by w b t v u) (successors w b) l.i i l.invariant.1 (rw c.successor-s.ensures at c.link_edge.ensures))

pub returns : goal.returns
returns c =
    let l = c.loop-i in
    let w = c.args.b.image.words.now in
    let b = c.args.b.id.0 in
    let e : length (successors w b) ≤ l.i = omega (arith, c.successor_count-count.ensures) in
    adds_all (λ t v u. passes_by w b t v u) (successors w b) l.i e l.invariant.1
