-- `scan_edges` meets its contract. The invariant: the pieces of the successors left are to be put.
use mathlib.Core.List.{◌∷◌, []}
use Prim.Native.Nat.{◌<◌}
use native.Mathlib.Omega.{arith}
use lib.ListN.{length, get_or}
use Rattle.plank_core.specs.laws.Lists.{get_or_mem}
use Rattle.sir_data.specs.Records.{blocks, successors}
use Rattle.sir_answers.proofs.scatter.Scattering.{scattering_none}
use Rattle.sir_answers.proofs.scatter.PieceLaws.{piece_fits, piece_more, piece_all}
use Rattle.sir_answers.proofs.all_predecessors.scan_edges.Goals as goal

pub loop-i-init : goal.loop-i-init
loop-i-init c = scattering_none c.requires.fits

pub append-requires : goal.append-requires
append-requires c =
    let w = c.args.p.image.words.now in
    let p = c.args.p.id.0 in
    let i = c.loop-i.i in
    let h : i < length (successors w p) = omega (arith, c.successor_count-count.ensures) in
    let r = c.successor-s.result.0 in
    let l : r < blocks w = rw c.successor-s.ensures (c.args.p.image.well_formed.in_range.successor p (get_or (successors w p) i 0) c.args.p.known (get_or_mem (successors w p) i 0 h)) in
    (omega (arith, c.requires.cursors_len, c.loop-i.invariant.wide), piece_fits (λ k. p ∷ []) (successors w p) c.loop-i.i c.loop-i.invariant h c.successor-s.ensures)

pub loop-i-preserved : goal.loop-i-preserved
loop-i-preserved c =
    let w = c.args.p.image.words.now in
    let p = c.args.p.id.0 in
    let i = c.loop-i.i in
    let h : i < length (successors w p) = omega (arith, c.successor_count-count.ensures) in
    piece_more (λ k. p ∷ []) (successors w p) c.loop-i.i c.loop-i.invariant h c.successor-s.ensures c.append.ensures

pub returns : goal.returns
returns c =
    let a = c.args in
    piece_all (λ k. a.p.id.0 ∷ []) (successors a.p.image.words.now a.p.id.0) c.loop-i.i c.loop-i.invariant (omega (arith, c.successor_count-count.ensures))
