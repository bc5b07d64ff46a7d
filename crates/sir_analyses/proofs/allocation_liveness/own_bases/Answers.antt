-- `own_bases` meets its contract. The invariant: the first a allocations have their bases.
use mathlib.Core.Path.{ap}
use native.Mathlib.Omega.{arith}
use lib.ListN.{length}
use Rattle.sir_analyses.proofs.allocation_liveness.Discovery.{owned_none, owned_more, owned_all, sites_long}
use Rattle.sir_analyses.proofs.allocation_liveness.own_bases.Goals as goal

pub loop-a-init : goal.loop-a-init
loop-a-init c =
    let w = c.args.image.words.now in
    owned_none w c.requires.sites_value.2

pub loop-a-preserved : goal.loop-a-preserved
loop-a-preserved c =
    let L = c.loop-a in
    let w = c.args.image.words.now in
    owned_more w c.args.image.well_formed (omega (arith, c.loop-a-test.true, ap length c.requires.sites_value.0, sites_long w)) c.base_of-base.ensures.0 L.invariant

pub returns : goal.returns
returns c =
    let L = c.loop-a in
    let w = c.args.image.words.now in
    owned_all w (omega (arith, c.loop-a-test.false, ap length c.requires.sites_value.0, sites_long w)) L.invariant
