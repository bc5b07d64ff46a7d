-- `store_sites` meets its contract. The invariant: the first a sites are stored.
use Rattle.sir_analyses.proofs.allocation_liveness.PointerTables.{sites_none, sites_more, sites_all}
use native.Mathlib.Omega.{arith}
use Rattle.sir_analyses.proofs.allocation_liveness.store_sites.Goals as goal

pub loop-a-init : goal.loop-a-init
loop-a-init c = (omega arith, sites_none c.args.sites.now c.args.pointers.now c.requires.1)

pub loop-a-preserved : goal.loop-a-preserved
loop-a-preserved c = (omega arith, sites_more c.loop-a.invariant.1 c.requires.0 c.loop-a-test.true)

pub returns : goal.returns
returns c = sites_all c.loop-a.invariant.1 c.requires.0 c.loop-a-test.false c.loop-a.invariant.0
