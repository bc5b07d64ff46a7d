-- `function_blocks` meets its contract. The invariant: the keys before i are still to be read.
use native.Mathlib.Omega.{arith}
use Rattle.sir_analyses.specs.inner.Visiting.{block_of, blocks_of}
use Rattle.sir_analyses.proofs.reverse_post_order.Postorder.{back_start}
use Rattle.sir_analyses.proofs.Listing.{listing_none, listing_as}
use Rattle.sir_analyses.proofs.reverse_post_order.function_blocks.Goals as goal

pub loop-i-init : goal.loop-i-init
unfolding blocks_of
loop-i-init c = (omega arith, listing_as (back_start (block_of c.args.f.0) c.args.postorder.now) listing_none)
