-- `function_blocks` meets its contract. The invariant: the keys before i are still to be read.
use mathlib.Core.List.{reverse}
use Prim.Native.Nat.{◌≤◌}
use lib.ListN.{length, take}
use Rattle.plank_core.specs.Lists.{bind}
use Rattle.sir_analyses.specs.inner.Visiting.{block_of, blocks_of}
use Rattle.sir_analyses.proofs.Listing.{Listing}
use Rattle.sir_analyses.proofs.reverse_post_order.function_blocks.Given as goal

abbrev pub invariant-loop-i : goal.invariant-loop-i
invariant-loop-i l = (l.i ≤ length l.postorder) × Listing (blocks_of l.f.0 l.postorder) l.at l.initial.out (bind (reverse (take l.i l.postorder)) (block_of l.f.0)) l.out l.m
