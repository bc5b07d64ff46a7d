-- `put_uses` meets its contract. The invariant: the blocks left are to be put.
use Prim.Native.Nat.{◌≤◌}
use lib.ListN.{length, drop}
use Rattle.plank_core.specs.Lists.{bind}
use Rattle.sir_analyses.specs.inner.Uses.{block_uses, uses_of}
use Rattle.sir_analyses.proofs.answers.Writing.{Putting}
use Rattle.sir_analyses.proofs.def_use.put_uses.Given as goal

abbrev pub invariant-loop-b : goal.invariant-loop-b
invariant-loop-b l = (l.b-index ≤ length l.b-items) × Putting 0 (uses_of l.visited.image.words.now l.counts l.local.0) l.initial.out (bind (drop l.b-index l.b-items) (block_uses l.visited.image.words.now l.counts l.local.0)) l.out l.m
