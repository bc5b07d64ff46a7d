-- `put_predecessors` meets its contract. The invariant: the predecessors from block p on are to be put.
use Prim.Native.Nat.{◌≤◌}
use Rattle.sir_analyses.specs.Order.{predecessors}
use Rattle.sir_analyses.proofs.answers.Writing.{Putting}
use Rattle.sir_analyses.proofs.predecessors.Edges.{predecessors_left}
use Rattle.sir_analyses.proofs.predecessors.put_predecessors.Given as goal

abbrev pub invariant-loop-p : goal.invariant-loop-p
invariant-loop-p l = (l.p ≤ l.count) × Putting 0 (predecessors l.visited.image.words.now l.b.0) l.initial.out (predecessors_left l.visited.image.words.now l.b.0 l.p l.count) l.out l.m
