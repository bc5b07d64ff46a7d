-- `put_edges` meets its contract. The invariant: the edges of the successors left are to be put.
use Prim.Native.Nat.{◌≤◌}
use Rattle.sir_analyses.specs.Order.{edges_from}
use Rattle.sir_analyses.proofs.answers.Writing.{Putting}
use Rattle.sir_analyses.proofs.predecessors.Edges.{edges_left}
use Rattle.sir_analyses.proofs.predecessors.put_edges.Given as goal

abbrev pub invariant-loop-i : goal.invariant-loop-i
invariant-loop-i l = (l.i ≤ l.count) × Putting l.n (edges_from l.p.image.words.now l.p.id.0 l.b.0) l.initial.out (edges_left l.p.image.words.now l.p.id.0 l.b.0 l.i) l.out l.m
