-- `put_output_uses` meets its contract. The invariant: the places left are to be put.
use Prim.Native.Nat.{◌≤◌}
use lib.ListN.{length}
use Rattle.sir_analyses.specs.inner.Uses.{output_uses}
use Rattle.sir_analyses.proofs.answers.Writing.{Putting}
use Rattle.sir_analyses.proofs.def_use.UseWords.{outputs_left}
use Rattle.sir_analyses.proofs.def_use.put_output_uses.Given as goal

abbrev pub invariant-loop-k : goal.invariant-loop-k
invariant-loop-k l = (l.k ≤ length l.run) × Putting l.n (output_uses l.b.image.words.now l.local.0 l.b.id.0) l.initial.out (outputs_left l.b.image.words.now l.local.0 l.b.id.0 l.k) l.out l.m
