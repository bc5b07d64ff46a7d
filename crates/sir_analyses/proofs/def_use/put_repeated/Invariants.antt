-- `put_repeated` meets its contract. The invariant: the uses left are to be put.
use Prim.Native.Nat.{◌≤◌}
use Rattle.sir_analyses.proofs.answers.Writing.{Putting}
use Rattle.sir_analyses.specs.inner.Uses.{repeated_uses}
use Rattle.sir_analyses.proofs.def_use.UseWords.{same_left}
use Rattle.sir_analyses.proofs.def_use.put_repeated.Given as goal

abbrev pub invariant-loop-i : goal.invariant-loop-i
invariant-loop-i l = (l._i ≤ l.times) × Putting l.n (repeated_uses l.b.0 l.o.0 l.times) l.initial.out (same_left l.b.0 l.o.0 l._i l.times) l.out l.m
