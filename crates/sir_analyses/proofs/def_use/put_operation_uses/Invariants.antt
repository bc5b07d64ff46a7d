-- `put_operation_uses` meets its contract. The invariant: the operations left are to be put.
use Rattle.sir_analyses.proofs.answers.Writing.{Putting}
use Rattle.sir_analyses.proofs.def_use.UseWords.{operations_left}
use Rattle.sir_analyses.proofs.def_use.put_operation_uses.Given as goal

abbrev pub invariant-loop-o : goal.invariant-loop-o
invariant-loop-o l = Putting l.n (operations_left l.b.image.words.now l.counts l.b.id.0 l.initial.o l.o-end) l.initial.out (operations_left l.b.image.words.now l.counts l.b.id.0 l.o l.o-end) l.out l.m
