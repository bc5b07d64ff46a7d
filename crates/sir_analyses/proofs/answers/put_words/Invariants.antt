-- `put_words` meets its contract. The invariant: what is left of the words is to be put.
use lib.ListN.{drop}
use Rattle.sir_analyses.proofs.answers.Writing.{Putting}
use Rattle.sir_analyses.proofs.answers.put_words.Given as goal

abbrev pub invariant-loop-word : goal.invariant-loop-word
invariant-loop-word l = Putting l.n l.words l.initial.out (drop l.word-index l.words) l.out l.m
