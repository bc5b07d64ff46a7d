-- `put_words` meets its contract. The invariant: what is left of the words is to be put.
use native.Mathlib.Omega.{arith}
use Rattle.std.proofs.Common.{rules}
use native.Mathlib.Numerals.{add-one}
use lib.ListN.{drop_of_length-le}
use lib.Seq.{drop-cons}
use Rattle.sir_analyses.proofs.answers.Writing.{putting_as, putting_more, putting_all}
use Rattle.sir_analyses.proofs.answers.put_words.Goals as goal

pub loop-word-preserved : goal.loop-word-preserved
loop-word-preserved c = search (rules, arith, add-one, drop-cons, putting_more, putting_as)

pub returns : goal.returns
returns c = putting_all (drop_of_length-le c.args.words.now {i = c.loop-word.word-index} c.loop-word-test.false) c.loop-word.invariant
