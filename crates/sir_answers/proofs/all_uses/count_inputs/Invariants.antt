-- `count_inputs` meets its contract. The invariant: the inputs of the operations left are to be counted.
use mathlib.Core.List.{[]}
use Prim.Native.Nat.{◌*◌}
use lib.ListN.{get_or}
use Rattle.plank_core.specs.Lists.{bind, range}
use Rattle.sir_data.specs.Records.{ins}
use Rattle.sir_answers.specs.inner.Scatter.{forward}
use Rattle.sir_answers.specs.inner.Pieces.{pieces_at, blanks, input_pieces}
use Rattle.sir_answers.proofs.scatter.Scattering.{Scattering}
use Rattle.sir_answers.proofs.all_uses.count_inputs.Given as goal

abbrev pub invariant-loop-o : goal.invariant-loop-o
invariant-loop-o l = Scattering forward (input_pieces l.image.words.now l.times) l.initial.cursors [] (bind (range l.o l.last) (λ o. pieces_at (λ k. blanks (3 * get_or l.times o 0)) (ins l.image.words.now o) 0)) l.cursors []
