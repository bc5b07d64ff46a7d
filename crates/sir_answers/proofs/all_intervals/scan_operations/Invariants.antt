-- `scan_operations` meets its contract. The invariant: the pieces of the operations before o are to be put.
use mathlib.Core.Path.{◌≡◌}
use mathlib.Core.List.{reverse}
use Prim.Native.Nat.{◌≤◌}
use lib.ListN.{length}
use Rattle.plank_core.specs.Lists.{bind, range}
use Rattle.sir_data.specs.Records.{operations}
use Rattle.sir_answers.specs.inner.Scatter.{forward}
use Rattle.sir_answers.specs.inner.IntervalPieces.{OpenEnds, operation_pieces, operations_pieces}
use Rattle.sir_answers.proofs.scatter.Scattering.{Scattering}
use Rattle.sir_answers.proofs.all_intervals.scan_operations.Given as goal

abbrev pub invariant-loop-o : goal.invariant-loop-o
invariant-loop-o l = (l.o-start ≤ l.o) × (l.o ≤ operations l.analysed.image.words.now) × (l.o ≤ l.initial.o) × (length l.ids ≡ 512) × OpenEnds l.analysed.image.words.now l.b.0 (range l.o l.initial.o) l.till × Scattering forward (operations_pieces l.analysed.image.words.now l.b.0) l.initial.cursors l.initial.out (bind (reverse (range l.o-start l.o)) (operation_pieces l.analysed.image.words.now l.b.0)) l.cursors l.out
