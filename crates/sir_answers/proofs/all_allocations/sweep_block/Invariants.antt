-- `sweep_block` meets its contract. The invariant: the pieces of the operations before o, and of the start, are to be put.
use mathlib.Core.Path.{◌≡◌}
use Prim.Native.Nat.{◌≤◌}
use lib.ListN.{length}
use Rattle.plank_core.specs.Lists.{range}
use Rattle.sir_data.specs.Records.{operations}
use Rattle.sir_answers.specs.inner.Scatter.{backward}
use Rattle.sir_answers.specs.inner.AllocationPieces.{SweptEnds, sweep_pieces}
use Rattle.sir_answers.proofs.scatter.Scattering.{Scattering}
use Rattle.sir_answers.proofs.all_allocations.AllocationPieces.{swept_left}
use Rattle.sir_answers.proofs.LiveSets.{LiveBefore}
use Rattle.sir_answers.proofs.all_allocations.sweep_block.Given as goal

abbrev pub invariant-loop-o : goal.invariant-loop-o
invariant-loop-o l = (l.o-start ≤ l.o) × (l.o ≤ operations l.tables.image.words.now) × (l.o ≤ l.initial.o) × (length l.ids ≡ 512) × LiveBefore l.tables.image.words.now l.b.0 (range l.o l.initial.o) l.set × SweptEnds l.tables.image.words.now l.b.0 (range l.o l.initial.o) l.till × Scattering backward (sweep_pieces l.tables.image.words.now l.b.0) l.initial.cursors l.initial.out (swept_left l.tables.image.words.now l.b.0 l.o-start l.o) l.cursors l.out
