-- `put_block` meets its contract. The invariant: whatever block the scan started in, the lines of the operations from o on stand from `end` on.
use mathlib.Core.Path.{◌≡◌}
use Prim.Native.Nat.{ℕ, ◌+◌, ◌-◌, ◌*◌, ◌≤◌}
use lib.ListN.{length}
use Rattle.plank_core.specs.Lists.{range}
use Rattle.sir_answers.proofs.chart.BlockLines.{LinesScan}
use Rattle.sir_answers.proofs.LiveSets.{ScanStart}
use Rattle.sir_answers.specs.inner.Columns.{Columns}
use Rattle.sir_answers.proofs.chart.put_block.Given as goal

abbrev pub invariant-loop-o : goal.invariant-loop-o
invariant-loop-o l = (l.o-start ≤ l.o) × (l.o ≤ l.initial.o) × (length l.set ≡ 8) × (l.end ≡ 73 * (1 + (l.o - l.o-start))) × (length l.out ≡ length l.initial.out) × (l.end ≤ length l.initial.out) × Columns l.pointers l.series l.shown.words l.columns
    × ((b : ℕ) → ScanStart l.sets.image.words.now l.o-start l.initial.o l.initial.set b → LinesScan l.sets.image.words.now l.series b l.end (range l.o l.initial.o) l.set l.initial.out l.out)
