-- `first_common` meets its contract. The invariant: whatever block the scan started in, the operations from o on are passed.
use mathlib.Core.Path.{◌≡◌}
use Rattle.std.specs.Prelude.{◌<◌, IfSome}
use Prim.Native.Nat.{ℕ, ◌≤◌}
use lib.ListN.{length}
use Rattle.plank_core.specs.Lists.{range}
use Rattle.sir_answers.proofs.LiveSets.{ScanStart}
use Rattle.sir_answers.proofs.crossing.FirstCommon.{CommonScan}
use Rattle.sir_answers.proofs.crossing.first_common.Given as goal

abbrev pub invariant-loop-o : goal.invariant-loop-o
invariant-loop-o l = (l.o-start ≤ l.o) × (l.o ≤ l.initial.o) × (length l.set ≡ 8) × ((b : ℕ) → ScanStart l.analysed.image.words.now l.o-start l.initial.o l.initial.set b → CommonScan l.analysed.image.words.now l.one l.other b (range l.o l.initial.o) l.set l.found) × IfSome l.found (λ o. o.0 < 1024)
