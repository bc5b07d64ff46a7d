-- `scan_to` meets its contract. The invariant: whatever block the scan started in, the operations from p on are passed.
use mathlib.Core.Path.{◌≡◌}
use mathlib.Core.List.{[]}
use Prim.Native.Nat.{ℕ, ◌≤◌, ◌<◌}
use lib.ListN.{length}
use Rattle.plank_core.specs.Lists.{range}
use Rattle.sir_data.specs.Records.{blocks, block_word}
use Rattle.sir_answers.proofs.LiveSets.{LiveBefore}
use Rattle.sir_answers.proofs.open_allocations.scan_to.Given as goal

abbrev pub invariant-loop-p : goal.invariant-loop-p
invariant-loop-p l = (l.last ≤ l.p) × (l.p ≤ l.initial.p) × (length l.set ≡ 8) × ((b : ℕ) → b < blocks l.sets.image.words.now → l.initial.p ≡ block_word l.sets.image.words.now b 5 → LiveBefore l.sets.image.words.now b [] l.initial.set → LiveBefore l.sets.image.words.now b (range l.p l.initial.p) l.set)
