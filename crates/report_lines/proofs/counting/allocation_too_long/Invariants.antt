-- `allocation_too_long` meets its contract.
use mathlib.Core.Path.{◌≡◌}
use lib.ListN.{length}
use Rattle.plank_core.specs.Lists.{any, range}
use Rattle.sir_analyses.specs.Allocation.{allocs}
use Rattle.report_lines.specs.Counting.{allocation_too_long}
use Rattle.report_lines.proofs.TooLong.{long_allocation}
use Rattle.report_lines.proofs.counting.allocation_too_long.Given as goal

abbrev pub invariant-loop-a : goal.invariant-loop-a
invariant-loop-a l = (length l.out ≡ length l.initial.out) × (any (long_allocation l.tables.image.words.now) (range l.a (length (allocs l.tables.image.words.now))) ≡ allocation_too_long l.tables.image.words.now)
