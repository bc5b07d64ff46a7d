-- `populate_intervals_from_local_liveness` meets its contract. The invariant: the blocks from b on are to be put.
use mathlib.Core.Path.{◌≡◌}
use lib.ListN.{length}
use Rattle.sir_analyses.proofs.merged_intervals.MergedIntervals.{Populating}
use Rattle.sir_analyses.proofs.merged_intervals.populate_intervals_from_local_liveness.Given as goal

abbrev pub invariant-loop-b : goal.invariant-loop-b
invariant-loop-b l = (length l.run ≡ 3075) × Populating l.analysed.image.words.now l.reach l.n l.initial.out l.b l.out l.m
