-- `write_pages` meets its contract. The loop's invariant: p pages are written, and the rest is as it was.
use mathlib.Core.Path.{◌≡◌}
use mathlib.Core.List.{◌++◌}
use Prim.Native.Nat.{◌*◌}
use lib.ListN.{drop}
use Rattle.sir_answers.proofs.paging.WrittenPages.{pages_to}
use Rattle.sir_answers.proofs.paging.write_pages.Given as goal

abbrev pub invariant-loop-p : goal.invariant-loop-p
invariant-loop-p l = (l.out ≡ pages_to l.words l.p ++ drop (512 * l.p) l.initial.out)
