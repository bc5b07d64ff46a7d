-- `add_operations` meets its contract. The invariant: the operations below o are added.
use mathlib.Core.Path.{◌≡◌}
use Prim.Native.Nat.{◌+◌, ◌*◌, ◌/◌, ◌%◌}
use lib.Dec.{eqb}
use Rattle.sir_analyses.specs.inner.Tables.{Adds}
use Rattle.sir_analyses.proofs.Tables.{adds_as, adds_then}
use Rattle.sir_analyses.proofs.pointer_links.PointerLinks.{adds_number}
use Rattle.plank_core.specs.laws.Prefixes.{range_more}
use native.Mathlib.Omega.{arith}
use Rattle.sir_analyses.proofs.pointer_links.add_operations.Goals as goal

pub loop-o-preserved : goal.loop-o-preserved
loop-o-preserved c =
    let l = c.loop-o in
    let n : 512 * (l.o / 512) + l.o % 512 ≡ l.o = omega arith in
    let a : Adds l.seen (λ r i. eqb (512 * r + i) l.o) c.row_add.new.table = rw (c.row_add.ensures.1, n) (adds_number l.seen l.o) in
    (omega arith, omega arith, adds_as (λ r i h. range_more (512 * r + i) c.operations-span.result.start l.o l.invariant.0) (adds_then l.invariant.2 a))
