-- `put_operation_uses` meets its contract. The invariant: the operations left are to be put.
use mathlib.Core.Path.{ap}
use Prim.Native.Nat.{◌+◌, ◌^◌}
use native.Mathlib.Omega.{arith}
use lib.ListN.{length, get_or}
use Rattle.sir_analyses.specs.inner.Uses.{repeated_uses}
use Rattle.sir_analyses.proofs.answers.Writing.{putting_as, putting_count, putting_more, putting_all, puts_as}
use Rattle.sir_analyses.proofs.def_use.UseWords.{operations_left, operation_next, operation_end, repeated_uses_length, span_is}
use Rattle.sir_analyses.proofs.def_use.put_operation_uses.Goals as goal

pub put_repeated-m-requires : goal.put_repeated-m-requires
put_repeated-m-requires c =
    let L = c.loop-o in
    let e = operation_next c.args.b.image.words.now c.args.counts.now c.args.b.id.0 L.o c.operations-span.result.end c.loop-o-test.true in
    let q = putting_count (repeated_uses c.args.b.id.0 L.o (get_or c.args.counts.now L.o 0)) (operations_left c.args.b.image.words.now c.args.counts.now c.args.b.id.0 (L.o + 1) c.operations-span.result.end) {k = 2 ^ 59} (omega (arith, ap length (span_is c.args.b.image.words.now c.args.counts.now c.args.b.id.0 _ _ c.operations-span.ensures.0 c.operations-span.ensures.1), c.requires.b_bound_2)) (putting_as e L.invariant) in
    omega (arith, q, repeated_uses_length c.args.b.id.0 L.o (get_or c.args.counts.now L.o 0))

pub loop-o-preserved : goal.loop-o-preserved
loop-o-preserved c =
    let L = c.loop-o in
    let e = operation_next c.args.b.image.words.now c.args.counts.now c.args.b.id.0 L.o c.operations-span.result.end c.loop-o-test.true in
    putting_more (putting_as e L.invariant) c.put_repeated-m.ensures

pub returns : goal.returns
returns c =
    let L = c.loop-o in
    puts_as (span_is c.args.b.image.words.now c.args.counts.now c.args.b.id.0 _ _ c.operations-span.ensures.0 c.operations-span.ensures.1) (putting_all (operation_end c.args.b.image.words.now c.args.counts.now c.args.b.id.0 L.o _ c.loop-o-test.false) L.invariant)
