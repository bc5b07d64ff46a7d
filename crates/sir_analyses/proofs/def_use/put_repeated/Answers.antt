-- `put_repeated` meets its contract. The invariant: the uses left are to be put.
use Rattle.std.proofs.Common.{rules}
use native.Mathlib.Omega.{arith}
use Rattle.sir_analyses.proofs.answers.Writing.{putting_none, putting_as, putting_count, putting_more, putting_all, putting_past}
use Rattle.sir_analyses.proofs.def_use.UseWords.{same_left, same_start, same_next, same_end, repeated_uses_length}
use Rattle.sir_analyses.proofs.def_use.put_repeated.Goals as goal

pub loop-i-init : goal.loop-i-init
loop-i-init c = (omega arith, putting_as (same_start c.args.b.0 c.args.o.0 c.args.times) putting_none)

pub overflow_mul-m : goal.overflow_mul-m
overflow_mul-m c = grind (arith, repeated_uses_length, putting_count, same_left, putting_as, same_next)

pub overflow_add-m : goal.overflow_add-m
overflow_add-m c = grind (arith, repeated_uses_length, putting_count, same_left, putting_as, same_next)

pub returns-then-out-m : goal.returns-then-out-m
returns-then-out-m c =
    putting_past c.if-out-m.true (omega (arith, repeated_uses_length c.args.b.0 c.args.o.0 c.args.times)) c.loop-i.invariant.1

pub put_triple-m-requires : goal.put_triple-m-requires
put_triple-m-requires c = grind (arith, repeated_uses_length, putting_count, same_left, putting_as, same_next)

pub loop-i-preserved : goal.loop-i-preserved
loop-i-preserved c = search (rules, arith, putting_more, putting_as, same_next)

pub returns : goal.returns
returns c = grind (arith, putting_all, same_end)
