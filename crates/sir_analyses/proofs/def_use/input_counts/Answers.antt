-- `input_counts` meets its contract. The invariant: the operations before o are counted.
use mathlib.Core.Path.{◌≡◌, ap, ◌∙◌}
use mathlib.Core.List.{List}
use Prim.Native.Nat.{ℕ, ◌<◌}
use native.Mathlib.Omega.{arith}
use lib.ListN.{length, get_or, set, length-set}
use lib.Seq.{get_or-set_same, get_or-set_other}
use Rattle.plank_core.specs.laws.Lists.{below_next}
use Rattle.sir_data.specs.Records.{operations, ins}
use Rattle.sir_analyses.specs.Liveness.{positions}
use Rattle.sir_analyses.proofs.def_use.UseWords.{inputs_most}
use Rattle.sir_analyses.proofs.def_use.input_counts.Goals as goal

pub count_local-requires : goal.count_local-requires
count_local-requires c =
    let L = c.loop-o in
    let h : L.o < operations c.args.image.words.now = omega (arith, c.operation_count-last.ensures, c.loop-o-test.true) in
    omega (arith, ap length c.op_inputs.ensures, inputs_most c.args.image.words.now c.args.image.well_formed L.o h)

pub loop-o-preserved : goal.loop-o-preserved
loop-o-preserved c =
    let L = c.loop-o in
    let e = c.count_local.ensures ∙ ap (λ (l : List ℕ). length (positions c.args.local.0 l 0)) c.op_inputs.ensures in (
      omega arith,
      length-set L.counts L.o _ ∙ L.invariant.1,
      below_next (λ p. get_or (set L.counts L.o c.count_local.result) p 0 ≡ length (positions c.args.local.0 (ins c.args.image.words.now p) 0)) L.o
          (λ p q. get_or-set_other L.counts L.o p _ 0 (λ (y : p ≡ L.o). omega arith) ∙ L.invariant.2 p q)
          (get_or-set_same L.counts L.o _ 0 (omega (arith, L.invariant.1)) ∙ e),
    )
