-- `put_output_uses` meets its contract. The invariant: the places left are to be put.
use mathlib.Core.Path.{◌≡◌, sym, ap, ◌∙◌}
use mathlib.Core.List.{List}
use Prim.Native.Nat.{ℕ, ◌<◌}
use native.Mathlib.Omega.{arith}
use lib.ListN.{length, get_or}
use Rattle.sir_data.specs.Records.{outputs}
use Rattle.sir_analyses.proofs.answers.Writing.{putting_as, putting_more, putting_all}
use Rattle.sir_analyses.proofs.def_use.UseWords.{output_here, output_other, output_end, outputs_most}
use Rattle.sir_analyses.proofs.def_use.put_output_uses.Goals as goal
use Rattle.sir_analyses.proofs.def_use.put_output_uses.Goals.{else-v-local, then-v-local}

pub overflow_cast-k : goal.overflow_cast-k
overflow_cast-k c =
    omega (arith, ap length c.outputs-run.ensures, outputs_most c.args.b.image.words.now c.args.local.0 c.args.b.id.0 c.loop-k.k c.args.b.image.well_formed c.args.b.known, c.loop-k-test.true)

pub loop-k-preserved : goal.loop-k-preserved
loop-k-preserved c =
    let L = c.loop-k in
    let w = c.args.b.image.words.now in
    let is = c.outputs-run.ensures in
    let h : L.k < length (outputs w c.args.b.id.0) = omega (arith, ap length is, c.loop-k-test.true) in
    let same : get_or c.outputs-run.result.now L.k 0 ≡ get_or (outputs w c.args.b.id.0) L.k 0 = ap (λ (l : List ℕ). get_or l L.k 0) is in (
      omega arith,
      elim c.if-v-local.branch [
        | then-v-local x ↦ rw (x.out-is, x.m-is) (putting_more (putting_as (output_here w c.args.local.0 c.args.b.id.0 L.k h (sym same ∙ x.if-v-local.true)) L.invariant.1) x.put_triple-m.ensures)
        | else-v-local x ↦ rw (x.out-is, x.m-is) (putting_as (output_other w c.args.local.0 c.args.b.id.0 L.k h (λ y. x.if-v-local.false (same ∙ y))) L.invariant.1)
      ],
    )

pub returns : goal.returns
returns c =
    let L = c.loop-k in
    putting_all (output_end c.args.b.image.words.now c.args.local.0 c.args.b.id.0 L.k (omega (arith, ap length c.outputs-run.ensures, c.loop-k-test.false))) L.invariant.1
