-- `add_escaping` meets its contract. The invariant: of the first k inputs, those that escape are added.
use mathlib.Core.Path.{◌≡◌, sym, ◌∙◌}
use mathlib.Core.Bool.{true, false}
use lib.ListN.{length, get_or}
use Rattle.sir_data.specs.Records.{code, ins}
use Rattle.sir_data.specs.Codes.{escaping}
use Rattle.sir_analyses.specs.inner.Tables.{Adds}
use Rattle.sir_analyses.proofs.Tables.{adds_as, adds_none, adds_one}
use Rattle.sir_analyses.proofs.pointer_links.PointerLinks.{escaping_at, escaping_at_all, adds_counted, read_places}
use native.Mathlib.Omega.{arith}
use Rattle.sir_analyses.proofs.pointer_links.add_escaping.Goals as goal
use Rattle.sir_analyses.proofs.pointer_links.add_escaping.Goals.{else-operation_causes_ptr_escape, then-operation_causes_ptr_escape}

pub row_add-requires : goal.row_add-requires
row_add-requires c =
    let l = c.loop-k in
    (omega (arith, l.invariant.1.long), read_places c.args.image.well_formed c.args.o.0 l.k c.op_inputs-inputs.ensures c.requires.o_bound.0 c.loop-k-test.true)

pub loop-k-preserved : goal.loop-k-preserved
loop-k-preserved c =
    let l = c.loop-k in
    let code = c.op_word-code.result in
    let xs = c.op_inputs-inputs.result.now in
    let e = c.operation_causes_ptr_escape.ensures in
    let h = read_places c.args.image.well_formed c.args.o.0 l.k c.op_inputs-inputs.ensures c.requires.o_bound.0 c.loop-k-test.true in
    let a : Adds l.causes (escaping_at code xs l.k) c.if-operation_causes_ptr_escape.causes =
    elim c.if-operation_causes_ptr_escape.branch [ then-operation_causes_ptr_escape x ↦ let t : escaping code l.k ≡ true = sym e ∙ x.if-operation_causes_ptr_escape.true in rw (x.causes-is, x.row_add.ensures.1) (adds_as (λ r v i. rw t) (adds_one l.causes 0 (get_or xs l.k 0) h)) | else-operation_causes_ptr_escape x ↦ let t : escaping code l.k ≡ false = sym e ∙ x.if-operation_causes_ptr_escape.false in rw x.causes-is (adds_none (λ r v i. rw t)) ] in
    (omega arith, adds_counted (escaping_at code xs) l.k l.invariant.1 a)

pub returns : goal.returns
returns c =
    let l = c.loop-k in
    let w = c.args.image.words.now in
    let o = c.args.o.0 in
    let e : l.k ≡ length c.op_inputs-inputs.result.now = omega arith in
    adds_as (λ r v h. escaping_at_all (code w o) (ins w o) r v) (rw (e, c.op_word-code.ensures, c.op_inputs-inputs.ensures) at l.invariant.1)
