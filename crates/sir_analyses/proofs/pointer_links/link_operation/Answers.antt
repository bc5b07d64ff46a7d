-- `link_operation` meets its contract. The invariant: the first k inputs are linked to the outputs.
use mathlib.Core.Path.{◌≡◌, sym, ap, ◌∙◌}
use mathlib.Core.Bool.{true, ◌&&◌, and_comm}
use lib.ListN.{get_or}
use lib.Dec.{eqb}
use Rattle.plank_core.specs.Lists.{mem}
use Rattle.sir_data.specs.Records.{code}
use Rattle.sir_data.specs.Codes.{derives}
use Rattle.sir_analyses.specs.inner.Tables.{Adds}
use Rattle.sir_analyses.proofs.Tables.{adds_as, adds_then}
use Rattle.plank_core.specs.laws.Prefixes.{and_next, and_all}
use Rattle.sir_analyses.proofs.block_sets.BlockSets.{small}
use Rattle.sir_analyses.proofs.pointer_links.PointerLinks.{read_places}
use native.Mathlib.Omega.{arith}
use Rattle.sir_analyses.proofs.pointer_links.link_operation.Goals as goal

pub add_run-requires : goal.add_run-requires
add_run-requires c =
    let in_range = c.requires.o_bound.0 in
    let l = c.loop-v in
    let h = read_places c.args.image.well_formed c.args.o.0 l.v-index c.op_inputs-inputs.ensures in_range c.loop-v-test.true in
    record { row_in_bounds = omega (arith, l.invariant.1.long, h); by_index = λ v m. small c.args.image.well_formed (c.args.image.well_formed.in_range.written c.args.o.0 v in_range (rw c.op_outputs-outputs.ensures at m)) }

pub loop-v-preserved : goal.loop-v-preserved
loop-v-preserved c =
    let l = c.loop-v in
    let xs = c.op_inputs-inputs.result.now in
    let ys = c.op_outputs-outputs.result.now in
    let a : Adds l.links (λ v u. mem u ys && eqb v (get_or xs l.v-index 0)) c.add_run.new.table =
    adds_as (λ v u h. and_comm (eqb v (get_or xs l.v-index 0)) (mem u ys)) c.add_run.ensures in
    (omega arith, adds_as (λ v u h. and_next (mem u ys) xs l.v-index c.loop-v-test.true v) (adds_then l.invariant.1 a))

pub returns : goal.returns
returns c =
    let l = c.loop-v in
    let xs = c.op_inputs-inputs.result.now in
    let ys = c.op_outputs-outputs.result.now in
    let t : derives (code c.args.image.words.now c.args.o.0) ≡ true = ap derives (sym c.op_word.ensures) ∙ sym c.can_derive_pointer.ensures ∙ c.if-not-can_derive_pointer.false in
    let a : Adds c.args.links.now (λ v u. mem v xs && mem u ys) l.links =
    adds_as (λ v u h. and_all (mem u ys) xs l.v-index c.loop-v-test.false v ∙ and_comm (mem u ys) (mem v xs)) l.invariant.1 in
    adds_as (λ v u h. rw t) (rw (c.op_inputs-inputs.ensures, c.op_outputs-outputs.ensures) at a)
