-- `say_blocks` meets its contract: each block has room in the slice.
use mathlib.Core.List.{List}
use mathlib.Core.Path.{◌≡◌, refl, sym, ap, ◌∙◌, subst}
use Prim.Native.Nat.{ℕ, ◌*◌}
use native.Mathlib.Omega.{arith}
use lib.Seq.{length-take-le, length_front}
use lib.ListN.{length, get_or}
use Rattle.plank_core.specs.laws.Lists.{get_or_mem}
use Rattle.plank_core.specs.Lists.{◌∈◌}
use Rattle.sir_analyses.proofs.claims.order.OrderProof.{blocks_below}
use Rattle.sir_data.specs.Records.{ops}
use Rattle.sir_analyses.specs.Order.{blocks_rpo}
use Rattle.chart.proofs.printing.say_blocks.Goals as goal

pub slice_bounds-other_locals-end : goal.slice_bounds-other_locals-end
slice_bounds-other_locals-end g c = refl

pub other_locals-requires : goal.other_locals-requires
other_locals-requires g c =
    record { by_index = (c.args.tables.image.words.now, c.args.tables.pointer_stage); series_bound = (c.requires.series_bound, refl) }

pub invariant_of-block : goal.invariant_of-block
invariant_of-block g c =
    let order = c.rpo-order.result.now in
    let i = c.loop-b.b-index in
    let same : order ≡ blocks_rpo c.args.tables.image.words.now = (rw c.visited.ensures.1 at c.rpo-order.ensures) ∙ c.args.tables.visit_stage.rpo_is in
    let member = subst (λ (bs : List ℕ). get_or order i 0 ∈ bs) same (get_or_mem order i 0 c.loop-b-test.true) in
    let good = c.args.tables.visit_stage.well_formed in
    record { known = blocks_below c.args.tables.image.words.now good (get_or order i 0) member }

pub overflow_mul-end : goal.overflow_mul-end
overflow_mul-end g c = omega (arith, c.block_lines-end.ensures.1)

pub slice_bounds-put_block-end : goal.slice_bounds-put_block-end
slice_bounds-put_block-end g c =
    sym c.other_locals.ensures.long

pub slice_bounds-put_block-end-in-loop-b : goal.slice_bounds-put_block-end-in-loop-b
slice_bounds-put_block-end-in-loop-b g c =
    omega (arith, c.block_lines-end.ensures.1, c.loop-b.auto.out, c.requires.out_len)

pub slice_bounds-put_block-end-in-loop-b-2 : goal.slice_bounds-put_block-end-in-loop-b-2
slice_bounds-put_block-end-in-loop-b-2 g c =
    sym (length-take-le (73 * c.block_lines-end.result) c.loop-b.out (omega (arith, c.block_lines-end.ensures.1, c.loop-b.auto.out, c.requires.out_len)))

pub put_block-requires-clause-pointer_stage : goal.put_block-requires-clause-pointer_stage
put_block-requires-clause-pointer_stage g c =
    rw c.live_sets.ensures.0 c.args.tables.pointer_stage

pub put_block-requires-clause-fact : goal.put_block-requires-clause-fact
put_block-requires-clause-fact g c =
    let order = c.rpo-order.result.now in
    let i = c.loop-b.b-index in
    let image : c.live_sets.result.image.words.now ≡ c.args.tables.image.words.now = rw c.live_sets.ensures.0 refl in
    let same : order ≡ blocks_rpo c.live_sets.result.image.words.now = (rw c.visited.ensures.1 at c.rpo-order.ensures) ∙ c.args.tables.visit_stage.rpo_is ∙ ap blocks_rpo (sym image) in
    let member = subst (λ (bs : List ℕ). get_or order i 0 ∈ bs) same (get_or_mem order i 0 c.loop-b-test.true) in
    let long = length-take-le (73 * c.block_lines-end.result) c.loop-b.out (omega (arith, c.block_lines-end.ensures.1, c.loop-b.auto.out, c.requires.out_len)) in
    (member, omega (arith, long, c.block_lines-end.ensures.0, ap (λ (w : List ℕ). length (ops w (get_or order i 0))) image))

pub slice_bounds-write_all-end : goal.slice_bounds-write_all-end
slice_bounds-write_all-end g c =
    let l = c.loop-b in
    let n = 73 * c.block_lines-end.result in
    omega (arith, length_front l.out c.put_block.new.out n (omega (arith, c.put_block.auto)), c.block_lines-end.ensures.1, l.auto.out, c.requires.out_len)

pub slice_bounds-write_all-end-in-loop-b : goal.slice_bounds-write_all-end-in-loop-b
slice_bounds-write_all-end-in-loop-b g c =
    let l = c.loop-b in
    let n = 73 * c.block_lines-end.result in
    sym (length-take-le n _ (omega (arith, length_front l.out c.put_block.new.out n (omega (arith, c.put_block.auto)), c.block_lines-end.ensures.1, l.auto.out, c.requires.out_len)))

pub shape_of-out-in_err-write_all : goal.shape_of-out-in_err-write_all
shape_of-out-in_err-write_all g c =
    let l = c.loop-b in
    length_front l.out c.put_block.new.out (73 * c.block_lines-end.result) (omega (arith, c.put_block.auto)) ∙ l.auto.out
