-- `send_to_predecessors` meets its contract.
use mathlib.Core.Path.{◌≡◌, ap, subst, ◌∙◌}
use mathlib.Core.List.{List}
use Prim.Native.Nat.{ℕ}
use lib.ListN.{length, take, replicate}
use native.Mathlib.Omega.{arith}
use Rattle.plank_core.specs.Lists.{◌∈◌}
use Rattle.plank_core.specs.inner.DenseIndexSet.{row_of, members}
use Rattle.plank_core.specs.laws.DenseIndexSet.{length_row}
use Rattle.sir_analyses.proofs.local_liveness.SetAnswers.{front_members}
use Rattle.sir_analyses.proofs.local_liveness.Stepping.{row_fits, block_small, listed_below, moved_below, sent_to}
use Rattle.sir_analyses.proofs.local_liveness.send_to_predecessors.Goals as goal

pub list-count-requires : goal.list-count-requires
list-count-requires c =
    let preds = c.args.preds.now in
    (ap length c.row_of.ensures ∙ length_row preds c.args.b.id.0 (row_fits preds (block_small c.args.b.image.well_formed c.args.b.known) c.requires.predecessor_rows.preds_long), omega arith)

pub send_all-requires : goal.send_all-requires
send_all-requires c =
    let w = c.args.b.image.words.now in
    let b : ℕ = c.args.b.id.0 in
    let good = c.args.b.image.well_formed in
    let k = c.list-count in
    let p = c.take_block_inputs-n in
    let ids : take k.result k.new.out ≡ members (row_of c.args.preds.now b) = front_members c.row_of.result.now (replicate 512 0) k.ensures.0 k.ensures.1 ∙ ap members c.row_of.ensures in record { set_len = (omega (arith, p.auto, c.requires.new_len.0), c.requires.new_len.1); by_index = λ q m. listed_below good b c.args.b.known c.requires.predecessor_rows q (subst (λ (xs : List ℕ). q ∈ xs) ids m); by_index_2 = λ q i m n. moved_below good b c.args.b.known c.requires.predecessor_rows q (subst (λ (xs : List ℕ). q ∈ xs) ids m) p.ensures.1 i n }

pub returns : goal.returns
returns c =
    let k = c.list-count in
    let b : ℕ = c.args.b.id.0 in
    let ids : take k.result k.new.out ≡ members (row_of c.args.preds.now b) = front_members c.row_of.result.now (replicate 512 0) k.ensures.0 k.ensures.1 ∙ ap members c.row_of.ensures in
    sent_to c.args.b.image.well_formed b c.args.b.known c.requires.predecessor_rows ids c.take_block_inputs-n.ensures.1 c.send_all.ensures
