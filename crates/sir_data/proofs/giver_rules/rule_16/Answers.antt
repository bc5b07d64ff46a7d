-- `rule_16` meets its contract: the outputs of all operations, and then the inputs of all blocks, are passed with one set, empty at first.
use Rattle.std.proofs.Common.{ℕ, not, List, sym, ap, ◌∙◌}
use Rattle.plank_core.specs.inner.DenseIndexSet.{set_of, word_of, empty_set, fresh}
use Rattle.sir_data.specs.laws.Givers.{by_blocks, in_one_pass}
use Rattle.sir_data.proofs.giver_rules.rule_16.Goals as goal

pub returns-then-not-outputs_new : goal.returns-then-not-outputs_new
unfolding empty_set set_of word_of
returns-then-not-outputs_new c =
    let e = sym c.outputs_new.ensures.value ∙ c.if-not-outputs_new.true in
    sym (in_one_pass c.args.ranged.records.words.now c.args.ranged.records.sized c.args.ranged.in_range ∙ rw e)

pub returns : goal.returns
unfolding empty_set set_of word_of
returns c =
    let w : List ℕ = c.args.ranged.records.words.now in
    let new = c.if-not-outputs_new.false in
    let e = sym c.outputs_new.ensures.value ∙ new in
    ap not (c.inputs_new.ensures ∙ ap (λ (s : List ℕ). fresh s (by_blocks w)) (c.outputs_new.ensures.given_after new))
    ∙ sym (in_one_pass w c.args.ranged.records.sized c.args.ranged.in_range ∙ rw e)
