-- `all_distinct` meets its contract.
use Rattle.std.proofs.Common.{◌∙◌}
use Rattle.plank_core.specs.inner.DenseIndexSet.{empty_set, set_of, word_of}
use Rattle.plank_core.specs.laws.Distinct.{fresh_all}
use Rattle.sir_data.proofs.block_rules.all_distinct.Goals as goal

pub returns : goal.returns
unfolding empty_set set_of word_of
returns c = c.all_new.ensures.value ∙ fresh_all c.args.run.now
