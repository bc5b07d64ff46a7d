-- `owned_tables` meets its contract.
use mathlib.Core.Path.{◌∙◌}
use native.Mathlib.Omega.{arith}
use Rattle.sir_analyses.specs.inner.Stages.{part}
use Rattle.sir_analyses.proofs.Tables.{cleared_long}
use Rattle.sir_analyses.proofs.stages.Parts.{length_part, put_back, put_long}
use Rattle.sir_answers.proofs.owned_tables.OwnedTables.{tables_owned}
use Rattle.sir_answers.proofs.owned_tables.owned_tables.Goals as goal

pub returns : goal.returns
unfolding part
returns c =
    let owned = c.args.owned.now in
    let long = cleared_long owned 4616 c.requires.owned_value in
    let rows = c.own_rows.new.rows in
    let adds = c.own_rows.ensures in
    let put = put_long 0 4104 owned rows (adds.long ∙ length_part 0 4104 owned (omega (arith, long))) (omega (arith, long)) ∙ long in
    let words = c.own_words.new.owners in
    tables_owned c.args.pointed.pointer_stage words c.requires.owned_value adds (c.own_words.auto.owners ∙ length_part 4104 512 (put_back 0 4104 owned rows) (omega (arith, put))) c.own_words.ensures
