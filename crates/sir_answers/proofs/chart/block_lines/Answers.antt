-- `block_lines` meets its contract.
use Prim.Native.Nat.{◌-◌}
use native.Mathlib.Omega.{arith}
use Rattle.plank_core.specs.laws.Loops.{length_count}
use Rattle.sir_data.specs.Records.{block_word}
use Rattle.sir_answers.proofs.chart.block_lines.Goals as goal

pub returns : goal.returns
returns c =
    let w = c.args.b.image.words.now in
    let b = c.args.b.id.0 in
    let span = c.operations-span.ensures in
    let range = c.args.b.image.well_formed.in_range.ops_range b c.args.b.known in
    (omega (arith, span, length_count (block_word w b 4) (block_word w b 5 - block_word w b 4)), omega (arith, span, range, c.args.b.image.well_formed.sized.operations_most))
