-- `put_op_line` meets its contract.
use mathlib.Core.List.{[], ◌∷◌, ◌++◌}
use mathlib.Core.Path.{◌≡◌, sym, ◌∙◌}
use Prim.Native.Nat.{◌<◌}
use native.Mathlib.Omega.{arith}
use Rattle.plank_core.specs.laws.Putting.{put_as, put_then, put_whole}
use Rattle.sir_analyses.proofs.claims.chart.Lines.{index_long}
use Rattle.sir_analyses.proofs.claims.chart.Numbers.{number_five}
use Rattle.sir_analyses.specs.Chart.{index}
use Rattle.sir_answers.specs.inner.Columns.{line_with}
use Rattle.sir_answers.proofs.chart_lines.LineTexts.{line_fed, line_fed_length}
use Rattle.sir_answers.proofs.chart_lines.put_op_line.Goals as goal

pub put_byte-b-requires : goal.put_byte-b-requires
put_byte-b-requires c =
    let put = c.put_index-a.ensures in
    omega (arith, put.next, put.long, index_long c.args.o.0 (number_five c.args.o.0 (omega (arith, c.requires.o_bound.0, c.args.image.well_formed.sized.operations_most))), c.requires.o_bound.2)

pub put_text-c-requires : goal.put_text-c-requires
put_text-c-requires c =
    let put = c.put_index-a.ensures in
    omega (arith, c.put_byte-b.ensures.next, c.put_byte-b.ensures.long, put.next, put.long, index_long c.args.o.0 (number_five c.args.o.0 (omega (arith, c.requires.o_bound.0, c.args.image.well_formed.sized.operations_most))), c.requires.o_bound.1, c.requires.o_bound.2)

pub put_byte-d-requires : goal.put_byte-d-requires
put_byte-d-requires c =
    let put = c.put_index-a.ensures in
    let text = c.put_text-c.ensures in
    omega (arith, text.next, text.long, c.put_byte-b.ensures.next, c.put_byte-b.ensures.long, put.next, put.long, index_long c.args.o.0 (number_five c.args.o.0 (omega (arith, c.requires.o_bound.0, c.args.image.well_formed.sized.operations_most))), c.requires.o_bound.1, c.requires.o_bound.2)

pub put_byte-e-requires : goal.put_byte-e-requires
put_byte-e-requires c =
    let put = c.put_index-a.ensures in
    let text = c.put_text-c.ensures in
    omega (arith, c.put_byte-d.ensures.next, c.put_byte-d.ensures.long, text.next, text.long, c.put_byte-b.ensures.next, c.put_byte-b.ensures.long, put.next, put.long, index_long c.args.o.0 (number_five c.args.o.0 (omega (arith, c.requires.o_bound.0, c.args.image.well_formed.sized.operations_most))), c.requires.o_bound.1, c.requires.o_bound.2)

pub put_byte-requires : goal.put_byte-requires
put_byte-requires c =
    let put = c.put_index-a.ensures in
    let text = c.put_text-c.ensures in
    omega (arith, c.put_byte-e.ensures.next, c.put_byte-e.ensures.long, c.put_byte-d.ensures.next, c.put_byte-d.ensures.long, text.next, text.long, c.put_byte-b.ensures.next, c.put_byte-b.ensures.long, put.next, put.long, index_long c.args.o.0 (number_five c.args.o.0 (omega (arith, c.requires.o_bound.0, c.args.image.well_formed.sized.operations_most))), c.requires.o_bound.1, c.requires.o_bound.2)

pub returns : goal.returns
returns c =
    let w = c.args.image.words.now in
    let o = c.args.o.0 in
    let cs = c.args.columns.now in
    let call = c.call_column.ensures in
    let few : o < 100000 = omega (arith, c.requires.o_bound.0, c.args.image.well_formed.sized.operations_most) in
    let put = put_then c.put_index-a.ensures (put_then c.put_byte-b.ensures (put_then c.put_text-c.ensures (put_then c.put_byte-d.ensures (put_then c.put_byte-e.ensures c.put_byte.ensures)))) in
    let text : index o ++ (124 ∷ (cs ++ (124 ∷ c.call_column.result ∷ 10 ∷ []))) ≡ line_with w o cs ++ (10 ∷ []) = rw (call, c.op_word.ensures) (line_fed w o cs) in
    put_whole (put_as text put) (line_fed_length w o cs few c.requires.o_bound.1 ∙ sym c.requires.o_bound.2)
