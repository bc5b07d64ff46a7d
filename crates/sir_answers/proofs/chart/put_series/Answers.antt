-- `put_series` meets its contract. The invariant: the blocks before this one stand before `at`, and the rest is as it was.
use mathlib.Core.List.{List, ◌++◌}
use mathlib.Core.Path.{◌≡◌, refl, sym, ap, ◌∙◌, subst}
use Prim.Native.Nat.{ℕ, ◌+◌, ◌-◌, ◌*◌, ◌/◌, ◌≤◌}
use native.Mathlib.Omega.{arith}
use lib.Seq.{take_all}
use lib.ListN.{length, get_or, take, drop, replicate}
use borrow.Rule.Slice.PartMut.{same_len_mid}
use Rattle.plank_core.specs.laws.Lists.{get_or_mem}
use Rattle.plank_core.specs.Lists.{bind, ◌∈◌}
use Rattle.sir_analyses.proofs.claims.chart.Places.{sheets_hold}
use Rattle.sir_analyses.proofs.claims.order.OrderProof.{blocks_below}
use Rattle.sir_analyses.specs.Chart.{blank_line, block_lines, on_sheets, text_of, lines_of}
use Rattle.sir_analyses.specs.Order.{blocks_rpo}
use Rattle.sir_answers.proofs.chart.ChartTexts.{lines_next, blocks_next, lines_within, sheets_text}
use Rattle.sir_answers.proofs.chart_lines.LineTexts.{fill_next, fill_end}
use Rattle.sir_answers.proofs.chart.put_series.Goals as goal

pub loop-b-init : goal.loop-b-init
loop-b-init c = (refl, refl, refl, refl)

pub invariant_of-block : goal.invariant_of-block
invariant_of-block c =
    let order = c.rpo-order.result.now in
    let i = c.loop-b.b-index in
    let same : order ≡ blocks_rpo c.args.tables.image.words.now = (rw c.visited.ensures.1 at c.rpo-order.ensures) ∙ c.args.tables.visit_stage.rpo_is in
    let member = subst (λ (bs : List ℕ). get_or order i 0 ∈ bs) same (get_or_mem order i 0 c.loop-b-test.true) in
    let good = c.args.tables.visit_stage.well_formed in
    record { known = blocks_below c.args.tables.image.words.now good (get_or order i 0) member }

pub slice_bounds-put_block-end-in-loop-b : goal.slice_bounds-put_block-end-in-loop-b
slice_bounds-put_block-end-in-loop-b c =
    let w = c.args.tables.image.words.now in
    let order = c.rpo-order.result.now in
    let l = c.loop-b in
    let h = c.loop-b-test.true in
    let same : order ≡ blocks_rpo w = (rw c.visited.ensures.1 at c.rpo-order.ensures) ∙ c.args.tables.visit_stage.rpo_is in
    let room : 73 * lines_of w (take (l.b-index + 1) order) ≤ length c.args.out.now = omega (arith, lines_within w order (l.b-index + 1), ap (lines_of w) same, sheets_hold (lines_of w (blocks_rpo w)), c.requires.series_bound.1) in
    omega (arith, room, l.invariant.0, l.invariant.1, lines_next w order l.b-index h, c.block_lines.ensures.0)

pub put_block-requires : goal.put_block-requires
put_block-requires c =
    let w = c.args.tables.image.words.now in
    let order = c.rpo-order.result.now in
    let l = c.loop-b in
    let h = c.loop-b-test.true in
    let same : order ≡ blocks_rpo w = (rw c.visited.ensures.1 at c.rpo-order.ensures) ∙ c.args.tables.visit_stage.rpo_is in
    let room : 73 * lines_of w (take (l.b-index + 1) order) ≤ length c.args.out.now = omega (arith, lines_within w order (l.b-index + 1), ap (lines_of w) same, sheets_hold (lines_of w (blocks_rpo w)), c.requires.series_bound.1) in
    let member = subst (λ (bs : List ℕ). get_or order l.b-index 0 ∈ bs) same (get_or_mem order l.b-index 0 h) in
    record { pointer_stage = c.args.tables.pointer_stage; series_bound = (c.requires.series_bound.0, c.other_locals.ensures); fact = (member, omega (arith, room, l.invariant.0, l.invariant.1, lines_next w order l.b-index h, c.block_lines.ensures.0)) }

pub loop-b-preserved : goal.loop-b-preserved
loop-b-preserved c =
    let w = c.args.tables.image.words.now in
    let order = c.rpo-order.result.now in
    let l = c.loop-b in
    let h = c.loop-b-test.true in
    let same : order ≡ blocks_rpo w = (rw c.visited.ensures.1 at c.rpo-order.ensures) ∙ c.args.tables.visit_stage.rpo_is in
    let room : 73 * lines_of w (take (l.b-index + 1) order) ≤ length c.args.out.now = omega (arith, lines_within w order (l.b-index + 1), ap (lines_of w) same, sheets_hold (lines_of w (blocks_rpo w)), c.requires.series_bound.1) in
    let b = get_or order l.b-index 0 in
    let d = c.args.out.now in
    let series = c.args.series in
    let lines = c.block_lines.ensures.0 in
    let next = lines_next w order l.b-index h in
    let long : length c.put_block.new.out ≡ 73 * c.block_lines.result = omega (arith, c.put_block.auto, room, l.invariant.0, l.invariant.1, next, lines) in
    let put = fill_next (text_of (bind (take l.b-index order) (block_lines w series))) (text_of (block_lines w series b)) l.at (73 * c.block_lines.result) d l.invariant.2 l.invariant.3 c.put_block.ensures long in
    let more = blocks_next w order l.b-index h series in (
      same_len_mid l.at (l.at + 73 * c.block_lines.result - l.at) l.out c.put_block.new.out (omega (arith, c.put_block.auto)) ∙ l.invariant.0,
      omega (arith, l.invariant.1, next, lines),
      ap length (sym more) ∙ put.0,
      put.1 ∙ ap (λ (t : List ℕ). t ++ drop (l.at + 73 * c.block_lines.result) d) more,
    )

pub returns : goal.returns
returns c =
    let w = c.args.tables.image.words.now in
    let order = c.rpo-order.result.now in
    let l = c.loop-b in
    let all : take l.b-index order ≡ blocks_rpo w = take_all l.b-index order c.loop-b-test.false ∙ (rw c.visited.ensures.1 at c.rpo-order.ensures) ∙ c.args.tables.visit_stage.rpo_is in
    let room : lines_of w (blocks_rpo w) ≤ on_sheets (lines_of w (blocks_rpo w)) = sheets_hold (lines_of w (blocks_rpo w)) in
    let series = c.args.series in
    let rest = take (length l.out - l.at) (drop l.at l.out) in
    let n : length rest / 73 ≡ on_sheets (lines_of w (blocks_rpo w)) - lines_of w (blocks_rpo w) = omega (arith, room, l.invariant.0, l.invariant.1, ap (lines_of w) all, c.requires.series_bound.1) in
    fill_end (text_of (bind (take l.b-index order) (block_lines w series))) (text_of (replicate (length rest / 73) blank_line)) l.at c.args.out.now l.invariant.2 l.invariant.3 c.put_blanks.ensures
    ∙ ap (λ (bs : List ℕ). text_of (bind bs (block_lines w series)) ++ text_of (replicate (length rest / 73) blank_line)) all ∙ sheets_text w series (length rest / 73) n
