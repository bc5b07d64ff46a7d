-- `page_check` meets its contract. The loop keeps the sum of the words so far and the sum of those sums, both wrapped.
use Rattle.std.proofs.Common.{◌≡◌, refl, arith}
use Rattle.sir_data.specs.Pages.{page_word}
use Rattle.sir_data.proofs.pages.PageCheck.{total_none, turn_a, turn_b, check_is}
use Rattle.sir_data.proofs.pages.page_check.Goals as goal

pub loop-i-init : goal.loop-i-init
loop-i-init c = (omega arith, simp total_none, simp total_none)

pub loop-i-preserved : goal.loop-i-preserved
loop-i-preserved c =
    let l = c.loop-i in
    let w = page_word c.args.image.now c.args.page in
    let ea = turn_a w l.i l.invariant.1 c.word_at-a.ensures refl in
    (omega arith, ea, turn_b w l.i l.invariant.2 ea refl)

pub returns : goal.returns
returns c =
    let at_loop = c.loop-i in
    let e : at_loop.i ≡ 127 = omega arith in
    check_is (page_word c.args.image.now c.args.page) (rw e at at_loop.invariant.1) (rw e at at_loop.invariant.2) (omega arith) (omega arith)
