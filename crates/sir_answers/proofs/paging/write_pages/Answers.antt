-- `write_pages` meets its contract. The loop's invariant: p pages are written, and the rest is as it was.
use mathlib.Core.Path.{◌≡◌, refl, ◌∙◌}
use Prim.Native.Nat.{◌+◌, ◌*◌, ◌/◌}
use native.Mathlib.Omega.{arith}
use lib.ListN.{length}
use Rattle.sir_answers.proofs.paging.WrittenPages.{page_more}
use Rattle.sir_answers.proofs.paging.write_pages.Goals as goal

pub loop-p-preserved : goal.loop-p-preserved
loop-p-preserved c =
    let first = c.args in
    let l = c.loop-p in
    let next : 512 * l.p + 512 ≡ 512 * (l.p + 1) = omega arith in
    rw next at (page_more first.words.now l.p (512 * l.p) first.out.now refl l.invariant c.write_page.ensures)

pub returns : goal.returns
returns c =
    let l = c.loop-p in
    let p : l.p ≡ length c.args.out.now / 512 = omega arith in
    l.invariant ∙ rw p
