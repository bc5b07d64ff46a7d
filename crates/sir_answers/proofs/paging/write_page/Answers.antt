-- `write_page` meets its contract: the number and the words are put, then the check of what stands there.
use mathlib.Core.Path.{◌≡◌, ap}
use Prim.Native.Nat.{ℕ, ◌+◌, ◌-◌, ◌*◌}
use native.Mathlib.Omega.{arith}
use lib.ListN.{take, drop}
use Rattle.sir_data.specs.laws.Bytes.{Words}
use Rattle.sir_answers.proofs.paging.WrittenPages.{numbered_put, page_written}
use Rattle.sir_answers.proofs.paging.write_page.Goals as goal

pub returns : goal.returns
returns c =
    let w = c.args.words.now in
    let page = c.args.page in
    let out = c.args.out.now in
    let small : Words w = λ i l. omega (arith, c.type_inv.words i) in
    let n : 126 * page + 126 - 126 * page ≡ 126 = omega arith in
    let unchecked_put = numbered_put w page small c.requires.page_in_bounds.0 c.requires.page_in_bounds.1 out (ap (λ (k : ℕ). take k (drop (126 * page) w)) n) c.put_word-n.ensures c.put_words-m.ensures in
    page_written w page small c.requires.page_in_bounds.0 c.requires.page_in_bounds.1 out c.requires.in_bounds unchecked_put c.page_check-check.ensures c.put_word.ensures
