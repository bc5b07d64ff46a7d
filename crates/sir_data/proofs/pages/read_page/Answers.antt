-- `read_page` meets its contract: the bytes that are copied are words 1 to 126 of the page.
use Rattle.std.proofs.Common.{◌≡◌, ℕ, ◌+◌, ◌-◌, ◌*◌, ◌/◌, length, take, drop, add_assoc, arith, length-drop, length-take-le}
use Rattle.sir_data.specs.laws.Bytes.{words_part}
use Rattle.sir_data.proofs.pages.read_page.Goals as goal

pub returns : goal.returns
returns c =
    let s = c.args.image.now in
    let p : ℕ = c.args.page in
    let n : 512 * p + 508 - (512 * p + 4) ≡ 504 = omega arith in
    let start : 4 * (128 * p + 1) ≡ 512 * p + 4 = omega arith in
    let words = rw start at (words_part s (128 * p + 1) 126 (omega arith)) in
    let long : length (take 504 (drop (512 * p + 4) s)) / 4 ≡ 126 = omega (arith, length-take-le 504 (drop (512 * p + 4) s), length-drop (512 * p + 4) s) in
    rw (c.copy_words.ensures, n, words, long) (simp add_assoc)
