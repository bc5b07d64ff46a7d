-- `put_digits`, which calls itself, meets its contract.
use Prim.Native.Nat.{ℕ, ◌+◌, ◌≤◌, ◌/◌, ◌%◌}
use mathlib.Core.Path.{◌≡◌, sym, ap, ◌∙◌}
use mathlib.Core.List.{[], ◌∷◌}
use native.Mathlib.Omega.{arith}
use lib.ListN.{length, length-append}
use Rattle.plank_core.specs.Text.{number}
use Rattle.plank_core.specs.laws.Text.{number_one, number_more}
use Rattle.plank_core.specs.laws.Putting.{put_as, put_then}
use Rattle.plank_core.proofs.text.+put_digits.Goals as goal

-- a number of several digits has one more than its tenth
digits_less : (n : ℕ) → 10 ≤ n → length (number n) ≡ length (number (n / 10)) + 1
digits_less n h = ap length (number_more n h) ∙ length-append (number (n / 10)) ((48 + n % 10) ∷ [])

pub put_byte-requires : goal.put_byte-requires
put_byte-requires t c = omega (arith, c.requires, ap length (number_one c.args.n c.if-n-lt10.true))

pub returns-then-n-lt10 : goal.returns-then-n-lt10
returns-then-n-lt10 t c = put_as (sym (number_one c.args.n c.if-n-lt10.true)) c.put_byte.ensures

pub put_digits-m-requires : goal.put_digits-m-requires
put_digits-m-requires t c =
    let many = c.if-n-lt10.false in
    (omega (arith, many), omega (arith, c.requires, digits_less c.args.n many))

pub put_byte-requires-2 : goal.put_byte-requires-2
put_byte-requires-2 t c =
    let put = c.put_digits-m.ensures in
    omega (arith, c.requires, put.next, put.long, digits_less c.args.n c.if-n-lt10.false)

pub returns : goal.returns
returns t c = put_as (sym (number_more c.args.n c.if-n-lt10.false)) (put_then c.put_digits-m.ensures c.put_byte-2.ensures)
