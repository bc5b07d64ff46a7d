-- `say_filling` meets its contract.
use mathlib.Core.Path.{sym}
use Prim.Native.Nat.{◌-◌, ◌*◌}
use native.Mathlib.Omega.{arith}
use lib.Seq.{length-take-le, length_front}
use Rattle.chart.proofs.printing.say_filling.Goals as goal

pub slice_bounds-put_blanks-end-2 : goal.slice_bounds-put_blanks-end-2
slice_bounds-put_blanks-end-2 g c =
    sym (length-take-le _ c.args.out.now (omega (arith, c.on_sheets.ensures, c.requires.out_len)))

pub put_blanks-requires : goal.put_blanks-requires
put_blanks-requires g c =
    let n = 73 * (c.on_sheets.result - c.series_lines-lines.result) in
    omega (arith, length-take-le n c.args.out.now (omega (arith, c.on_sheets.ensures, c.requires.out_len)))

pub slice_bounds-write_all-end-2 : goal.slice_bounds-write_all-end-2
slice_bounds-write_all-end-2 g c =
    let n = 73 * (c.on_sheets.result - c.series_lines-lines.result) in
    sym (length-take-le n _ (omega (arith, length_front c.args.out.now c.put_blanks.new.out n (omega (arith, c.put_blanks.auto)), c.on_sheets.ensures, c.requires.out_len)))
