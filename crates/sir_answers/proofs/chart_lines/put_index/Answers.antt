-- `put_index` meets its contract.
use mathlib.Core.List.{[], ◌∷◌}
use mathlib.Core.Path.{◌≡◌, sym}
use Prim.Native.Nat.{◌+◌, ◌%◌}
use Rattle.plank_core.specs.laws.Putting.{put_as, put_then}
use Rattle.sir_analyses.specs.Chart.{index}
use Rattle.sir_answers.proofs.chart_lines.IndexDigits.{index_digits}
use Rattle.sir_answers.proofs.chart_lines.put_index.Goals as goal

pub returns : goal.returns
returns c =
    let o = c.args.o.0 in
    let text : c.digit_for.result ∷ c.digit_for-2.result ∷ c.digit_for-3.result ∷ c.digit_for-4.result ∷ (48 + o % 10) ∷ [] ≡ index o =
    rw (c.digit_for.ensures, c.digit_for-2.ensures, c.digit_for-3.ensures, c.digit_for-4.ensures) (sym (index_digits o c.requires.0)) in
    put_as text (put_then c.put_byte-a.ensures (put_then c.put_byte-b.ensures (put_then c.put_byte-c.ensures (put_then c.put_byte-d.ensures c.put_byte.ensures))))
