-- `put_blanks` meets its contract. The invariant: k blank lines stand in front, and the rest is as it was.
use mathlib.Core.List.{◌++◌}
use mathlib.Core.Path.{◌≡◌}
use Prim.Native.Nat.{◌*◌}
use lib.ListN.{length, drop, replicate}
use Rattle.sir_analyses.specs.Chart.{blank_line, text_of}
use Rattle.sir_answers.proofs.chart_lines.put_blanks.Given as goal

abbrev pub invariant-loop-k : goal.invariant-loop-k
invariant-loop-k l = (length (text_of (replicate l.k blank_line)) ≡ 73 * l.k) × (l.out ≡ text_of (replicate l.k blank_line) ++ drop (73 * l.k) l.initial.out)
