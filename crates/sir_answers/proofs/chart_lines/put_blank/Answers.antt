-- `put_blank` meets its contract.
use mathlib.Core.List.{List, [], ◌∷◌, ◌++◌}
use mathlib.Core.Path.{sym, ap, ◌∙◌}
use Prim.Native.Nat.{ℕ}
use native.Mathlib.Omega.{arith}
use lib.ListN.{length-replicate}
use Rattle.plank_core.specs.laws.Putting.{put_then, put_whole}
use Rattle.sir_analyses.proofs.claims.chart.Lines.{blank_spaces}
use Rattle.sir_answers.proofs.chart_lines.put_blank.Goals as goal

pub returns : goal.returns
returns c =
    let put = put_then c.put_spaces-m.ensures c.put_byte.ensures in
    put_whole put (omega (arith, put.next, c.requires, length-replicate {A = ℕ} 72 32, c.put_spaces-m.ensures.next, c.put_byte.ensures.next)) ∙ ap (λ (l : List ℕ). l ++ (10 ∷ [])) (sym blank_spaces)
