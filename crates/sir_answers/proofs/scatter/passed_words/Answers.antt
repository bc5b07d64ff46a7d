-- `passed_words` meets its contract. The invariant: the first cursors are numbers of words, the others as they were.
use mathlib.Core.Path.{◌≡◌, refl, ap, ◌∙◌}
use Prim.Native.Nat.{ℕ, ◌-◌, ◌^◌}
use native.Mathlib.Omega.{arith}
use lib.ListN.{set}
use lib.Seq.{get_or-set_same, get_or-set_other}
use Rattle.plank_core.specs.laws.Lists.{below_next}
use Rattle.sir_answers.specs.inner.Scatter.{number_at}
use Rattle.sir_answers.proofs.scatter.passed_words.Goals as goal

pub loop-cursor-init : goal.loop-cursor-init
loop-cursor-init c = ((λ u h. absurd (omega arith)), λ u h. refl)

pub loop-cursor-preserved : goal.loop-cursor-preserved
loop-cursor-preserved c =
    let v = c.loop-cursor.cursor-index in
    let cs = c.loop-cursor.cursors in
    let cs₀ = c.args.cursors.now in
    let x = 2 ^ 59 - number_at cs v in (
      below_next (λ u. number_at (set cs v x) u ≡ 2 ^ 59 - number_at cs₀ u) v
          (λ u h. get_or-set_other cs v u x 0 (λ e. omega arith) ∙ c.loop-cursor.invariant.0 u h)
          (get_or-set_same cs v x 0 (omega arith) ∙ ap (λ (i : ℕ). 2 ^ 59 - i) (c.loop-cursor.invariant.1 v (omega arith))),
      λ u h. get_or-set_other cs v u x 0 (λ e. omega arith) ∙ c.loop-cursor.invariant.1 u (omega arith),
    )

pub returns : goal.returns
returns c = λ v h. c.loop-cursor.invariant.0 v (omega arith)
