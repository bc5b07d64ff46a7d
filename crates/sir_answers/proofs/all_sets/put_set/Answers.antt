-- `put_set` meets its contract.
use mathlib.Core.Path.{sym, ap}
use mathlib.Core.List.{[], ◌∷◌}
use Prim.Native.Nat.{ℕ}
use lib.ListN.{length}
use Rattle.plank_core.specs.inner.DenseIndexSet.{members}
use Rattle.plank_core.specs.laws.Members.{members_most}
use Rattle.sir_analyses.proofs.local_liveness.SetAnswers.{front_members}
use Rattle.sir_analyses.proofs.answers.Writing.{puts_then, puts_as, puts_past}
use native.Mathlib.Omega.{arith}
use Rattle.sir_answers.proofs.all_sets.put_set.Goals as goal

pub overflow_add-result-then-out-eq0 : goal.overflow_add-result-then-out-eq0
overflow_add-result-then-out-eq0 c =
    omega (arith, c.len.ensures, members_most c.args.set.now, c.requires.1)

pub returns-then-out-eq0 : goal.returns-then-out-eq0
returns-then-out-eq0 c =
    let s = c.args.set.now in
    let out = c.args.out.now in
    let n = c.args.n in (
      omega (arith, c.len.ensures, members_most s),
      record {
        next = omega (arith, c.len.ensures);
        left = sym (puts_past (length out) n (length (members s) ∷ members s) out (omega (arith, c.if-out-eq0.true)));
      },
    )

pub returns : goal.returns
returns c =
    let s = c.args.set.now in
    let f = front_members s _ c.list-count.ensures.0 c.list-count.ensures.1 in
    let p = puts_as f c.put_words.ensures in
    let w = puts_as (ap (λ (n : ℕ). n ∷ []) c.list-count.ensures.0) c.put_word-m.ensures in
    (omega (arith, p.next, w.next, members_most s), puts_then w p)
