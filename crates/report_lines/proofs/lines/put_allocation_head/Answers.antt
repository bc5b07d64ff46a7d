-- `put_allocation_head` meets its contract.
use mathlib.Core.Path.{◌≡◌, refl, sym, ◌∙◌}
use native.Mathlib.Omega.{arith}
use borrow.Author.Tests.{eq-eqb, ne_eqb}
use Rattle.sir_data.specs.Pages.{word_at}
use Rattle.report_lines.specs.inner.AnswerLines.{allocation_head}
use Rattle.plank_core.specs.laws.Putting.{put_as, put_then}
use Rattle.plank_core.specs.laws.Text.{number_short}
use Rattle.report_lines.proofs.Intervals.{word_small}
use Rattle.report_lines.proofs.lines.put_allocation_head.Goals as goal

pub put_named-b-requires : goal.put_named-b-requires
put_named-b-requires c =
    let n1 = c.put_named-i.ensures in
    (omega arith, omega (arith, c.requires.1, n1.next, n1.long, number_short c.args.a (omega (arith, c.ranges))))

pub put_named-o-requires : goal.put_named-o-requires
put_named-o-requires c =
    let n1 = c.put_named-i.ensures in
    let n2 = c.put_named-b.ensures in
    (omega arith, omega (arith, c.requires.1, n1.next, n1.long, n2.next, n2.long, number_short c.args.a (omega (arith, c.ranges)), number_short c.word_at.result (omega (arith, c.word_at.ensures, word_small c.args.answer.now 0 (λ i. omega (arith, c.type_inv.answer i))))))

pub put_named-v-requires : goal.put_named-v-requires
put_named-v-requires c =
    let n1 = c.put_named-i.ensures in
    let n2 = c.put_named-b.ensures in
    let n3 = c.put_named-o.ensures in
    (omega arith, omega (arith, c.requires.1, n1.next, n1.long, n2.next, n2.long, n3.next, n3.long, number_short c.args.a (omega (arith, c.ranges)), number_short c.word_at.result (omega (arith, c.word_at.ensures, word_small c.args.answer.now 0 (λ i. omega (arith, c.type_inv.answer i)))), number_short c.word_at-2.result (omega (arith, c.word_at-2.ensures, word_small c.args.answer.now 1 (λ i. omega (arith, c.type_inv.answer i))))))

pub put_text-requires : goal.put_text-requires
put_text-requires c =
    let n1 = c.put_named-i.ensures in
    let n2 = c.put_named-b.ensures in
    let n3 = c.put_named-o.ensures in
    let n4 = c.put_named-v.ensures in
    omega (arith, c.requires.1, n1.next, n1.long, n2.next, n2.long, n3.next, n3.long, n4.next, n4.long, number_short c.args.a (omega (arith, c.ranges)), number_short c.word_at.result (omega (arith, c.word_at.ensures, word_small c.args.answer.now 0 (λ i. omega (arith, c.type_inv.answer i)))), number_short c.word_at-2.result (omega (arith, c.word_at-2.ensures, word_small c.args.answer.now 1 (λ i. omega (arith, c.type_inv.answer i)))), number_short c.word_at-3.result (omega (arith, c.word_at-3.ensures, word_small c.args.answer.now 2 (λ i. omega (arith, c.type_inv.answer i)))))

pub returns-then-word_at-eq0 : goal.returns-then-word_at-eq0
unfolding allocation_head
returns-then-word_at-eq0 c =
    let n1 = c.put_named-i.ensures in
    let n2 = c.put_named-b.ensures in
    let n3 = c.put_named-o.ensures in
    let n4 = c.put_named-v.ensures in
    let t = c.put_text.ensures in
    let z : word_at c.args.answer.now 6 ≡ 0 = sym c.word_at-4.ensures ∙ c.if-word_at-eq0.true in
    (omega (arith, t.next, c.requires.1, n1.next, n1.long, n2.next, n2.long, n3.next, n3.long, n4.next, n4.long, number_short c.args.a (omega (arith, c.ranges)), number_short c.word_at.result (omega (arith, c.word_at.ensures, word_small c.args.answer.now 0 (λ i. omega (arith, c.type_inv.answer i)))), number_short c.word_at-2.result (omega (arith, c.word_at-2.ensures, word_small c.args.answer.now 1 (λ i. omega (arith, c.type_inv.answer i)))), number_short c.word_at-3.result (omega (arith, c.word_at-3.ensures, word_small c.args.answer.now 2 (λ i. omega (arith, c.type_inv.answer i))))), put_as (rw (eq-eqb _ _ z, c.word_at.ensures, c.word_at-2.ensures, c.word_at-3.ensures) refl) (put_then (put_then (put_then (put_then n1 n2) n3) n4) t))

pub put_text-requires-2 : goal.put_text-requires-2
put_text-requires-2 c =
    let n1 = c.put_named-i.ensures in
    let n2 = c.put_named-b.ensures in
    let n3 = c.put_named-o.ensures in
    let n4 = c.put_named-v.ensures in
    omega (arith, c.requires.1, n1.next, n1.long, n2.next, n2.long, n3.next, n3.long, n4.next, n4.long, number_short c.args.a (omega (arith, c.ranges)), number_short c.word_at.result (omega (arith, c.word_at.ensures, word_small c.args.answer.now 0 (λ i. omega (arith, c.type_inv.answer i)))), number_short c.word_at-2.result (omega (arith, c.word_at-2.ensures, word_small c.args.answer.now 1 (λ i. omega (arith, c.type_inv.answer i)))), number_short c.word_at-3.result (omega (arith, c.word_at-3.ensures, word_small c.args.answer.now 2 (λ i. omega (arith, c.type_inv.answer i)))))

pub returns : goal.returns
unfolding allocation_head
returns c =
    let n1 = c.put_named-i.ensures in
    let n2 = c.put_named-b.ensures in
    let n3 = c.put_named-o.ensures in
    let n4 = c.put_named-v.ensures in
    let t = c.put_text-2.ensures in
    let z : word_at c.args.answer.now 6 ≡ 0 → ⊥ = λ e. c.if-word_at-eq0.false (c.word_at-4.ensures ∙ e) in
    (omega (arith, t.next, c.requires.1, n1.next, n1.long, n2.next, n2.long, n3.next, n3.long, n4.next, n4.long, number_short c.args.a (omega (arith, c.ranges)), number_short c.word_at.result (omega (arith, c.word_at.ensures, word_small c.args.answer.now 0 (λ i. omega (arith, c.type_inv.answer i)))), number_short c.word_at-2.result (omega (arith, c.word_at-2.ensures, word_small c.args.answer.now 1 (λ i. omega (arith, c.type_inv.answer i)))), number_short c.word_at-3.result (omega (arith, c.word_at-3.ensures, word_small c.args.answer.now 2 (λ i. omega (arith, c.type_inv.answer i))))), put_as (rw (ne_eqb _ _ z, c.word_at.ensures, c.word_at-2.ensures, c.word_at-3.ensures) refl) (put_then (put_then (put_then (put_then n1 n2) n3) n4) t))
