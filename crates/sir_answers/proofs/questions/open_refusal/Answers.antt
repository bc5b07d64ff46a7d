-- `open_refusal` meets its contract.
use Rattle.std.proofs.Common.{◌≡◌, ◌-◌, ◌∙◌, arith, rules}
use Rattle.plank_core.specs.laws.Lists.{mem_range, count_mem}
use Rattle.sir_data.specs.Records.{block_word}
use Rattle.sir_data.specs.Refusals.{refused, number}
use Rattle.sir_answers.proofs.questions.OpenRules.{known, unknown, unknown_block, unknown_operation, not_held, held}
use Rattle.sir_answers.proofs.questions.open_refusal.Goals as goal

pub returns-in_err-id_refusal : goal.returns-in_err-id_refusal
returns-in_err-id_refusal c =
    let a = c.args in
    let r = c.in_err-id_refusal in
    let e : refused c.from_residual.result ≡ number r.field-0.0 = search rules in
    let u = unknown r.field-0.0 r.ensures in
    e ∙ u.0 ∙ unknown_block a.b.0 a.o.0 a.image.words.now (omega (arith, c.block_count.ensures, u.1))

pub returns-in_err-id_refusal-2 : goal.returns-in_err-id_refusal-2
returns-in_err-id_refusal-2 c =
    let a = c.args in
    let r = c.in_err-id_refusal-2 in
    let e : refused c.from_residual-in_err-id_refusal-2.result ≡ number r.field-0.0 = search rules in
    let u = unknown r.field-0.0 r.ensures in
    e ∙ u.0 ∙ unknown_operation a.b.0 a.o.0 a.image.words.now (omega (arith, c.block_count.ensures, known c.in_ok-id_refusal.ensures)) (omega (arith, c.operation_count.ensures, u.1))

pub returns-then-o-span : goal.returns-then-o-span
returns-then-o-span c =
    let w = c.args.image.words.now in
    let b = c.args.b.0 in
    let o = c.args.o.0 in
    not_held b o w (omega (arith, c.block_count.ensures, known c.in_ok-id_refusal.ensures)) (omega (arith, c.operation_count.ensures, known c.in_ok-id_refusal-2.ensures))
    (λ m. omega (arith, mem_range o (block_word w b 4) (block_word w b 5) m, c.operations-span.ensures, c.then-o-span))

pub returns : goal.returns
returns c =
    let w = c.args.image.words.now in
    let b = c.args.b.0 in
    let o = c.args.o.0 in
    let span = c.operations-span.ensures in
    held b o w (omega (arith, c.block_count.ensures, known c.in_ok-id_refusal.ensures)) (omega (arith, c.operation_count.ensures, known c.in_ok-id_refusal-2.ensures))
    (count_mem o (block_word w b 4) (block_word w b 5 - block_word w b 4) (omega (arith, span, c.if-o-span.false)) (omega (arith, span, c.if-o-span.false, c.if-span-o.false)))
