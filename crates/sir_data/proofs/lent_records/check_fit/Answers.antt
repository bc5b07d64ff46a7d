-- `check_fit` meets its contract: the length decides, then the head, then the number of words.
use Rattle.std.proofs.Common.{◌≡◌, ℕ, ◌/◌, ◌%◌, ◌≤◌, cond, List, length, sym, ap, ◌∙◌, arith, eq-eqb, ne_eqb, rules}
use Rattle.sir_data.specs.Refusals.{refused, number}
use Rattle.sir_data.specs.Records.{word_count}
use Rattle.sir_data.specs.Rules.{first, head_rules}
use Rattle.sir_data.specs.Paging.{words_of, padded, unfit}
use Rattle.sir_data.specs.inner.LentRecords.{fit_rules}
use Rattle.sir_data.specs.laws.Refusals.{not_0}
use Rattle.sir_data.specs.laws.Bytes.{length_words}
use Rattle.sir_data.proofs.lent_records.LentWords.{head_rules_lem, head_count, by_head, by_count}
use Rattle.sir_data.proofs.lent_records.check_fit.Goals as goal

pub returns-in_err-check_head : goal.returns-in_err-check_head
returns-in_err-check_head c =
    let lent = c.args.records.now in
    let some : 36 ≤ length lent = omega (arith, c.if-records-lt36.false) in
    let r = c.in_err-check_head in
    let e : refused c.from_residual.result ≡ number r.field-0.0 = search rules in
    let head = r.ensures ∙ ap first (head_rules_lem lent some c.copy_words.ensures) in
    e ∙ head ∙ sym (by_head lent some c.if-records-ne0.false (λ z. not_0 r.field-0.0 (head ∙ z)))

-- the head broke no rule: the number of words decides
decided : (lent : List ℕ) (some : 36 ≤ length lent) (whole : length lent % 4 ≡ 0) → first (head_rules (padded (words_of lent))) ≡ 0 → (n : ℕ) → word_count (words_of lent) ≡ n
    → (first (fit_rules lent) ≡ cond (unfit (words_of lent)) 6 0) × (length (words_of lent) ≡ length lent / 4)
decided lent some whole head n is = (by_count lent some whole head, length_words lent)

pub returns-then-records-word_count : goal.returns-then-records-word_count
returns-then-records-word_count c =
    let lent = c.args.records.now in
    let some : 36 ≤ length lent = omega (arith, c.if-records-lt36.false) in
    let head = c.in_ok-check_head.ensures ∙ ap first (head_rules_lem lent some c.copy_words.ensures) in
    let is = sym (c.word_count.ensures ∙ head_count lent some c.copy_words.ensures) in
    let k = decided lent some c.if-records-ne0.false (sym head) _ is in
    let n : ℕ = length lent / 4 in
    sym (k.0 ∙ rw (k.1, is, ne_eqb n c.word_count.result (λ e. omega (arith, e, c.if-records-word_count.true))))

pub returns : goal.returns
returns c =
    let lent = c.args.records.now in
    let some : 36 ≤ length lent = omega (arith, c.if-records-lt36.false) in
    let head = c.in_ok-check_head.ensures ∙ ap first (head_rules_lem lent some c.copy_words.ensures) in
    let is = sym (c.word_count.ensures ∙ head_count lent some c.copy_words.ensures) in
    let k = decided lent some c.if-records-ne0.false (sym head) _ is in
    sym (k.0 ∙ rw (k.1, is, eq-eqb _ _ c.if-records-word_count.false))
