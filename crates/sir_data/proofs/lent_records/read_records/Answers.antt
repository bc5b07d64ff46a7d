-- `read_records` meets its contract: the number of words and the head decide, then the other rules of the words that were copied.
use Rattle.std.proofs.Common.{◌≡◌, ℕ, ◌*◌, ◌/◌, ◌≤◌, List, ◌++◌, length, take, drop, replicate, sym, ap, ◌∙◌, subst, arith, rules, length-take-le}
use Rattle.sir_data.specs.Refusals.{refused, number}
use Rattle.sir_data.specs.laws.Refusals.{not_0}
use lib.ListN.{length-replicate}
use Rattle.sir_data.specs.Rules.{first, field_rules, operand_rules}
use Rattle.sir_data.specs.Paging.{words_of}
use Rattle.sir_data.specs.Pages.{pages_for}
use Rattle.sir_data.specs.inner.WellFormed.{Sized}
use Rattle.sir_data.specs.inner.LentRecords.{fit_rules}
use Rattle.sir_data.proofs.lent_records.LentWords.{refused_early, words_few, front_fits, front_sized, read}
use Rattle.sir_data.proofs.lent_records.read_records.Goals as goal

pub returns-in_err-check_fit-clause-lent : goal.returns-in_err-check_fit-clause-lent
returns-in_err-check_fit-clause-lent c =
    let r = c.in_err-check_fit in
    let e : refused c.from_residual.result ≡ number r.field-0.0 = search rules in
    rw e (refused_early c.args.records.now (not_0 r.field-0.0) r.ensures)

pub copy_words-requires : goal.copy_words-requires
copy_words-requires c =
    omega (arith, words_few c.args.records.now (sym c.in_ok-check_fit.ensures), ap length c.requires, length-replicate {A = ℕ} 14742 0)

-- what stands in the slice after the copy
copied : (lent old new : List ℕ) → old ≡ replicate 14742 0 → new ≡ words_of lent ++ drop (length lent / 4) old → new ≡ words_of lent ++ drop (length lent / 4) (replicate 14742 0)
copied lent old new zeros e = e ∙ ap (λ (xs : List ℕ). words_of lent ++ drop (length lent / 4) xs) zeros

pub pages_for-n-requires : goal.pages_for-n-requires
pages_for-n-requires c = omega (arith, words_few c.args.records.now (sym c.in_ok-check_fit.ensures))

-- the copied words and their padding are within the slice
within : (lent old new : List ℕ) (n : ℕ) → first (fit_rules lent) ≡ 0 → old ≡ replicate 14742 0 → new ≡ words_of lent ++ drop (length lent / 4) old → n ≡ pages_for (length lent / 4) → 126 * n ≤ length new
within lent old new n fit zeros e is = omega (arith, is, front_fits lent fit (copied lent old new zeros e))

pub slice_bounds-check_sized-end : goal.slice_bounds-check_sized-end
slice_bounds-check_sized-end c = within c.args.records.now _ _ _ (sym c.in_ok-check_fit.ensures) c.requires c.copy_words.ensures c.pages_for-n.ensures

pub slice_bounds-check_sized-end-2 : goal.slice_bounds-check_sized-end-2
slice_bounds-check_sized-end-2 c =
    sym (length-take-le _ _ (within c.args.records.now _ _ _ (sym c.in_ok-check_fit.ensures) c.requires c.copy_words.ensures c.pages_for-n.ensures))

pub invariant_of-check_sized : goal.invariant_of-check_sized
invariant_of-check_sized c =
    let fit = sym c.in_ok-check_fit.ensures in
    record { sized = subst (λ (k : ℕ). Sized (take (126 * k) c.copy_words.new.words)) (sym c.pages_for-n.ensures) (front_sized c.args.records.now fit (copied c.args.records.now _ _ c.requires c.copy_words.ensures)) }

pub returns-in_err-check_sized-clause-lent : goal.returns-in_err-check_sized-clause-lent
returns-in_err-check_sized-clause-lent c =
    let new = c.copy_words.new.words in
    let r = c.in_err-check_sized in
    let e : refused c.from_residual-in_err-check_sized.result ≡ number r.field-0.0 = search rules in
    rw e (read c.args.records.now (sym c.in_ok-check_fit.ensures) (copied c.args.records.now _ _ c.requires c.copy_words.ensures)
    (r.ensures ∙ ap (λ (k : ℕ). first (field_rules (take (126 * k) new) ++ operand_rules (take (126 * k) new))) c.pages_for-n.ensures))

pub returns-clause-lent : goal.returns-clause-lent
returns-clause-lent c =
    let new = c.copy_words.new.words in
    read c.args.records.now (sym c.in_ok-check_fit.ensures) (copied c.args.records.now _ _ c.requires c.copy_words.ensures)
    (c.in_ok-check_sized.ensures ∙ ap (λ (k : ℕ). first (field_rules (take (126 * k) new) ++ operand_rules (take (126 * k) new))) c.pages_for-n.ensures)
