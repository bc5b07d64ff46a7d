-- `report` meets its contract.
use Rattle.std.proofs.Common.{rules, arith, ◌≡◌, ◌≢◌, ℕ, zero, suc, refl, cond, ap, ◌∙◌}
use lib.Dec.{eqb}
use borrow.Author.Tests.{ne_eqb}
use Rattle.sir_data.specs.Pages.{payload}
use Rattle.sir_data.specs.Refusals.{refused}
use Rattle.sir_analyses.specs.Calls.{refusal}
use Rattle.report_lines.specs.Counting.{reported, some_too_long}
use Rattle.report_lines.proofs.printing.report.Goals as goal

-- what is refused with n, or gives p
either : (n p r : ℕ) → (n ≢ 0 → r ≡ n) → (n ≡ 0 → r ≡ p) → r ≡ cond (eqb n 0) p n
either zero p r unloaded loaded = loaded refl
either (suc n) p r unloaded loaded = let some : suc n ≢ 0 = λ e. omega (arith, e) in rw (ne_eqb (suc n) 0 some) (unloaded some)

pub returns : goal.returns
unfolding reported
returns g c =
    let s = c.args.image.now in
    either (refusal s) (cond (some_too_long (payload s)) 14 0) (refused c.print_loaded.result.accepted) c.print_loaded.ensures.unloaded
    (λ z.
    let k = c.print_loaded.ensures.loaded z in
    let ends : refused c.print_loaded.result.accepted ≡ cond (some_too_long k.0.image.words.now) 14 0 = search rules in
    ends ∙ ap (λ w. cond (some_too_long w) 14 0) k.1)
