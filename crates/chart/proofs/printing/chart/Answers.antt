-- `chart` meets its contract.
use Rattle.std.proofs.Common.{rules, arith, ◌≡◌, ◌≢◌, ℕ, zero, suc, refl}
use Rattle.sir_data.specs.Refusals.{refused}
use Rattle.sir_analyses.specs.Calls.{refusal}
use Rattle.chart.proofs.printing.chart.Goals as goal

either : (n r : ℕ) → (n ≢ 0 → r ≡ n) → (n ≡ 0 → r ≡ 0) → r ≡ n
either zero r unloaded loaded = loaded refl
either (suc n) r unloaded loaded = unloaded (λ e. omega (arith, e))

pub returns : goal.returns
returns g c =
    either (refusal c.args.image.now) (refused c.print_loaded.result.accepted) c.print_loaded.ensures.unloaded
    (λ z. let k = c.print_loaded.ensures.loaded z in search rules)
