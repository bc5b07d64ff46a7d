-- Every claim, for the payload words of every accepted image.
use mathlib.Core.Path.{◌≡◌, refl}
use mathlib.Core.Bool.{Bool, true, false}
use Prim.Native.Nat.{ℕ, ◌<◌}
use native.Mathlib.Omega.{arith}
use mathlib.Core.List.{List, [], ◌∷◌, ◌++◌}
use Rattle.sir_data.specs.Pages.{payload}
use Rattle.sir_data.specs.Rules.{first, page_rules, record_rules}
use Rattle.sir_data.specs.inner.WellFormed.{WellFormed}
use Rattle.sir_data.specs.laws.Rules.{first_left, first_right}
use Rattle.sir_data.specs.laws.WellFormed.{well_formed}
use Rattle.sir_analyses.specs.Allocation.{rule12}
use Rattle.sir_analyses.specs.Calls.{refusal}
use Rattle.sir_analyses.specs.Claims.{OrderRule, LivenessRule, MarkRule, SourceRule}
use Rattle.sir_analyses.specs.Flags.{FlagRule}
use Rattle.sir_analyses.specs.Walk.{Lifetimes}
use Rattle.sir_analyses.specs.Open.{OpenRule, CrossingRule}
use Rattle.sir_analyses.specs.Chart.{ChartRule}
use Rattle.sir_analyses.specs.Promise.{Promise}
use Rattle.sir_analyses.proofs.claims.order.OrderProof.{order_rule}
use Rattle.sir_analyses.proofs.claims.liveness.LivenessProof.{liveness_rule}
use Rattle.sir_analyses.proofs.claims.marks.Marks.{mark_rule}
use Rattle.sir_analyses.proofs.claims.flags.Flags.{flag_rule}
use Rattle.sir_analyses.proofs.claims.lifetimes.Lifetime.{lifetimes}
use Rattle.sir_analyses.proofs.claims.lifetimes.OpenProof.{open_rule, crossing_rule}
use Rattle.sir_analyses.proofs.claims.chart.ChartProof.{chart_rule}
use Rattle.sir_analyses.proofs.claims.source.SourceProof.{source_rule}

alone : (k : ℕ) (t : Bool) → 0 < k → first ((k, t) ∷ []) ≡ 0 → t ≡ false
alone k true l h = absurd (omega arith)
alone k false l h = refl

module _ (image : List ℕ) (accepted : refusal image ≡ 0) where
  records : first (record_rules (payload image) ++ ((12, rule12 (payload image)) ∷ [])) ≡ 0
  records = first_right (page_rules image) (record_rules (payload image) ++ ((12, rule12 (payload image)) ∷ [])) refl accepted

  pub good : WellFormed (payload image)
  good = well_formed (payload image) (first_left (record_rules (payload image)) ((12, rule12 (payload image)) ∷ []) records)

  pub bases_distinct : rule12 (payload image) ≡ false
  bases_distinct = alone 12 (rule12 (payload image)) (omega arith) (first_right (record_rules (payload image)) ((12, rule12 (payload image)) ∷ []) refl records)

  pub order : OrderRule (payload image)
  order = order_rule (payload image) good

  pub liveness : LivenessRule (payload image)
  liveness = liveness_rule (payload image) good

  pub marks : MarkRule (payload image)
  marks = mark_rule (payload image) good

  pub flags : FlagRule (payload image)
  flags = flag_rule (payload image) good bases_distinct

  pub walks : Lifetimes (payload image)
  walks = lifetimes (payload image) good

  pub source : SourceRule (payload image)
  source = source_rule (payload image) good bases_distinct

  pub opens : OpenRule (payload image)
  opens = open_rule (payload image) good

  pub crossings : CrossingRule (payload image)
  crossings = crossing_rule (payload image)

  pub chart : ChartRule (payload image)
  chart = chart_rule (payload image) good bases_distinct

  pub promise : Promise (payload image)
  promise = record { order = order; liveness = liveness; marks = marks; flags = flags; source = source; lifetimes = walks; opens = opens; crossings = crossings; chart = chart }
