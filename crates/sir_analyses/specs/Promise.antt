-- What is promised of every accepted image, beyond the outcome of each call.
use Rattle.std.specs.Prelude.{List, ℕ}
use Rattle.sir_analyses.specs.Claims.{OrderRule, LivenessRule, MarkRule, SourceRule}
use Rattle.sir_analyses.specs.Flags.{FlagRule}
use Rattle.sir_analyses.specs.Walk.{Lifetimes}
use Rattle.sir_analyses.specs.Open.{OpenRule, CrossingRule}
use Rattle.sir_analyses.specs.Chart.{ChartRule}

-- what holds of the answers about the payload words of an accepted image
pub record Promise (w : List ℕ) : Type 0 where
  -- the order visits exactly what can be reached, and predecessors are the edges from there
  pub order : OrderRule w
  -- entry and exit sets are the least solution of the Dragon Book's equations, and rounds count the passes to it
  pub liveness : LivenessRule w
  -- an allocation is marked just by the reach rule
  pub marks : MarkRule w
  -- and its flags tell by what: each is set just by its rule, and the mark where some flag is
  pub flags : FlagRule w
  -- the source's own loops come to the same
  pub source : SourceRule w
  -- on whole walks, what is read lies in the answered intervals
  pub lifetimes : Lifetimes w
  -- what is open at an operation, and which two cross where, are told by these intervals
  pub opens : OpenRule w
  pub crossings : CrossingRule w
  -- every line and every mark of the chart is as these intervals and marks say
  pub chart : ChartRule w
