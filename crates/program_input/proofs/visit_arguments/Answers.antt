-- Each argument that is counted adds its visit.
use Rattle.std.proofs.Common.{arith, ◌≡◌, Bool, true, false, not, Option, None, Some, IfSome, Ok, ◌∷◌}
use Rattle.std.specs.Option.{option_eq}
use mathlib.Core.Bool.{beq}
use Rattle.program_input.specs.Given.{Visit}
use Rattle.program_input.proofs.visit_arguments.Goals as goal

if_true : (P : Bool → Type 0) (found : Option Bool) → false ≡ not (option_eq beq found (Some true)) → IfSome found P → P true
if_true P (Some true) e p = p
if_true P (Some false) e p = cc
if_true P None e p = cc

pub loop-i-preserved : goal.loop-i-preserved
loop-i-preserved g c =
    let visit = if_true (λ t. Visit (goal.V-post g c.args.visit) (Ok t)) c.in_ok-visit_argument.field-0 c.if-ne.ensures c.in_ok-visit_argument.ensures in
    (visit ∷ c.loop-i.invariant.0, omega (arith, c.loop-i.invariant.1))
