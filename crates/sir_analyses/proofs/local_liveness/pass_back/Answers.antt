-- `pass_back` meets its contract. The invariant: the blocks from place k of the order on are done.
use mathlib.Core.Path.{◌≡◌, refl, subst, ◌∙◌}
use mathlib.Core.List.{List}
use Prim.Native.Nat.{ℕ, ◌-◌}
use lib.ListN.{get_or}
use Rattle.plank_core.specs.Lists.{◌∈◌}
use Rattle.plank_core.specs.laws.Lists.{get_or_mem}
use Rattle.sir_analyses.specs.Order.{blocks_rpo}
use Rattle.sir_analyses.proofs.claims.order.OrderProof.{blocks_below}
use Rattle.sir_analyses.proofs.local_liveness.Passes.{from_none, from_next, from_all}
use Rattle.sir_analyses.proofs.local_liveness.LivenessTables.{passing_on, pass_none, pass_as, pass_then}
use native.Mathlib.Omega.{arith}
use Rattle.sir_analyses.proofs.local_liveness.pass_back.Goals as goal

pub loop-k-init : goal.loop-k-init
loop-k-init c =
    (omega arith, pass_as (pass_none c.requires.passing) (from_none c.args.visited.image.words.now c.rpo-order.result.now))

pub invariant_of-block : goal.invariant_of-block
invariant_of-block c =
    let l = c.loop-k in
    let order = c.rpo-order.result.now in
    let is : order ≡ blocks_rpo c.args.visited.image.words.now = c.rpo-order.ensures ∙ c.args.visited.visit_stage.rpo_is in
    let b : ℕ = get_or order (l.k - 1) 0 in
    let m : b ∈ order = get_or_mem order (l.k - 1) 0 (omega arith) in
    let good = c.args.visited.visit_stage.well_formed in
    record { known = blocks_below c.args.visited.image.words.now good b (subst (λ (bs : List ℕ). b ∈ bs) is m) }

pub propagate_liveness_to_predecessors-grew-requires : goal.propagate_liveness_to_predecessors-grew-requires
propagate_liveness_to_predecessors-grew-requires c =
    let l = c.loop-k in
    let order = c.rpo-order.result.now in
    let is : order ≡ blocks_rpo c.args.visited.image.words.now = c.rpo-order.ensures ∙ c.args.visited.visit_stage.rpo_is in
    let b : ℕ = get_or order (l.k - 1) 0 in
    let m : b ∈ order = get_or_mem order (l.k - 1) 0 (omega arith) in
    let good = c.args.visited.visit_stage.well_formed in
    record { passing = passing_on c.requires.passing l.invariant.1 }

pub loop-k-preserved : goal.loop-k-preserved
loop-k-preserved c =
    let l = c.loop-k in
    (omega arith, pass_as (pass_then l.invariant.1 c.propagate_liveness_to_predecessors-grew.ensures refl) (from_next c.args.visited.image.words.now c.rpo-order.result.now l.k (omega (arith, l.invariant.0, c.loop-k-test.true)) (omega (arith, l.invariant.0, c.loop-k-test.true))))

pub returns : goal.returns
returns c =
    let l = c.loop-k in
    pass_as l.invariant.1 (from_all c.args.visited.image.words.now c.rpo-order.result.now l.k (omega arith) (c.rpo-order.ensures ∙ c.args.visited.visit_stage.rpo_is))
