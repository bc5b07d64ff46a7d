-- `blocks_rpo` meets its contract.
use native.Mathlib.Omega.{arith}
use Rattle.std.proofs.Common.{rules, of_calls}
use Rattle.sir_analyses.specs.inner.Visiting.{blocks_of, blocks_in}
use Rattle.sir_analyses.proofs.reverse_post_order.blocks_rpo.Goals as goal

pub each_function-requires : goal.each_function-requires
unfolding blocks_in
each_function-requires c =
    ((λ f. blocks_of f c.args.postorder.now), record { may = λ to f at a b r. search (rules, of_calls, arith); writes = λ to f at r to2 a b l e. search (rules, of_calls) }, c.requires)

pub returns : goal.returns
unfolding blocks_in
returns c = c.each_function.ensures (λ f. blocks_of f c.args.postorder.now) (record { may = λ to f at a b r. search (rules, of_calls, arith); writes = λ to f at r to2 a b l e. search (rules, of_calls) }) c.requires
