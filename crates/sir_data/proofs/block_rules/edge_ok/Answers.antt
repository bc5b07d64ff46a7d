-- `edge_ok` meets its contract: the successor is a block, and both runs are those of the definition.
use Rattle.std.proofs.Common.{ℕ, ◌<◌, sym, subst}
use Rattle.plank_core.specs.laws.Lists.{get_or_mem}
use Rattle.sir_data.specs.Records.{blocks, successors}
use Rattle.sir_data.proofs.block_rules.edge_ok.Goals as goal

pub invariant_of-to : goal.invariant_of-to
invariant_of-to c =
    let w = c.args.ranged.records.words.now in
    let b = c.args.b.0 in
    let i = c.args.i in
    let p = c.requires in
    record { known = subst (λ (x : ℕ). x < blocks w) (sym c.successor.ensures) (c.args.ranged.in_range.successor b _ p.b_bound (get_or_mem (successors w b) i 0 p.i_in_bounds)) }
