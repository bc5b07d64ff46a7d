-- `base_ptr` meets its contract.
use mathlib.Core.Path.{◌≡◌, ap}
use mathlib.Core.List.{List}
use Prim.Native.Nat.{ℕ, ◌<◌}
use native.Mathlib.Omega.{arith}
use lib.ListN.{get_or}
use Rattle.plank_core.specs.laws.Lists.{get_or_mem}
use Rattle.sir_data.specs.Records.{locals, outs}
use Rattle.sir_analyses.proofs.Accepted.{one_out}
use Rattle.sir_analyses.proofs.allocation_liveness.base_ptr.Goals as goal

pub returns : goal.returns
returns c = let w = c.args.image.words.now in
    let o = c.args.o.0 in
    let g : get_or c.op_outputs-outputs.result.now 0 0 ≡ get_or (outs w o) 0 0 = ap (λ (l : List ℕ). get_or l 0 0) c.op_outputs-outputs.ensures in
    let l : get_or (outs w o) 0 0 < locals w = c.args.image.well_formed.in_range.written o (get_or (outs w o) 0 0) c.requires.o_bound.0 (get_or_mem (outs w o) 0 0 (omega (arith, one_out w c.args.image.well_formed c.requires.o_bound.0 c.requires.o_bound.1))) in
    (g, omega arith)
