-- `add_condition` meets its contract.
use mathlib.Core.Path.{◌≡◌, sym}
use mathlib.Core.List.{[], ◌∷◌}
use Rattle.sir_data.specs.Records.{condition}
use Rattle.sir_analyses.proofs.Tables.{adds_single}
use Rattle.sir_analyses.proofs.block_sets.BlockSets.{tested_small}
use native.Mathlib.Omega.{arith}
use Rattle.sir_analyses.proofs.block_sets.add_condition.Goals as goal

pub row_add-requires : goal.row_add-requires
row_add-requires c =
    let v = c.in-Some.v.0 in
    let e : condition c.args.b.image.words.now c.args.b.id.0 ≡ v ∷ [] = sym c.in-Some.ensures in
    (omega (arith, c.args.b.image.well_formed.sized.blocks_most), tested_small c.args.b.image.well_formed c.args.b.id.0 v c.args.b.known e)

pub returns-in-Some : goal.returns-in-Some
returns-in-Some c =
    let v = c.in-Some.v.0 in
    let e : condition c.args.b.image.words.now c.args.b.id.0 ≡ v ∷ [] = sym c.in-Some.ensures in
    rw c.row_add.ensures.1 (adds_single c.args.uses.now c.args.b.id.0 v (condition c.args.b.image.words.now c.args.b.id.0) e (tested_small c.args.b.image.well_formed c.args.b.id.0 v c.args.b.known e))
