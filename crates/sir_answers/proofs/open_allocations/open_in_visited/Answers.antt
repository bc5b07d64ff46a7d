-- `open_in_visited` meets its contract.
use mathlib.Core.Path.{ap, ◌∙◌}
use mathlib.Core.List.{List}
use Prim.Native.Nat.{ℕ}
use Rattle.plank_core.specs.Lists.{bind}
use Rattle.sir_data.specs.Pages.{bytes_of}
use Rattle.sir_analyses.specs.Calls.{answered}
use Rattle.sir_analyses.proofs.claims.order.OrderProof.{blocks_seen}
use Rattle.sir_answers.proofs.open_allocations.OpenOwners.{open_listed}
use Rattle.sir_answers.proofs.open_allocations.open_in_visited.Goals as goal

pub returns : goal.returns
returns c =
    let pointers = c.requires.pointer_stage in
    let place = c.requires.b_bound in
    let w = c.args.sets.image.words.now in
    let listed = open_listed pointers.well_formed ((blocks_seen w c.args.b.0).1 place.2) place.1 c.scan_to.ensures pointers c.owners_of-n.ensures.1 in
    c.words_answer.ensures ∙ ap (λ (l : List ℕ). answered (bind l bytes_of) c.args.out.now) listed
