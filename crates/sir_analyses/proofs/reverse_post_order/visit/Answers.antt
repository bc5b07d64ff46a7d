-- `visit` meets its contract.
use native.Mathlib.Omega.{arith}
use Rattle.sir_data.specs.Records.{main_plus_one}
use Rattle.sir_data.specs.laws.Records.{optional_none, optional_one}
use Rattle.sir_analyses.proofs.reverse_post_order.Visiting.{held_start, visited_one, visited_two}
use Rattle.sir_analyses.proofs.reverse_post_order.visit.Goals as goal

pub visit_function-n-requires : goal.visit_function-n-requires
visit_function-n-requires c =
    record { f_bound = omega (arith, c.init_function.ensures, c.args.image.well_formed.in_range.init); held = held_start c.args.image.words.now c.requires.seen_value.0 c.requires.seen_value.1 }

pub visit_function-requires : goal.visit_function-requires
visit_function-requires c =
    let n = optional_one (main_plus_one c.args.image.words.now) c.in-Some.main.0 c.in-Some.ensures in
    record { f_bound = c.args.image.well_formed.in_range.main _ n; held = c.visit_function-n.ensures.held }

pub returns-in-Some : goal.returns-in-Some
returns-in-Some c =
    visited_two c.requires.seen_value.0 (rw c.init_function.ensures at c.visit_function-n.ensures) (optional_one (main_plus_one c.args.image.words.now) c.in-Some.main.0 c.in-Some.ensures) c.visit_function.ensures

pub returns-in-None : goal.returns-in-None
returns-in-None c =
    visited_one c.requires.seen_value.0 (rw c.init_function.ensures at c.visit_function-n.ensures) (optional_none (main_plus_one c.args.image.words.now) c.in-None.ensures)
