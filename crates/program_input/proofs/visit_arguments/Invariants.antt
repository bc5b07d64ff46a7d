-- What `visit_arguments` has counted when it comes to argument i.
use Rattle.std.proofs.Common.{◌≡◌, true, Ok, ◌+◌, List, length}
use Rattle.program_input.specs.Given.{Visit}
use Rattle.program_input.proofs.visit_arguments.Given as goal

abbrev pub invariant-loop-i : goal.invariant-loop-i
invariant-loop-i g l = (visits : List (Visit (goal.V-post g l.visit) (Ok true))) × (length visits + 1 ≡ l.i)
