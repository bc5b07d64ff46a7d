-- `add_escaping` meets its contract. The invariant: of the first k inputs, those that escape are added.
use Prim.Native.Nat.{◌≤◌}
use lib.ListN.{length}
use Rattle.plank_core.specs.Lists.{upto, any}
use Rattle.sir_analyses.specs.inner.Tables.{Adds}
use Rattle.sir_analyses.proofs.pointer_links.PointerLinks.{escaping_at}
use Rattle.sir_analyses.proofs.pointer_links.add_escaping.Given as goal

abbrev pub invariant-loop-k : goal.invariant-loop-k
invariant-loop-k l = (l.k ≤ length l.inputs) × Adds l.initial.causes (λ r v. any (λ j. escaping_at l.code l.inputs j r v) (upto l.k)) l.causes
