-- `link_operations` meets its contract. The invariant: the visited operations below o are linked, and their escaping locals added.
use mathlib.Core.Bool.{◌&&◌}
use Prim.Native.Nat.{◌≤◌}
use lib.Dec.{eqb}
use Rattle.plank_core.specs.Lists.{upto, any}
use Rattle.sir_analyses.specs.inner.Tables.{Adds}
use Rattle.sir_analyses.specs.Allocation.{escapes_by}
use Rattle.sir_analyses.specs.inner.Pointers.{is_visited_op, derives_by}
use Rattle.sir_analyses.proofs.pointer_links.link_operations.Given as goal

abbrev pub invariant-loop-o : goal.invariant-loop-o
invariant-loop-o l = (l.o ≤ l.count) × Adds l.initial.links (λ v u. any (λ p. is_visited_op l.image.words.now p && derives_by l.image.words.now p v u) (upto l.o)) l.links × Adds l.initial.causes (λ r v. any (λ p. is_visited_op l.image.words.now p && (eqb r 0 && escapes_by l.image.words.now p v)) (upto l.o)) l.causes
