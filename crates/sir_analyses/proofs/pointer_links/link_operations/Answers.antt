-- `link_operations` meets its contract. The invariant: the visited operations below o are linked, and their escaping locals added.
use mathlib.Core.Path.{◌≡◌, sym, ap, ◌∙◌}
use mathlib.Core.Bool.{◌&&◌}
use Prim.Native.Nat.{◌+◌, ◌*◌, ◌/◌, ◌%◌, ◌<◌}
use lib.Dec.{eqb}
use Rattle.plank_core.specs.inner.DenseIndexSet.{contains}
use Rattle.sir_analyses.specs.inner.Tables.{Adds}
use Rattle.sir_analyses.specs.Allocation.{escapes_by}
use Rattle.sir_analyses.specs.inner.Pointers.{is_visited_op, derives_by}
use Rattle.sir_analyses.proofs.Tables.{adds_as, adds_none}
use Rattle.sir_analyses.proofs.pointer_links.PointerLinks.{adds_counted}
use native.Mathlib.Omega.{arith}
use Rattle.sir_analyses.proofs.pointer_links.link_operations.Goals as goal
use Rattle.sir_analyses.proofs.pointer_links.link_operations.Goals.{else-row_contains, then-row_contains}

pub loop-o-preserved : goal.loop-o-preserved
loop-o-preserved c =
    let l = c.loop-o in
    let w = c.args.image.words.now in
    let n : 512 * (l.o / 512) + l.o % 512 ≡ l.o = omega arith in
    let h : l.o < 1024 = omega (arith, c.args.image.well_formed.sized.operations_most, c.operation_count-count.ensures) in
    let seen : c.row_contains.result ≡ is_visited_op w l.o = c.row_contains.ensures ∙ ap (contains c.args.seen.now) n ∙ c.requires.seen_len.1 l.o h in
    let a : Adds l.links (λ v u. is_visited_op w l.o && derives_by w l.o v u) c.if-row_contains.links =
    elim c.if-row_contains.branch [ then-row_contains x ↦ rw x.links-is (adds_as (λ v u i. rw (sym seen ∙ x.if-row_contains.true)) x.link_operation.ensures) | else-row_contains x ↦ rw x.links-is (adds_none (λ v u i. rw (sym seen ∙ x.if-row_contains.false))) ] in
    let b : Adds l.causes (λ r v. is_visited_op w l.o && (eqb r 0 && escapes_by w l.o v)) c.if-row_contains.causes =
    elim c.if-row_contains.branch [ then-row_contains x ↦ rw x.causes-is (adds_as (λ r v i. rw (sym seen ∙ x.if-row_contains.true)) x.add_escaping.ensures) | else-row_contains x ↦ rw x.causes-is (adds_none (λ r v i. rw (sym seen ∙ x.if-row_contains.false))) ] in
    (omega arith, adds_counted (λ p v u. is_visited_op w p && derives_by w p v u) l.o l.invariant.1 a, adds_counted (λ p r v. is_visited_op w p && (eqb r 0 && escapes_by w p v)) l.o l.invariant.2 b)
