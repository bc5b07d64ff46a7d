-- `put_lengths` meets its contract. The invariant: the first segments have their lengths and their cursors.
use mathlib.Core.Path.{◌≡◌, refl, sym, ap, ◌∙◌}
use native.Mathlib.Omega.{arith}
use lib.ListN.{length, set, length-set}
use Rattle.sir_answers.specs.inner.Scatter.{number_at, origin, toward}
use Rattle.sir_answers.proofs.scatter.Scattering.{placing_none, placing_next, placing_more, origin_is}
use Rattle.sir_answers.proofs.scatter.put_lengths.Goals as goal

pub loop-cursor-init : goal.loop-cursor-init
loop-cursor-init c = let a = c.args in (refl, refl, placing_none (toward a.ends) a.cursors.now a.out.now)

pub put_word-requires : goal.put_word-requires
put_word-requires c =
    omega (arith, (placing_next (length c.args.cursors.now) (omega arith) c.loop-cursor.invariant.2).1)

pub origin-requires : goal.origin-requires
origin-requires c =
    omega (arith, (placing_next (length c.args.cursors.now) (omega arith) c.loop-cursor.invariant.2).1)

pub overflow_add-start-in-loop-cursor : goal.overflow_add-start-in-loop-cursor
overflow_add-start-in-loop-cursor c =
    omega (arith, (placing_next (length c.args.cursors.now) (omega arith) c.loop-cursor.invariant.2).1)

pub loop-cursor-preserved : goal.loop-cursor-preserved
loop-cursor-preserved c =
    let L = c.loop-cursor in
    let f = number_at c.args.cursors.now in
    let n = placing_next (length c.args.cursors.now) (omega arith) L.invariant.2 in
    let o : c.origin.result ≡ origin (toward c.args.ends) f L.cursor-index = c.origin.ensures ∙ rw (n.0, L.invariant.2.start_is) (sym (origin_is c.args.ends f L.cursor-index)) in
    (simp length-set L.invariant.0, omega arith, placing_more L.invariant.2 (omega arith) (omega arith) (ap (set L.cursors L.cursor-index) o) c.put_word.ensures.left)

pub returns : goal.returns
returns c =
    let L = c.loop-cursor in
    let e : L.cursor-index ≡ length L.cursors = omega arith in
    rw e at L.invariant.2.placed
