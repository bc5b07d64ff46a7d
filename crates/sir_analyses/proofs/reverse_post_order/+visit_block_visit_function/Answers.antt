-- `visit_function` and `visit_block` meet their contracts: each step of the source's visit, whatever visit the arrays showed.
use Rattle.std.proofs.Common.{◌≡◌, ℕ, ◌+◌, ◌<◌, ◌≤◌, Bool, true, false, not, List, length, drop, sym, ◌∙◌, arith}
use native.Mathlib.Nat.{le_refl, zero-add}
use borrow.Author.Tests.{not-true, not-false}
use lib.ListN.{drop_of_length-le}
use Rattle.plank_core.specs.Lists.{range, foldl, bind}
use Rattle.plank_core.specs.inner.DenseIndexSet.{contains, added}
use Rattle.sir_data.specs.Records.{functions, blocks, callees, successors}
use Rattle.sir_data.specs.inner.WellFormed.{WellFormed}
use Rattle.sir_analyses.specs.Order.{see_function, see_block, visit_function, visit_block}
use Rattle.sir_analyses.specs.inner.Visiting.{Held, VisitStep}
use Rattle.sir_analyses.proofs.reverse_post_order.Visiting.{Entered, enter_function, enter_block, skip_function, skip_block, then, Going, going_none, going_as, going_more, going_all, fits, done_function, done_block, calls_end, calls_skip, calls_call, callee_below, successor_next, successor_below}
use Rattle.sir_analyses.proofs.reverse_post_order.+visit_block_visit_function.Invariants.{fuel}
use Rattle.sir_analyses.proofs.reverse_post_order.+visit_block_visit_function.Goals as goal
use Rattle.sir_analyses.proofs.reverse_post_order.+visit_block_visit_function.Goals.{visit_block-in-Some, visit_block-in_default}

-- what `row_add` answers: whether the item was not seen
was_new : {fresh : Bool} (seen : Bool) → fresh ≡ not seen → fresh ≡ true → seen ≡ false
was_new seen e t = not-true _ (sym e ∙ t)

was_seen : {fresh : Bool} (seen : Bool) → fresh ≡ not seen → fresh ≡ false → seen ≡ true
was_seen seen e t = not-false _ (sym e ∙ t)

-- what is not seen yet is entered
module _ {w : List ℕ} (ok : WellFormed w) {seen postorder : List ℕ} {n : ℕ} (held : Held w seen postorder n) {fresh : Bool} {seen₁ : List ℕ} where
  function_entered : (f : ℕ) → f < functions w → (fresh ≡ not (contains seen (0 + f))) × (seen₁ ≡ added seen (0 + f)) → fresh ≡ true → Entered w (λ v. see_function v f) seen postorder n seen₁
  function_entered f l a t = let b = rw zero-add at a in enter_function ok held f l b.1 (was_new _ b.0 t)

  block_entered : (b : ℕ) → b < blocks w → (fresh ≡ not (contains seen (512 + b))) × (seen₁ ≡ added seen (512 + b)) → fresh ≡ true → Entered w (λ v. see_block v b) seen postorder n seen₁
  block_entered b l a t = enter_block ok held b l a.1 (was_new _ a.0 t)

-- both loops of a block are over: all that it leads to is visited
kids : (w : List ℕ) (f b o last i : ℕ) {full seen₀ postorder₀ : List ℕ} {m₀ : ℕ} {seen postorder : List ℕ} {m : ℕ} {seen₁ postorder₁ : List ℕ} {m₁ : ℕ}
    → last ≤ o → length (successors w b) ≤ i
    → Going w (visit_function (fuel w) w) full seen₀ postorder₀ m₀ (bind (range o last) (callees w)) seen postorder m
    → Going w (visit_block (fuel w) w f) (successors w b) seen postorder m (drop i (successors w b)) seen₁ postorder₁ m₁
    → VisitStep w (λ v. foldl (λ u s. visit_block (fuel w) w f s u) (foldl (λ u g. visit_function (fuel w) w g u) v full) (successors w b)) seen₀ postorder₀ m₀ seen₁ postorder₁ m₁
kids w f b o last i h l calls rest = then (going_all (calls_end w o last h) calls) (going_all (drop_of_length-le (successors w b) {i = i} l) rest)

-- ---- `visit_block`

pub visit_block-returns-then-not-row_add : goal.visit_block-returns-then-not-row_add
visit_block-returns-then-not-row_add t c =
    skip_block c.args.image.well_formed c.requires.held c.args.f.0 c.args.b.0 c.requires.b_bound c.row_add.ensures.1 (was_seen _ c.row_add.ensures.0 c.if-not-row_add.true)

pub visit_block-calls-init : goal.visit_block-calls-init
visit_block-calls-init t c =
    (le_refl _, going_none (block_entered c.args.image.well_formed c.requires.held c.args.b.0 c.requires.b_bound c.row_add.ensures c.if-not-row_add.false).held)

pub visit_block-visit_function-m-requires : goal.visit_block-visit_function-m-requires
visit_block-visit_function-m-requires t c =
    let ok = c.args.image.well_formed in
    let calls = c.calls.invariant.1 in
    let entered = block_entered ok c.requires.held c.args.b.0 c.requires.b_bound c.row_add.ensures c.if-not-row_add.false in
    let operations_below = ok.in_range.ops_range c.args.b.0 c.requires.b_bound in
    let below = callee_below ok c.calls.o _ (omega (arith, operations_below, c.operations-span.ensures, c.calls-test.true)) c.in-Some.ensures in
    (omega (arith, entered.fewer, c.decreases, calls.down), (below, calls.held))

pub visit_block-calls-preserved : goal.visit_block-calls-preserved
visit_block-calls-preserved t c =
    let w = c.args.image.words.now in
    let o = c.calls.o in
    let last = c.operations-span.result.end in
    let turn = c.calls-test.true in (
      omega (arith, c.calls.invariant.0),
      elim c.match-callee.branch [
        | visit_block-in-Some x ↦ rw (x.seen-is, x.postorder-is, x.m-is) (going_more (going_as (calls_call w o last turn _ x.in-Some.ensures) c.calls.invariant.1) x.visit_function-m.ensures)
        | visit_block-in_default x ↦ rw (x.seen-is, x.postorder-is, x.m-is) (going_as (calls_skip w o last turn x.in_default.ensures) c.calls.invariant.1)
      ],
    )

pub visit_block-visit_block-m-requires : goal.visit_block-visit_block-m-requires
visit_block-visit_block-m-requires t c =
    let ok = c.args.image.well_formed in
    let L = c.successors in
    let entered = block_entered ok c.requires.held c.args.b.0 c.requires.b_bound c.row_add.ensures c.if-not-row_add.false in
    let below = successor_below ok c.args.b.0 L.i c.requires.b_bound (omega (arith, c.successor_count-count.ensures, c.successors-test.true)) in (
      omega (arith, entered.fewer, c.decreases, L.invariant.down, c.calls.invariant.1.down),
      (c.requires.f_bound, (omega (arith, c.successor.ensures, below), L.invariant.held)),
    )

pub visit_block-successors-preserved : goal.visit_block-successors-preserved
visit_block-successors-preserved t c =
    let w = c.args.image.words.now in
    let b = c.args.b.0 in
    let L = c.successors in
    let l : L.i < length (successors w b) = omega (arith, c.successor_count-count.ensures, c.successors-test.true) in
    going_more (going_as (successor_next w b L.i l) L.invariant) (rw c.successor.ensures at c.visit_block-m.ensures)

pub visit_block-push-requires : goal.visit_block-push-requires
visit_block-push-requires t c =
    let w = c.args.image.words.now in
    let ok = c.args.image.well_formed in
    let L = c.successors in
    let entered = block_entered ok c.requires.held c.args.b.0 c.requires.b_bound c.row_add.ensures c.if-not-row_add.false in
    let e : length (successors w c.args.b.0) ≤ L.i = omega (arith, c.successor_count-count.ensures, c.successors-test.false) in
    let led = kids w c.args.f.0 c.args.b.0 c.calls.o _ L.i c.calls-test.false e c.calls.invariant.1 L.invariant in
    omega (arith, fits ok entered led, L.invariant.held.long)

pub visit_block-returns : goal.visit_block-returns
visit_block-returns t c =
    let w = c.args.image.words.now in
    let f = c.args.f.0 in
    let b = c.args.b.0 in
    let ok = c.args.image.well_formed in
    let L = c.successors in
    let span = c.operations-span.ensures in
    let entered = block_entered ok c.requires.held b c.requires.b_bound c.row_add.ensures c.if-not-row_add.false in
    let e : length (successors w b) ≤ L.i = omega (arith, c.successor_count-count.ensures, c.successors-test.false) in
    let led = kids w f b c.calls.o _ L.i c.calls-test.false e c.calls.invariant.1 L.invariant in
    done_block ok f b c.requires.b_bound (was_new _ c.row_add.ensures.0 c.if-not-row_add.false) entered
    (rw (span.0, span.1) at led) c.push.ensures.0 (omega (arith, c.push.auto.postorder, L.invariant.held.long)) c.push.ensures.1

-- ---- `visit_function`

pub visit_function-returns-then-not-row_add : goal.visit_function-returns-then-not-row_add
visit_function-returns-then-not-row_add t c =
    let a = rw zero-add at c.row_add.ensures in
    skip_function c.args.image.well_formed c.requires.held c.args.f.0 c.requires.f_bound a.1 (was_seen _ a.0 c.if-not-row_add.true)

pub visit_function-visit_block-m-requires : goal.visit_function-visit_block-m-requires
visit_function-visit_block-m-requires t c =
    let ok = c.args.image.well_formed in
    let entered = function_entered ok c.requires.held c.args.f.0 c.requires.f_bound c.row_add.ensures c.if-not-row_add.false in
    let below = ok.in_range.entry c.args.f.0 c.requires.f_bound in
    (omega (arith, entered.fewer, c.decreases), (c.requires.f_bound, (omega (arith, c.entry_block.ensures, below), entered.held)))

pub visit_function-push-requires : goal.visit_function-push-requires
visit_function-push-requires t c =
    let entered = function_entered c.args.image.well_formed c.requires.held c.args.f.0 c.requires.f_bound c.row_add.ensures c.if-not-row_add.false in
    let led = c.visit_block-m.ensures in
    omega (arith, fits c.args.image.well_formed entered led, led.held.long)

pub visit_function-returns : goal.visit_function-returns
visit_function-returns t c =
    let ok = c.args.image.well_formed in
    let f = c.args.f.0 in
    let a = rw zero-add at c.row_add.ensures in
    let entered = function_entered ok c.requires.held f c.requires.f_bound c.row_add.ensures c.if-not-row_add.false in
    let led = c.visit_block-m.ensures in
    done_function ok f c.requires.f_bound (was_new _ a.0 c.if-not-row_add.false) entered
    (rw c.entry_block.ensures at led) c.push.ensures.0 (omega (arith, c.push.auto.postorder, led.held.long)) c.push.ensures.1
