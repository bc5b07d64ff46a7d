-- `each_function` meets its contract. The invariant: whatever list the calls write of a function, the keys before i are still to be read.
use mathlib.Core.List.{List, reverse}
use Prim.Native.Nat.{ℕ, ◌≤◌}
use lib.ListN.{length, take}
use Rattle.plank_core.specs.Lists.{bind}
use Rattle.sir_analyses.specs.inner.Visiting.{function_of, EachListed}
use Rattle.sir_analyses.proofs.Listing.{Listing}
use Rattle.sir_analyses.proofs.reverse_post_order.each_function.Given as goal

abbrev pub invariant-loop-i : goal.invariant-loop-i
invariant-loop-i g l =
    (h : ℕ → List ℕ) → EachListed (goal.F-pre g l.put) (goal.F-post g l.put) h (length l.initial.out) → length (bind (reverse l.postorder) (function_of h)) ≤ length l.initial.out
    → Listing (bind (reverse l.postorder) (function_of h)) 0 l.initial.out (bind (reverse (take l.i l.postorder)) (function_of h)) l.out l.m
