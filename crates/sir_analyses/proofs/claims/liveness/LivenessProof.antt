-- The liveness claim: the settled sets are the least solution of the equations, and the round number counts passes and is bounded.
use mathlib.Core.Path.{◌≡◌, refl, sym, ap, subst, ◌∙◌}
use mathlib.Core.Logic.{◌↔◌}
use mathlib.Core.Bool.{Bool, true, false, not, ◌&&◌, ◌||◌, cond}
use Prim.Native.Nat.{ℕ, zero, suc, ◌+◌, ◌*◌, ◌≤◌, ◌<◌}
use native.Mathlib.Omega.{arith}
use mathlib.Core.List.{List, [], map, reverse}
use lib.ListN.{length}
use Rattle.plank_core.specs.Lists.{upto, sum, ◌∈◌}
use Rattle.plank_core.specs.laws.Lists.{none, no_members, reverse_mem, reverse_out}
use Rattle.plank_core.specs.laws.Loops.{length_map_upto, get_or_map_upto}
use Rattle.sir_data.specs.Records.{blocks, locals, successors}
use Rattle.sir_data.specs.inner.WellFormed.{WellFormed}
use Rattle.sir_analyses.specs.Order.{blocks_rpo, predecessors}
use Rattle.sir_analyses.specs.Liveness.{Set, has, members, row_of, use_set, def_set, entry_from, renamed, no_exits, pass, settle, settled, same_rows, rounds, exit_set, entry_set}
use Rattle.sir_analyses.specs.Claims.{block, Visited, successor, Solves, LiveOut, Equations, after, LivenessRule}
use Rattle.sir_analyses.proofs.SetLaws.{has_less, members_out, Within}
use Rattle.sir_analyses.proofs.claims.liveness.RowLaws.{Ended, total, total_sum, settle_by}
use Rattle.sir_analyses.proofs.claims.liveness.FlowLaws.{Flow, Closed, Held, exit_in, exit_out, fixed_solves, passes_end, exit_length}
use Rattle.sir_analyses.proofs.claims.liveness.GenKill.{entry_length, entry_grows, gen_kill}
use Rattle.sir_analyses.proofs.local_liveness.Sending.{rename_below}
use Rattle.sir_analyses.proofs.claims.order.OrderProof.{blocks_seen, predecessors_in, predecessors_out, not_visited, blocks_visited, blocks_below, next_listed}

pub settle_by_lem : (w : List ℕ) (n k : ℕ) (e : List Set) → settle n w k e ≡ settle_by (pass w) n k e
unfolding settle_by
settle_by_lem w zero k e = refl
settle_by_lem w (suc n) k e = ap (cond (same_rows (pass w e) e) (suc k, e)) (settle_by_lem w n (suc k) (pass w e))

module _ (w : List ℕ) (good : WellFormed w) where
  live_flow : Flow (blocks w) (locals w) (blocks_rpo w) (successors w) (predecessors w) (entry_from w)
  live_flow = record {
    below = blocks_below w good;
    next_in = λ p b m n. next_listed w good m n;
    pred_in = λ p b m n. predecessors_in w p b ((blocks_seen w p).0 m) (blocks_below w good p m) n;
    pred_out = λ p b m. let r = predecessors_out w p b m in ((blocks_seen w p).1 r.0, r.1);
    entry_length = entry_length w;
    entry_grows = entry_grows w;
  }

  abbrev LiveHeld : List Set → Type 0
  LiveHeld = Held (blocks w) (locals w) (blocks_rpo w) (successors w) (predecessors w) (entry_from w) (renamed w) live_flow

  live_ended : Ended (pass w) LiveHeld (after w) (rounds w) (settled w).1
  live_ended =
      let n = blocks w * locals w + 1 in
      subst (λ (r : ℕ × List Set). Ended (pass w) LiveHeld (after w) r.0 r.1) (sym (settle_by_lem w n 0 (no_exits w)))
      (passes_end (blocks w) (locals w) (blocks_rpo w) (successors w) (predecessors w) (entry_from w) (renamed w) live_flow
      (reverse (blocks_rpo w)) (λ b. reverse_mem) (λ b. reverse_out (blocks_rpo w)) (after w) refl (λ n. refl) n (omega arith))

  pub live_solves : Solves w (exit_set w)
  live_solves = record {
    exit = λ b v.
        fixed_solves (blocks w) (locals w) (blocks_rpo w) (successors w) (predecessors w) (entry_from w) (renamed w) live_flow
        (reverse (blocks_rpo w)) (λ b. reverse_mem) (λ b. reverse_out (blocks_rpo w))
        (settled w).1 live_ended.held live_ended.fixed b ((blocks_visited w good b).1 v);
  }

  solution_closed : (y : ℕ → Set) → Solves w y → Closed (blocks w) (locals w) (blocks_rpo w) (successors w) (predecessors w) (entry_from w) (renamed w) live_flow y
  solution_closed y s = record {
    sized = λ b m.
        ap length (s.exit b ((blocks_visited w good b).0 m))
        ∙ exit_length (entry_from w) (renamed w) (locals w) (successors w) y b;
    closed = λ b m v t. ap (λ (x : Set). has x v) (s.exit b ((blocks_visited w good b).0 m)) ∙ t;
  }

  pub exit_visited : (b v : ℕ) → has (exit_set w b) v ≡ true → Visited w (block b)
  exit_visited b v t = (blocks_visited w good b).0 (live_ended.held.only b v t)

  -- one more pass adds nothing
  pub settles : pass w (settled w).1 ≡ (settled w).1
  settles = live_ended.fixed

  pub exit_size : (b : ℕ) → b < blocks w → length (exit_set w b) ≡ locals w
  exit_size b h = live_ended.held.shape.wide b (subst (λ (n : ℕ). b < n) (sym live_ended.held.shape.tall) h)

  entry_is : (b : ℕ) → Visited w (block b) → entry_set w b ≡ entry_from w b (exit_set w b)
  entry_is b m = ap (λ (t : Bool). cond t (entry_from w b (exit_set w b)) []) ((blocks_seen w b).0 ((blocks_visited w good b).1 m))

  -- the table after the last pass
  at_end : after w (rounds w) ≡ (settled w).1
  at_end =
      let e = live_ended.state in
      ap (after w) live_ended.last ∙ ap (pass w) (sym e) ∙ settles

  visited_size : (b : ℕ) → Visited w (block b) → length (exit_set w b) ≡ locals w
  visited_size b m = exit_size b (blocks_below w good b ((blocks_visited w good b).1 m))

  least_exit : (y : ℕ → Set) → Solves w y → (b : ℕ) → Visited w (block b) → Within (exit_set w b) (y b)
  least_exit y s b m = live_ended.held.least y (solution_closed y s) b ((blocks_visited w good b).1 m)

  least_entry : (y : ℕ → Set) → Solves w y → (b v : ℕ) → Visited w (block b) → has (entry_set w b) v ≡ true → has (entry_from w b (y b)) v ≡ true
  least_entry y s b v m t =
      let wide = (solution_closed y s).sized b ((blocks_visited w good b).1 m) in
      entry_grows w b (exit_set w b) (y b) (visited_size b m ∙ sym wide) (least_exit y s b m) v (ap (λ (x : Set). has x v) (sym (entry_is b m)) ∙ t)

  -- ---- the two equations, member by member

  entry_has : (b v : ℕ) → Visited w (block b) → has (entry_set w b) v ≡ (has (use_set w b) v || (has (exit_set w b) v && not (has (def_set w b) v)))
  entry_has b v m = ap (λ (x : Set). has x v) (entry_is b m) ∙ gen_kill w b (exit_set w b) (visited_size b m) v

  -- a local that is live at the entry of a successor has a name below the count of locals
  passed_below : (b s u : ℕ) → Visited w (block b) → s ∈ successors w b → has (entry_set w s) u ≡ true → renamed w b s u < locals w
  passed_below b s u m n t =
      let ms : Visited w (block s) = successor m n in
      let low = blocks_below w good s ((blocks_visited w good s).1 ms) in
      let p = predecessors_in w b s ((blocks_seen w b).0 ((blocks_visited w good b).1 m)) (blocks_below w good b ((blocks_visited w good b).1 m)) n in
      let wide : length (entry_set w s) ≡ locals w = ap length (entry_is s ms) ∙ entry_length w s (exit_set w s) ∙ visited_size s ms in
      rename_below good b s p (locals w) u low (omega arith) (omega (arith, has_less (entry_set w s) u t))

  exit_has : (b v : ℕ) → Visited w (block b) → (has (exit_set w b) v ≡ true) ↔ LiveOut w (entry_set w) b v
  exit_has b v m = (
    (λ t.
        let r = exit_out (entry_from w) (renamed w) (locals w) (successors w) (exit_set w) b v (ap (λ (x : Set). has x v) (sym (live_solves.exit b m)) ∙ t) in
        record {
          to = r.to;
          local = r.name;
          follows = r.to_in;
          live = ap (λ (x : Set). has x r.name) (entry_is r.to (successor m r.to_in)) ∙ r.live;
          called = sym r.called;
        }),
    (λ o.
        let e : has (entry_from w o.to (exit_set w o.to)) o.local ≡ true = ap (λ (x : Set). has x o.local) (sym (entry_is o.to (successor m o.follows))) ∙ o.live in
        ap (λ (x : Set). has x v) (live_solves.exit b m)
        ∙ exit_in (entry_from w) (renamed w) (locals w) (successors w) (exit_set w) b o.to o.local v o.follows e (sym o.called)
        (subst (λ (n : ℕ). n < locals w) o.called (passed_below b o.to o.local m o.follows o.live))),
  )

  -- every solution of the two equations, cut to the locals, is closed under them
  module _ (y z : ℕ → Set) (q : Equations w y z) where
    abbrev cut : ℕ → Set
    cut b = map (has (z b)) (upto (locals w))

    cut_length : (b : ℕ) → length (cut b) ≡ locals w
    cut_length b = length_map_upto (has (z b)) (locals w)

    cut_out : (b v : ℕ) → has (cut b) v ≡ true → has (z b) v ≡ true
    cut_out b v t = sym (get_or_map_upto (has (z b)) (locals w) v false (subst (λ (n : ℕ). v < n) (cut_length b) (has_less (cut b) v t))) ∙ t

    entry_under : (b v : ℕ) → Visited w (block b) → (x : Set) → length x ≡ locals w → (has x v ≡ true → has (z b) v ≡ true) → has (entry_from w b x) v ≡ true → has (y b) v ≡ true
    entry_under b v m x e f t = q.entry_is b v m ∙ go (has (use_set w b) v) (has x v) (has (z b) v) (has (def_set w b) v) f (sym (gen_kill w b x e v) ∙ t)
      where
        go : (u x z d : Bool) → (x ≡ true → z ≡ true) → (u || (x && not d)) ≡ true → (u || (z && not d)) ≡ true
        go true x z d f t = refl
        go false true z d f t = ap (λ (a : Bool). a && not d) (f refl) ∙ t
        go false false z d f t = none false t refl

    cut_closed : Closed (blocks w) (locals w) (blocks_rpo w) (successors w) (predecessors w) (entry_from w) (renamed w) live_flow cut
    cut_closed = record {
      sized = λ b m. cut_length b;
      closed = λ p m v t.
          let r = exit_out (entry_from w) (renamed w) (locals w) (successors w) cut p v t in
          let mp = (blocks_visited w good p).0 m in
          let e = entry_under r.to r.name (successor mp r.to_in) (cut r.to) (cut_length r.to) (cut_out r.to r.name) r.live in
          get_or_map_upto (has (z p)) (locals w) v false r.small
          ∙ (q.exit_is p v mp).1 (record { to = r.to; local = r.name; follows = r.to_in; live = e; called = sym r.called });
    }

    least_both : (b v : ℕ) → Visited w (block b) → (has (entry_set w b) v ≡ true → has (y b) v ≡ true) × (has (exit_set w b) v ≡ true → has (z b) v ≡ true)
    least_both b v m =
        let out : has (exit_set w b) v ≡ true → has (z b) v ≡ true = λ t. cut_out b v (live_ended.held.least cut cut_closed b ((blocks_visited w good b).1 m) v t) in
        ((λ t. entry_under b v m (exit_set w b) (visited_size b m) out (ap (λ (x : Set). has x v) (sym (entry_is b m)) ∙ t)), out)

  pub liveness_rule : LivenessRule w
  liveness_rule = record {
    exits = record { solution = live_solves; least = λ y s b v m t. least_exit y s b m v t };
    entries = entry_is;
    least_entries = least_entry;
    equations = record { entry_is = entry_has; exit_is = exit_has };
    least_pair = least_both;
    sized = visited_size;
    use_def = λ b x v e. gen_kill w b x e v;
    unvisited_entry = λ b n. ap (λ (t : Bool). members (cond t (entry_from w b (exit_set w b)) [])) (not_visited w b n);
    unvisited_exit = λ b n. no_members (members (exit_set w b)) (λ v m. n (exit_visited b v (members_out (exit_set w b) m)));
    passes = λ b. ap (λ (e : List Set). row_of e b) (sym at_end);
    last_pass = λ n e.
        let k : n ≡ live_ended.before = omega (arith, live_ended.last) in
        ap (λ (m : ℕ). after w (suc m)) k ∙ ap (pass w) (sym live_ended.state) ∙ settles ∙ live_ended.state ∙ ap (after w) (sym k);
    one_more = ap (pass w) at_end ∙ settles ∙ sym at_end;
    earlier_pass = λ n l. live_ended.earlier n (omega (arith, live_ended.last));
    some_pass = omega (arith, live_ended.last);
    bound =
        let a : length (settled w).1 ≡ blocks w = live_ended.held.shape.tall in
        let c : sum (map (λ b. length (members (exit_set w b))) (upto (blocks w))) ≡ total (settled w).1 =
        subst (λ (n : ℕ). sum (map (λ b. length (members (exit_set w b))) (upto n)) ≡ total (settled w).1) a (total_sum (settled w).1) in
        subst (λ (n : ℕ). rounds w ≤ n + 1) (sym c) live_ended.few;
  }
