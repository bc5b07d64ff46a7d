-- The reach and the marks that are computed are those of the rule.
use mathlib.Core.Path.{◌≡◌, refl, sym, ◌∙◌, ap, subst}
use mathlib.Core.Logic.{◌⊎◌, inl, inr, ⊎_elim}
use mathlib.Core.Bool.{Bool, true, false, not, ◌&&◌, ◌||◌, cond}
use mathlib.Core.Option.{some}
use Prim.Native.Nat.{ℕ, zero, suc, ◌+◌, ◌≤◌, ◌<◌}
use native.Mathlib.Omega.{arith}
use mathlib.Core.List.{List, [], ◌∷◌, ◌++◌, map, Memᴰ}
use lib.ListN.{length, get_or, replicate, get_elem?, length-replicate}
use lib.Dec.{eqb}
use borrow.Author.Tests.{eqb-false, ne_eqb, not-true}
use Rattle.plank_core.specs.Lists.{bind, keep, upto, ◌∈◌}
use Rattle.sir_data.specs.Records.{locals, inputs, outputs, ops, successors, condition, code, ins, outs}
use Rattle.sir_data.specs.Codes.{is_alloc, derives}
use Rattle.sir_data.specs.inner.WellFormed.{WellFormed}
use Rattle.sir_analyses.specs.Order.{blocks_rpo}
use Rattle.sir_analyses.specs.Liveness.{Use, uses_in, uses, positions, Set, has, add_all, members}
use Rattle.sir_analyses.specs.Allocation.{Alloc, allocs, no_alloc, alloc_at, base, carried, next, next_of, closure, spread, reach, escapes, is_returned, reached_by_other, marked}
use Rattle.sir_analyses.specs.Claims.{Reached, itself, linked, Marked, escaped, returned, met, MarkRule}
use Rattle.plank_core.specs.laws.Lists.{and_true_left, and_true_right, both_true, or_true_left, or_true_right, or_cases, none, any_out, any_mem, keep_out, bind_out, bind_mem, elem_mem, elem_less, mem_elem, get_or_mem, upto_mem, mem_upto}
use Rattle.sir_analyses.proofs.SetLaws.{has_less, none_in, set_ext, members_in, members_out, length_add_all, add_keeps, add_in, add_out, card, card_full, add_card}
use Rattle.sir_analyses.proofs.Positions.{positions_in, positions_out}
use Rattle.sir_analyses.proofs.claims.order.OrderProof.{blocks_below, next_listed}
use Rattle.sir_analyses.proofs.Accepted.{one_out, listed_op}

abbrev pub op_use : ℕ → ℕ → Use
op_use b o = record { block = b; kind = 0; place = o }

abbrev pub cond_use : ℕ → Use
cond_use b = record { block = b; kind = 1; place = 0 }

abbrev pub out_use : ℕ → ℕ → Use
out_use b k = record { block = b; kind = 2; place = k }

abbrev pub alloc_of : ℕ → ℕ → Alloc
alloc_of b o = record { block = b; op = o }

-- ---- closures

module _ (f : Set → List ℕ) where
  closure_sound : (P : ℕ → Type 0) → ((s : Set) → ((v : ℕ) → has s v ≡ true → P v) → (v : ℕ) → v ∈ f s → P v)
      → (n : ℕ) (s : Set) → ((v : ℕ) → has s v ≡ true → P v) → (v : ℕ) → has (closure f n s) v ≡ true → P v
  closure_sound P g zero s h v t = h v t
  closure_sound P g (suc n) s h v t = closure_sound P g n (add_all s (f s)) (λ u k. ⊎_elim (h u) (g s h u) (add_out s (f s) k)) v t

  closure_keeps : (n : ℕ) (s : Set) (v : ℕ) → has s v ≡ true → has (closure f n s) v ≡ true
  closure_keeps zero s v h = h
  closure_keeps (suc n) s v h = closure_keeps n (add_all s (f s)) v (add_keeps s (f s) v h)

  closure_length : (n : ℕ) (s : Set) → length (closure f n s) ≡ length s
  closure_length zero s = refl
  closure_length (suc n) s = closure_length n (add_all s (f s)) ∙ length_add_all s (f s)

  closure_stays : (s : Set) → add_all s (f s) ≡ s → (n : ℕ) → closure f n s ≡ s
  closure_stays s e zero = refl
  closure_stays s e (suc n) = ap (closure f n) e ∙ closure_stays s e n

  -- with a step for each that a set lacks, another step adds nothing
  closure_ends : (n : ℕ) (s : Set) → length s ≤ card s + n → add_all (closure f n s) (f (closure f n s)) ≡ closure f n s
  closure_ends zero s h = set_ext (add_all s (f s)) s (length_add_all s (f s)) (λ v t. card_full s v (omega arith) (rw length_add_all at (has_less (add_all s (f s)) v t))) (λ v t. add_keeps s (f s) v t)
  closure_ends (suc n) s h = go (add_card s (f s)) (closure_ends n (add_all s (f s)))
    where
      go : (add_all s (f s) ≡ s) ⊎ (card s < card (add_all s (f s))) → (length (add_all s (f s)) ≤ card (add_all s (f s)) + n → add_all (closure f n (add_all s (f s))) (f (closure f n (add_all s (f s)))) ≡ closure f n (add_all s (f s)))
          → add_all (closure f n (add_all s (f s))) (f (closure f n (add_all s (f s)))) ≡ closure f n (add_all s (f s))
      go (inl e) rest = rw (e, closure_stays s e n) e
      go (inr k) rest = rest (rw length_add_all (omega arith))

  -- v and all that f finds from there
  module _ (w : List ℕ) (v : ℕ) where
    start : Set
    start = add_all (replicate (locals w) false) (v ∷ [])

    start_length : length start ≡ locals w
    unfolding start
    start_length = length_add_all (replicate (locals w) false) (v ∷ []) ∙ length-replicate (locals w) false

    pub spread_length : length (spread w f v) ≡ locals w
    unfolding start
    spread_length = closure_length (locals w) start ∙ start_length

    pub spread_base : {x : ℕ} → x ≡ v → v < locals w → has (spread w f v) x ≡ true
    unfolding start
    spread_base {x} e h = closure_keeps (locals w) start x (add_in (replicate (locals w) false) (mathlib.Core.List.Memᴰ.head {xs = []} e) (rw (e, length-replicate) h))

    pub spread_step : {x : ℕ} → x ∈ f (spread w f v) → x < locals w → has (spread w f v) x ≡ true
    unfolding start
    spread_step {x} m h =
        ap (λ (s : Set). has s x) (sym (closure_ends (locals w) start (omega (arith, start_length))))
        ∙ add_in (spread w f v) m (rw spread_length h)

    pub spread_sound : (P : ℕ → Type 0) → P v → ((s : Set) → ((u : ℕ) → has s u ≡ true → P u) → (x : ℕ) → x ∈ f s → P x) → (x : ℕ) → has (spread w f v) x ≡ true → P x
    unfolding start
    spread_sound P p g = closure_sound P g (locals w) start (λ x t.
        ⊎_elim
        (λ (k : has (replicate (locals w) false) x ≡ true). none (has (replicate (locals w) false) x) k (none_in (locals w) x))
        (λ (m : x ∈ (v ∷ [])). subst P (sym (mathlib.Core.List.Memᴰ.eq_of_singleton m)) p)
        (add_out (replicate (locals w) false) (v ∷ []) t))

-- ---- uses and links

module _ (w : List ℕ) where
  -- what one use of u carries to v
  pub data Link (u v : ℕ) : Type 0 where
    derive : {b o : ℕ} → b ∈ blocks_rpo w → o ∈ ops w b → derives (code w o) ≡ true → u ∈ ins w o → v ∈ outs w o → Link u v
    pass : {b s : ℕ} (k : ℕ) → b ∈ blocks_rpo w → s ∈ successors w b → get_elem? (outputs w b) k ≡ some u → v ≡ get_or (inputs w s) k 0 → Link u v

  abbrev op_uses : ℕ → ℕ → ℕ → List Use
  op_uses v b o = map (λ k. op_use b o) (positions v (ins w o) 0)

  abbrev cond_uses : ℕ → ℕ → List Use
  cond_uses v b = map (λ k. cond_use b) (positions v (condition w b) 0)

  abbrev out_uses : ℕ → ℕ → List Use
  out_uses v b = map (out_use b) (positions v (outputs w b) 0)

  pub used_by_op : {b o v : ℕ} → b ∈ blocks_rpo w → o ∈ ops w b → v ∈ ins w o → Memᴰ (op_use b o) (uses w v)
  used_by_op {b} {o} {v} mb mo mi =
      let i = mem_elem mi in
      let m : Memᴰ (op_use b o) (op_uses v b o) = mathlib.Core.List.Memᴰ.map (λ (k : ℕ). op_use b o) (positions_in i.0 (ins w o) 0 i.1) in
      bind_mem (uses_in w v) mb (mathlib.Core.List.Memᴰ.append_left (out_uses v b) (mathlib.Core.List.Memᴰ.append_left (cond_uses v b) (bind_mem (op_uses v b) mo m)))

  pub used_as_output : {b v : ℕ} (k : ℕ) → b ∈ blocks_rpo w → get_elem? (outputs w b) k ≡ some v → Memᴰ (out_use b k) (uses w v)
  used_as_output {b} {v} k mb e =
      let z : k ≡ 0 + k = omega arith in
      bind_mem (uses_in w v) mb
      (mathlib.Core.List.Memᴰ.append_right (bind (ops w b) (op_uses v b) ++ cond_uses v b)
      (mathlib.Core.List.Memᴰ.map (out_use b) (mathlib.Core.List.Memᴰ.cast z (positions_in k (outputs w b) 0 e))))

  -- what a use is
  pub data Used (v : ℕ) : Use → Type 0 where
    by_op : {x : Use} {b o : ℕ} → b ∈ blocks_rpo w → o ∈ ops w b → v ∈ ins w o → x ≡ op_use b o → Used v x
    by_condition : {x : Use} {b : ℕ} → b ∈ blocks_rpo w → v ∈ condition w b → x ≡ cond_use b → Used v x
    by_output : {x : Use} {b : ℕ} (k : ℕ) → b ∈ blocks_rpo w → get_elem? (outputs w b) k ≡ some v → x ≡ out_use b k → Used v x

  pub used : {x : Use} (v : ℕ) → Memᴰ x (uses w v) → Used v x
  used {x} v m = let r = bind_out (uses_in w v) (blocks_rpo w) m in go r.0 r.1 (mathlib.Core.List.Memᴰ.append_cases (bind (ops w r.0) (op_uses v r.0) ++ cond_uses v r.0) r.2)
    where
      byops : (b : ℕ) → b ∈ blocks_rpo w → Memᴰ x (bind (ops w b) (op_uses v b)) ⊎ Memᴰ x (cond_uses v b) → Used v x
      byops b mb (inl h) =
          let r = bind_out (op_uses v b) (ops w b) h in
          let q = mathlib.Core.List.Memᴰ.of_map (λ (k : ℕ). op_use b r.0) (positions v (ins w r.0) 0) r.2 in
          let p = positions_out v (ins w r.0) 0 q.1 in
          by_op mb r.1 (elem_mem (ins w r.0) p.0 v p.2) (sym q.2)
      byops b mb (inr h) =
          let q = mathlib.Core.List.Memᴰ.of_map (λ (k : ℕ). cond_use b) (positions v (condition w b) 0) h in
          let p = positions_out v (condition w b) 0 q.1 in
          by_condition mb (elem_mem (condition w b) p.0 v p.2) (sym q.2)

      go : (b : ℕ) → b ∈ blocks_rpo w → Memᴰ x (bind (ops w b) (op_uses v b) ++ cond_uses v b) ⊎ Memᴰ x (out_uses v b) → Used v x
      go b mb (inl h) = byops b mb (mathlib.Core.List.Memᴰ.append_cases (bind (ops w b) (op_uses v b)) h)
      go b mb (inr h) =
          let q = mathlib.Core.List.Memᴰ.of_map (out_use b) (positions v (outputs w b) 0) h in
          let p = positions_out v (outputs w b) 0 q.1 in
          let z : q.0 ≡ p.0 = omega arith in
          by_output p.0 mb p.2 (sym q.2 ∙ ap (out_use b) z)

  pub carried_link : {u v : ℕ} {x : Use} → Memᴰ x (uses w u) → v ∈ carried w x → Link u v
  carried_link {u} {v} {x} mx mv = go (used u mx)
    where
      by_derive : {b o : ℕ} → b ∈ blocks_rpo w → o ∈ ops w b → u ∈ ins w o → (t : Bool) → derives (code w o) ≡ t → v ∈ cond t (outs w o) [] → Link u v
      by_derive mb mo mi true e m = derive mb mo e mi m
      by_derive mb mo mi false e m = absurd (mathlib.Core.List.Memᴰ.not-nil m)

      by_pass : {b : ℕ} (k : ℕ) → b ∈ blocks_rpo w → get_elem? (outputs w b) k ≡ some u → v ∈ map (λ s. get_or (inputs w s) k 0) (successors w b) → Link u v
      by_pass {b} k mb e m = let q = mathlib.Core.List.Memᴰ.of_map (λ (s : ℕ). get_or (inputs w s) k 0) (successors w b) m in pass k mb q.1 e (sym q.2)

      go : Used u x → Link u v
      go (by_op {b} {o} mb mo mi e) = by_derive mb mo mi (derives (code w o)) refl (rw e at mv)
      go (by_condition mb mi e) = absurd (mathlib.Core.List.Memᴰ.not-nil {a = v} (rw e at mv))
      go (by_output {b} k mb h e) = by_pass k mb h (rw e at mv)

  pub link_carried : {u v : ℕ} → Link u v → (x : Use) × Memᴰ x (uses w u) × (v ∈ carried w x)
  link_carried {u} {v} (derive {b} {o} mb mo d mi m) =
      (op_use b o, used_by_op mb mo mi, rw d m)
  link_carried {u} {v} (pass {b} {s} k mb ms e d) =
      let m : v ∈ map (λ s. get_or (inputs w s) k 0) (successors w b) = mathlib.Core.List.Memᴰ.cast d (mathlib.Core.List.Memᴰ.map (λ (s : ℕ). get_or (inputs w s) k 0) ms) in
      (out_use b k, used_as_output k mb e, m)

  pub next_link : {u v : ℕ} → v ∈ next w u → Link u v
  next_link {u} m = let r = bind_out (carried w) (uses w u) m in carried_link r.1 r.2

  pub link_next : {u v : ℕ} → Link u v → v ∈ next w u
  link_next l = let r = link_carried l in bind_mem (carried w) r.1 r.2

  -- an allocation's block and operation
  pub alloc_known : {x : Alloc} → Memᴰ x (allocs w) → (x.block ∈ blocks_rpo w) × (x.op ∈ ops w x.block) × (is_alloc (code w x.op) ≡ true)
  alloc_known {x} m =
      let r = bind_out (λ (b : ℕ). map (alloc_of b) (keep (λ o. is_alloc (code w o)) (ops w b))) (blocks_rpo w) m in
      let q = mathlib.Core.List.Memᴰ.of_map (alloc_of r.0) (keep (λ o. is_alloc (code w o)) (ops w r.0)) r.2 in
      let k = keep_out (λ (o : ℕ). is_alloc (code w o)) (ops w r.0) q.1 in
      rw (← q.2) (r.1, k.0, k.1)

-- ---- the rule

module _ (w : List ℕ) (good : WellFormed w) where
  pub link_less : {u v : ℕ} → Link w u v → v < locals w
  link_less {u} {v} (derive {b} {o} mb mo d mi m) = good.in_range.written o v (listed_op w good mb mo) m
  link_less {u} {v} (pass {b} {s} k mb ms e d) =
      let l : k < length (inputs w s) = omega (arith, elem_less (outputs w b) k u e, good.passed b s (blocks_below w good b mb) ms) in
      rw d (good.in_range.input s (get_or (inputs w s) k 0) (blocks_below w good s (next_listed w good mb ms)) (get_or_mem (inputs w s) k 0 l))

  -- what a use brings is a local
  pub next_less : (u v : ℕ) → v ∈ next w u → v < locals w
  next_less u v m = link_less (next_link w m)

  pub alloc_in : (a : ℕ) → a < length (allocs w) → Memᴰ (alloc_at w a) (allocs w)
  alloc_in a h = get_or_mem (allocs w) a no_alloc h

  pub base_out : (a : ℕ) → a < length (allocs w) → base w (alloc_at w a) ∈ outs w (alloc_at w a).op
  base_out a h =
      let k = alloc_known w (alloc_in a h) in
      get_or_mem (outs w (alloc_at w a).op) 0 0 (omega (arith, one_out w good (listed_op w good k.0 k.1) k.2))

  pub base_less : (a : ℕ) → a < length (allocs w) → base w (alloc_at w a) < locals w
  base_less a h =
      let k = alloc_known w (alloc_in a h) in
      good.in_range.written (alloc_at w a).op (base w (alloc_at w a)) (listed_op w good k.0 k.1) (base_out a h)

  pub reach_length : (a : ℕ) → length (reach w (alloc_at w a)) ≡ locals w
  reach_length a = spread_length (next_of w) w (base w (alloc_at w a))

  reach_sound : (a v : ℕ) → has (reach w (alloc_at w a)) v ≡ true → Reached w a v
  reach_sound a = spread_sound (next_of w) w (base w (alloc_at w a)) (Reached w a) (itself refl) (λ s h v m.
      let r = bind_out (next w) (members s) m in
      let q = bind_out (carried w) (uses w r.0) r.2 in
      linked (h r.0 (members_out s r.1)) q.1 q.2)

  reach_complete : (a v : ℕ) → a < length (allocs w) → Reached w a v → has (reach w (alloc_at w a)) v ≡ true
  reach_complete a v h (itself e) = spread_base (next_of w) w (base w (alloc_at w a)) e (base_less a h)
  reach_complete a v h (linked {u} r mx mv) =
      let l = carried_link w mx mv in
      spread_step (next_of w) w (base w (alloc_at w a)) (bind_mem (next w) (members_in (reach w (alloc_at w a)) u (reach_complete a u h r)) (link_next w l)) (link_less l)

  -- another allocation than a that reaches v
  pub other_reaches : (a v : ℕ) → reached_by_other w a v ≡ true → (b : ℕ) × (b < length (allocs w)) × (¬ (a ≡ b)) × Reached w b v
  other_reaches a v t =
      let q = any_out (λ (k : ℕ). not (eqb k a) && has (reach w (alloc_at w k)) v) (upto (length (allocs w))) t in
      let other = not-true (eqb q.0 a) (and_true_left (not (eqb q.0 a)) (has (reach w (alloc_at w q.0)) v) q.2) in
      let reaches = and_true_right (not (eqb q.0 a)) (has (reach w (alloc_at w q.0)) v) q.2 in
      (q.0, mem_upto q.0 (length (allocs w)) q.1, λ e. eqb-false q.0 a other (sym e), reach_sound q.0 v reaches)

  pub reached_by_other_lem : (a v b : ℕ) → b < length (allocs w) → ¬ (a ≡ b) → Reached w b v → reached_by_other w a v ≡ true
  reached_by_other_lem a v b l n q =
      any_mem (λ (k : ℕ). not (eqb k a) && has (reach w (alloc_at w k)) v) (upto_mem b (length (allocs w)) l)
      (both_true (not (eqb b a)) (has (reach w (alloc_at w b)) v) (ap not (ne_eqb b a (λ e. n (sym e)))) (reach_complete b v l q))

  mark_sound : (a : ℕ) → marked w a ≡ true → Marked w a
  mark_sound a t = go (any_out (λ (v : ℕ). escapes w v || is_returned w v || reached_by_other w a v) (members (reach w (alloc_at w a))) t)
    where
      why : (v : ℕ) → Reached w a v → ((escapes w v || is_returned w v) ≡ true) ⊎ (reached_by_other w a v ≡ true) → Marked w a
      why v r (inl h) = first_two (or_cases (escapes w v) (is_returned w v) h)
        where
          first_two : (escapes w v ≡ true) ⊎ (is_returned w v ≡ true) → Marked w a
          first_two (inl k) = escaped r k
          first_two (inr k) = returned r k
      why v r (inr h) = let q = other_reaches a v h in met r q.1 q.2 q.3

      go : (v : ℕ) × (v ∈ members (reach w (alloc_at w a))) × ((escapes w v || is_returned w v || reached_by_other w a v) ≡ true) → Marked w a
      go q = why q.0 (reach_sound a q.0 (members_out (reach w (alloc_at w a)) q.1)) (or_cases (escapes w q.0 || is_returned w q.0) (reached_by_other w a q.0) q.2)

  mark_complete : (a : ℕ) → a < length (allocs w) → Marked w a → marked w a ≡ true
  mark_complete a h k = go k
    where
      because : (v : ℕ) → Reached w a v → (escapes w v || is_returned w v || reached_by_other w a v) ≡ true → marked w a ≡ true
      because v r t = any_mem (λ (v : ℕ). escapes w v || is_returned w v || reached_by_other w a v) (members_in (reach w (alloc_at w a)) v (reach_complete a v h r)) t

      go : Marked w a → marked w a ≡ true
      go (escaped {v} r t) = because v r (or_true_left (escapes w v || is_returned w v) (reached_by_other w a v) (or_true_left (escapes w v) (is_returned w v) t))
      go (returned {v} r t) = because v r (or_true_left (escapes w v || is_returned w v) (reached_by_other w a v) (or_true_right (escapes w v) (is_returned w v) t))
      go (met {v} {b} r l n q) = because v r (or_true_right (escapes w v || is_returned w v) (reached_by_other w a v) (reached_by_other_lem a v b l n q))

  pub mark_rule : MarkRule w
  mark_rule = record { reach_exact = λ a v h. (reach_sound a v, reach_complete a v h); mark_exact = λ a h. (mark_sound a, mark_complete a h) }
