-- The owners as the source gives them are those of the definition. What is said of a step, of the start and of the end of a turn
-- holds for every machine that follows locals with a work list; only `drain` and `propagate` are the source's own.
use mathlib.Core.Path.{◌≡◌, refl, sym, ◌∙◌, ap, subst}
use mathlib.Core.Logic.{◌⊎◌, inl, inr}
use mathlib.Core.Bool.{Bool, true, false, cond}
use Prim.Native.Nat.{ℕ, zero, suc, ◌+◌, ◌-◌, ◌≤◌, ◌<◌}
use native.Mathlib.Omega.{arith}
use native.Mathlib.Decide.{ℕ_discrete}
use mathlib.Core.List.Memᴰ
use mathlib.Core.List.{List, [], ◌∷◌, ◌++◌}
use lib.ListN.{length, get_or, set, length-set}
use lib.Seq.{get_or-set_same, get_or-set_other, ext_get_or}
use lib.Dec.{eqb}
use borrow.Author.Tests.{eqb-true, eqb-false, eq-eqb}
use Rattle.plank_core.specs.Lists.{foldl, bind, mem, count, ◌∈◌}
use Rattle.plank_core.specs.laws.Lists.{bool_or, none, keep_mem, keep_out, bind_mem, bind_out, mem_in, in_mem, length_none}
use Rattle.sir_data.specs.Records.{locals}
use Rattle.sir_data.specs.inner.WellFormed.{WellFormed}
use Rattle.sir_analyses.specs.Liveness.{Use, uses, Set, has, add_all, members}
use Rattle.sir_analyses.specs.Allocation.{allocs, alloc_at, base, carried, next, next_of, spread, unowned, give, link, owners}
use Rattle.sir_analyses.specs.inner.Discovery.{zeros}
use Rattle.sir_analyses.specs.Propagation.{State, link_local, start}
use Rattle.sir_analyses.specs.Source.{follow_use, pop, drain, propagate, source_state}
use Rattle.sir_analyses.proofs.SetLaws.{members_in, members_out}
use Rattle.sir_analyses.proofs.claims.marks.Marks.{spread_sound, spread_base, spread_step, next_less, base_less}
use Rattle.sir_analyses.proofs.claims.source.Discovery.{after_same}
use Rattle.sir_analyses.proofs.claims.source.Steps.{follow, marks_at, follow_use_lem, zeros_most, zeros_fewer, zeros_no_more, start_length}

-- what the work list comes to from v, where o has the owners before: v itself, and what nobody had
pub data Onward (w o : List ℕ) (v : ℕ) : ℕ → Type 0 where
  itself : {x : ℕ} → x ≡ v → Onward w o v x
  onwards : {u x : ℕ} → Onward w o v u → x ∈ next w u → get_or o x 0 ≡ 0 → Onward w o v x

-- what it gives an owner
pub record Taken (w o : List ℕ) (v x : ℕ) : Type 0 where
  pub by : ℕ
  pub onward : Onward w o v by
  pub carries : x ∈ next w by

module _ (w o : List ℕ) (v a : ℕ) where
  -- owner is o with some of what is to be taken; `more` are the locals that are being followed
  pub record Taking (owner work more : List ℕ) : Type 0 where
    pub size : length owner ≡ locals w
    pub from : (x : ℕ) → (get_or owner x 0 ≡ get_or o x 0) ⊎ ((get_or owner x 0 ≡ suc a) × Taken w o v x)
    pub works : (x : ℕ) → x ∈ work → Onward w o v x
    pub done : (x : ℕ) → (x ≡ v) ⊎ ((get_or o x 0 ≡ 0) × (get_or owner x 0 ≡ suc a)) → (x ∈ work) ⊎ ((x ∈ more) ⊎ ((y : ℕ) → y ∈ next w x → get_or owner y 0 ≡ suc a))

  -- from s to s' the locals vs were linked
  pub record Out (s s' : State) (more vs : List ℕ) : Type 0 where
    pub inv : Taking s'.owner s'.work more
    pub still : (x : ℕ) → get_or s.owner x 0 ≡ suc a → get_or s'.owner x 0 ≡ suc a
    pub got : (x : ℕ) → x ∈ vs → get_or s'.owner x 0 ≡ suc a
    pub cost : zeros s'.owner + length s'.work ≤ zeros s.owner + length s.work

  out_nil : {s : State} {more : List ℕ} → Taking s.owner s.work more → Out s s more []
  out_nil I = record { inv = I; still = λ x e. e; got = λ x m. absurd (Memᴰ.not-nil m); cost = omega arith }

  out_trans : {s s' s'' : State} {more ws : List ℕ} (vs : List ℕ) → Out s s' more vs → Out s' s'' more ws → Out s s'' more (vs ++ ws)
  out_trans {s} {s'} {s''} {more} {ws} vs P Q = record { inv = Q.inv; still = λ x e. Q.still x (P.still x e); got = λ x m. go x (Memᴰ.append_cases vs m); cost = omega (arith, P.cost, Q.cost) }
    where
      go : (x : ℕ) → (x ∈ vs) ⊎ (x ∈ ws) → get_or s''.owner x 0 ≡ suc a
      go x (inl m) = Q.still x (P.got x m)
      go x (inr m) = Q.got x m

  module _ {u : ℕ} (f : Onward w o v u) where
    link_step : {s : State} {more : List ℕ} (x : ℕ) → Taking s.owner s.work more → x ∈ next w u → x < locals w → Out s (link_local a s x) more (x ∷ [])
    link_step {s} {more} x I m less = go (eqb (get_or s.owner x 0) 0) refl
      where
        now : List ℕ
        now = set s.owner x (suc a)

        here : (y : ℕ) → y ≡ x → get_or now y 0 ≡ suc a
        here y q = rw q (get_or-set_same s.owner x (suc a) 0 (omega (arith, I.size)))

        there : (y : ℕ) → ¬ (y ≡ x) → get_or now y 0 ≡ get_or s.owner y 0
        there y q = get_or-set_other s.owner x y (suc a) 0 q

        stays : (y : ℕ) → get_or s.owner y 0 ≡ suc a → get_or now y 0 ≡ suc a
        stays y e = by_cases (ℕ_discrete y x)
          where
            by_cases : Dec (y ≡ x) → get_or now y 0 ≡ suc a
            by_cases (yes q) = here y q
            by_cases (no q) = there y q ∙ e

        from' : (y : ℕ) → Dec (y ≡ x) → (get_or now y 0 ≡ get_or o y 0) ⊎ ((get_or now y 0 ≡ suc a) × Taken w o v y)
        from' y (yes q) = inr (here y q, record { by = u; onward = f; carries = rw q m })
        from' y (no q) = old (I.from y)
          where
            old : (get_or s.owner y 0 ≡ get_or o y 0) ⊎ ((get_or s.owner y 0 ≡ suc a) × Taken w o v y) → (get_or now y 0 ≡ get_or o y 0) ⊎ ((get_or now y 0 ≡ suc a) × Taken w o v y)
            old (inl e) = inl (there y q ∙ e)
            old (inr e) = inr (there y q ∙ e.0, e.1)

        -- what was done is done
        later : {y : ℕ} (work : List ℕ) → ((y ∈ s.work) → y ∈ work) → (y ∈ s.work) ⊎ ((y ∈ more) ⊎ ((z : ℕ) → z ∈ next w y → get_or s.owner z 0 ≡ suc a)) → (y ∈ work) ⊎ ((y ∈ more) ⊎ ((z : ℕ) → z ∈ next w y → get_or now z 0 ≡ suc a))
        later work g (inl k) = inl (g k)
        later work g (inr (inl k)) = inr (inl k)
        later work g (inr (inr k)) = inr (inr (λ z h. stays z (k z h)))

        -- x is new, or was taken before
        news : (work : List ℕ) → ((y : ℕ) → y ∈ s.work → y ∈ work) → (get_or s.owner x 0 ≡ 0 → x ∈ work) → (y : ℕ) → Dec (y ≡ x) → (y ≡ v) ⊎ ((get_or o y 0 ≡ 0) × (get_or now y 0 ≡ suc a)) → (y ∈ work) ⊎ ((y ∈ more) ⊎ ((z : ℕ) → z ∈ next w y → get_or now z 0 ≡ suc a))
        news work g h y d (inl q) = later work (g y) (I.done y (inl q))
        news work g h y (no d) (inr q) = later work (g y) (I.done y (inr (q.0, sym (there y d) ∙ q.1)))
        news work g h y (yes d) (inr q) = old (I.from y)
          where
            old : (get_or s.owner y 0 ≡ get_or o y 0) ⊎ ((get_or s.owner y 0 ≡ suc a) × Taken w o v y) → (y ∈ work) ⊎ ((y ∈ more) ⊎ ((z : ℕ) → z ∈ next w y → get_or now z 0 ≡ suc a))
            old (inl e) = let k : x ∈ work = h (rw d at (e ∙ q.0)) in inl (rw d k)
            old (inr e) = later work (g y) (I.done y (inr (q.0, e.0)))

        fresh : get_or s.owner x 0 ≡ 0 → Onward w o v x
        fresh z = onwards f m (old (I.from x))
          where
            old : (get_or s.owner x 0 ≡ get_or o x 0) ⊎ ((get_or s.owner x 0 ≡ suc a) × Taken w o v x) → get_or o x 0 ≡ 0
            old (inl e) = sym e ∙ z
            old (inr e) = absurd (omega (arith, e.0))

        pushed : get_or s.owner x 0 ≡ 0 → (y : ℕ) → y ∈ (x ∷ s.work) → Onward w o v y
        pushed z y (Memᴰ.head q) = rw q (fresh z)
        pushed z y (Memᴰ.tail k) = I.works y k

        only : (y : ℕ) → y ∈ (x ∷ []) → get_or now y 0 ≡ suc a
        only y k = here y (Memᴰ.eq_of_singleton k)

        go : (t : Bool) → eqb (get_or s.owner x 0) 0 ≡ t → Out s (cond t (record { owner = now; marks = s.marks; work = x ∷ s.work }) (record { owner = now; marks = cond (eqb (get_or s.owner x 0) (suc a)) s.marks (add_all s.marks (a ∷ (get_or s.owner x 0 - 1) ∷ [])); work = s.work })) more (x ∷ [])
        go true e =
            let z : get_or s.owner x 0 ≡ 0 = eqb-true (get_or s.owner x 0) 0 e in
            record {
              inv = record {
                size = length-set s.owner x (suc a) ∙ I.size;
                from = λ y. from' y (ℕ_discrete y x);
                works = pushed z;
                done = λ y. news (x ∷ s.work) (λ y k. Memᴰ.tail k) (λ k. Memᴰ.head refl) y (ℕ_discrete y x);
              };
              still = stays;
              got = only;
              cost = omega (arith, zeros_fewer s.owner x a (omega (arith, I.size)) z);
            }
        go false e = record {
          inv = record {
            size = length-set s.owner x (suc a) ∙ I.size;
            from = λ y. from' y (ℕ_discrete y x);
            works = I.works;
            done = λ y. news s.work (λ y k. k) (λ k. absurd (eqb-false (get_or s.owner x 0) 0 e k)) y (ℕ_discrete y x);
          };
          still = stays;
          got = only;
          cost = omega (arith, zeros_no_more s.owner x a);
        }

    links : {more : List ℕ} (xs : List ℕ) (s : State) → Taking s.owner s.work more → ((x : ℕ) → x ∈ xs → (x ∈ next w u) × (x < locals w)) → Out s (foldl (link_local a) s xs) more xs
    links [] s I h = out_nil I
    links (x ∷ xs) s I h =
        let k = h x (Memᴰ.head refl) in
        let P = link_step x I k.0 k.1 in
        out_trans (x ∷ []) P (links xs (link_local a s x) P.inv (λ y m. h y (Memᴰ.tail m)))

    -- xs are linked; a mark changes no owner
    pub follow_step : {more : List ℕ} (xs : List ℕ) (escaping : Bool) (s : State) → Taking s.owner s.work more → ((x : ℕ) → x ∈ xs → (x ∈ next w u) × (x < locals w)) → Out s (follow xs escaping a s) more xs
    follow_step xs true s I h = let P = links xs s I h in record { inv = P.inv; still = P.still; got = P.got; cost = P.cost }
    follow_step xs false s I h = links xs s I h

    uses_step : {more : List ℕ} (us : List Use) (s : State) → Taking s.owner s.work more → ((x : ℕ) → x ∈ bind us (carried w) → (x ∈ next w u) × (x < locals w)) → Out s (foldl (follow_use w a u) s us) more (bind us (carried w))
    uses_step [] s I h = out_nil I
    uses_step {more} (x ∷ us) s I h =
        let Q = follow_step (carried w x) (marks_at w u x) s I (λ y m. h y (Memᴰ.append_left (bind us (carried w)) m)) in
        let P : Out s (follow_use w a u s x) more (carried w x) = subst (λ (t : State). Out s t more (carried w x)) (sym (follow_use_lem w a u s x)) Q in
        out_trans (carried w x) P (uses_step us (follow_use w a u s x) P.inv (λ y m. h y (Memᴰ.append_right (carried w x) m)))

  -- ---- the work list

  -- the latest local is taken from it
  pub popped : {u : ℕ} {owner work more vs : List ℕ} → Taking owner work more → work ≡ u ∷ vs → Taking owner vs (u ∷ more)
  popped {u} {owner} {work} {more} {vs} I e = record { size = I.size; from = I.from; works = λ x m. I.works x (rw e (Memᴰ.tail m)); done = λ x k. pending x (I.done x k) }
    where
      at_work : (x : ℕ) → x ∈ (u ∷ vs) → (x ∈ vs) ⊎ ((x ∈ (u ∷ more)) ⊎ ((y : ℕ) → y ∈ next w x → get_or owner y 0 ≡ suc a))
      at_work x (Memᴰ.head k) = inr (inl (Memᴰ.head k))
      at_work x (Memᴰ.tail k) = inl k

      pending : (x : ℕ) → (x ∈ work) ⊎ ((x ∈ more) ⊎ ((y : ℕ) → y ∈ next w x → get_or owner y 0 ≡ suc a)) → (x ∈ vs) ⊎ ((x ∈ (u ∷ more)) ⊎ ((y : ℕ) → y ∈ next w x → get_or owner y 0 ≡ suc a))
      pending x (inl h) = at_work x (rw e at h)
      pending x (inr (inl h)) = inr (inl (Memᴰ.tail h))
      pending x (inr (inr h)) = inr (inr h)

  finish : {u : ℕ} {owner work more : List ℕ} → Taking owner work (u ∷ more) → ((y : ℕ) → y ∈ next w u → get_or owner y 0 ≡ suc a) → Taking owner work more
  finish {u} {owner} {work} {more} I D = record { size = I.size; from = I.from; works = I.works; done = λ x k. pending x (I.done x k) }
    where
      pending : (x : ℕ) → (x ∈ work) ⊎ ((x ∈ (u ∷ more)) ⊎ ((y : ℕ) → y ∈ next w x → get_or owner y 0 ≡ suc a)) → (x ∈ work) ⊎ ((x ∈ more) ⊎ ((y : ℕ) → y ∈ next w x → get_or owner y 0 ≡ suc a))
      pending x (inl h) = inl h
      pending x (inr (inl (Memᴰ.head q))) = inr (inr (rw q D))
      pending x (inr (inl (Memᴰ.tail h))) = inr (inl h)
      pending x (inr (inr h)) = inr (inr h)

  -- a local that is followed to its end is done
  pub followed : {u : ℕ} {s s' : State} {more xs : List ℕ} → Out s s' (u ∷ more) xs → ((y : ℕ) → y ∈ next w u → y ∈ xs) → Taking s'.owner s'.work more
  followed P f = finish P.inv (λ y m. P.got y (f y m))

  -- at the end exactly what is to be taken is taken
  ended_done : {owner : List ℕ} → Taking owner [] [] → {x : ℕ} → Onward w o v x → (y : ℕ) → y ∈ next w x → get_or owner y 0 ≡ suc a
  ended_done {owner} I {x} f = go f
    where
      out : {x : ℕ} → (x ∈ []) ⊎ ((x ∈ []) ⊎ ((y : ℕ) → y ∈ next w x → get_or owner y 0 ≡ suc a)) → (y : ℕ) → y ∈ next w x → get_or owner y 0 ≡ suc a
      out (inl h) = absurd (Memᴰ.not-nil h)
      out (inr (inl h)) = absurd (Memᴰ.not-nil h)
      out (inr (inr h)) = h

      go : {x : ℕ} → Onward w o v x → (y : ℕ) → y ∈ next w x → get_or owner y 0 ≡ suc a
      go {x} (itself q) = out (I.done x (inl q))
      go {x} (onwards f m z) = out (I.done x (inr (z, go f x m)))

  -- ---- the source's work list

  module _ (small : (u x : ℕ) → x ∈ next w u → x < locals w) where
    drained : (m : ℕ) (s : State) → Taking s.owner s.work [] → zeros s.owner + length s.work ≤ m → Taking (drain (uses w) m w a s).owner [] []
    drained zero s I h = let e : s.work ≡ [] = length_none s.work (omega arith) in rw e at I
    drained (suc m) s I h = go s.work refl (drained m)
      where
        go : (vs : List ℕ) → s.work ≡ vs → ((t : State) → Taking t.owner t.work [] → zeros t.owner + length t.work ≤ m → Taking (drain (uses w) m w a t).owner [] [])
            → Taking (pop (λ v t. drain (uses w) m w a (foldl (follow_use w a v) t (uses w v))) vs s).owner [] []
        go [] e f = rw e at I
        go (u ∷ vs) e f =
            let t : State = record { owner = s.owner; marks = s.marks; work = vs } in
            let P = uses_step (I.works u (rw e (Memᴰ.head refl))) (uses w u) t (popped I e) (λ x k. (k, small u x k)) in
            f (foldl (follow_use w a u) t (uses w u)) (followed P (λ y k. k)) (omega (arith, P.cost, ap length e))

-- ---- the definition's side

length_give : (o vs : List ℕ) (a : ℕ) → length (give o vs a) ≡ length o
length_give o [] a = refl
length_give o (v ∷ vs) a = length_give (set o v (suc a)) vs a ∙ length-set o v (suc a)

give_keeps : (o vs : List ℕ) (a x : ℕ) → x < length o → get_or o x 0 ≡ suc a → get_or (give o vs a) x 0 ≡ suc a
give_keeps o [] a x h e = e
give_keeps o (v ∷ vs) a x h e = give_keeps (set o v (suc a)) vs a x (rw length-set h) (go (ℕ_discrete x v))
  where
    go : Dec (x ≡ v) → get_or (set o v (suc a)) x 0 ≡ suc a
    go (yes q) = let l : v < length o = rw q at h in rw q (get_or-set_same o v (suc a) 0 l)
    go (no q) = get_or-set_other o v x (suc a) 0 q ∙ e

give_in : {x : ℕ} (o : List ℕ) {vs : List ℕ} (a : ℕ) → x < length o → x ∈ vs → get_or (give o vs a) x 0 ≡ suc a
give_in {x} o a h (Memᴰ.head {x = v} {xs = vs} q) = let l : v < length o = rw q at h in give_keeps (set o v (suc a)) vs a x (rw length-set h) (rw q (get_or-set_same o v (suc a) 0 l))
give_in {x} o a h (Memᴰ.tail {x = v} m) = give_in (set o v (suc a)) a (rw length-set h) m

give_out : (o vs : List ℕ) (a x : ℕ) → ¬ (x ∈ vs) → get_or (give o vs a) x 0 ≡ get_or o x 0
give_out o [] a x n = refl
give_out o (v ∷ vs) a x n = give_out (set o v (suc a)) vs a x (λ m. n (Memᴰ.tail m)) ∙ get_or-set_other o v x (suc a) 0 (λ q. n (Memᴰ.head q))

-- ---- both

module _ (w : List ℕ) (good : WellFormed w) where
  module _ (a : ℕ) (less : a < length (allocs w)) (o : List ℕ) (size : length o ≡ locals w) where
    abbrev v : ℕ
    v = base w (alloc_at w a)

    pub reached_onward : (x : ℕ) → has (spread w (unowned w o) v) x ≡ true → Onward w o v x
    reached_onward = spread_sound (unowned w o) w v (Onward w o v) (itself refl) (λ s h x m.
        let p = keep_out (λ (x : ℕ). eqb (get_or o x 0) 0) (next_of w s) m in
        let q = bind_out (next w) (members s) p.0 in
        onwards (h q.0 (members_out s q.1)) q.2 (eqb-true (get_or o x 0) 0 p.1))

    pub onward_reached : {x : ℕ} → Onward w o v x → has (spread w (unowned w o) v) x ≡ true
    onward_reached {x} (itself q) = spread_base (unowned w o) w v q (base_less w good a less)
    onward_reached {x} (onwards {u} f m z) =
        spread_step (unowned w o) w v
        (keep_mem (λ (x : ℕ). eqb (get_or o x 0) 0) (bind_mem (next w) (members_in (spread w (unowned w o) v) u (onward_reached f)) m) (eq-eqb (get_or o x 0) 0 z))
        (next_less w good u x m)

    -- a turn of the definition gives an owner to what is to be taken
    pub turn_takes : {u x : ℕ} → Onward w o v u → x ∈ next w u → get_or (link w o a) x 0 ≡ suc a
    turn_takes {u} {x} f m = give_in o a (rw size (next_less w good u x m)) (bind_mem (next w) (members_in (spread w (unowned w o) v) u (onward_reached f)) m)

    -- and to nothing else
    pub turn_gives : (x : ℕ) → (get_or (link w o a) x 0 ≡ get_or o x 0) ⊎ ((get_or (link w o a) x 0 ≡ suc a) × Taken w o v x)
    turn_gives x = go (bool_or (mem x taken))
      where
        reached : Set
        reached = spread w (unowned w o) v

        taken : List ℕ
        taken = next_of w reached

        go : (mem x taken ≡ true) ⊎ (mem x taken ≡ false) → (get_or (link w o a) x 0 ≡ get_or o x 0) ⊎ ((get_or (link w o a) x 0 ≡ suc a) × Taken w o v x)
        go (inl t) =
            let q = bind_out (next w) (members reached) (mem_in x taken t) in
            let k : Taken w o v x = record { by = q.0; onward = reached_onward q.0 (members_out reached q.1); carries = q.2 } in
            inr (turn_takes k.onward k.carries, k)
        go (inr t) = inl (give_out o taken a x (λ m. none (mem x taken) (in_mem x m) t))

    -- a turn begins with the base
    pub first : Taking w o v a o (v ∷ []) []
    first = record { size = size; from = λ x. inl refl; works = λ x m. itself (Memᴰ.eq_of_singleton m); done = λ x k. begin x k }
      where
        begin : (x : ℕ) → (x ≡ v) ⊎ ((get_or o x 0 ≡ 0) × (get_or o x 0 ≡ suc a)) → (x ∈ (v ∷ [])) ⊎ ((x ∈ []) ⊎ ((y : ℕ) → y ∈ next w x → get_or o y 0 ≡ suc a))
        begin x (inl q) = inl (Memᴰ.head q)
        begin x (inr q) = absurd (omega arith)

    -- once nothing is left, the owners are those that one turn of the definition gives
    pub turned : {after : List ℕ} → Taking w o v a after [] [] → after ≡ link w o a
    turned {after} I = ext_get_or 0 after (link w o a) (I.size ∙ sym (length_give o (next_of w (spread w (unowned w o) v)) a ∙ size)) (λ x h. each x (I.from x) (turn_gives x))
      where
        each : (x : ℕ) → (get_or after x 0 ≡ get_or o x 0) ⊎ ((get_or after x 0 ≡ suc a) × Taken w o v x) → (get_or (link w o a) x 0 ≡ get_or o x 0) ⊎ ((get_or (link w o a) x 0 ≡ suc a) × Taken w o v x)
            → get_or after x 0 ≡ get_or (link w o a) x 0
        each x (inl e) (inl g) = e ∙ sym g
        each x (inl e) (inr g) = ended_done w o v a I g.1.onward x g.1.carries ∙ sym g.0
        each x (inr e) g = e.0 ∙ sym (turn_takes e.1.onward e.1.carries)

    -- one turn of the source
    turn : (marks : Set) (work : List ℕ) → (propagate (uses w) w (record { owner = o; marks = marks; work = work }) a).owner ≡ link w o a
    turn marks work = turned (drained w o v a (next_less w good) (suc (locals w)) (record { owner = o; marks = marks; work = v ∷ [] }) first (omega (arith, zeros_most o)))

  pub link_length : (a : ℕ) (o : List ℕ) → length (link w o a) ≡ length o
  link_length a o = length_give o (next_of w (spread w (unowned w o) (base w (alloc_at w a)))) a

  turns : (k m : ℕ) (s : State) → length s.owner ≡ locals w → k + m ≡ length (allocs w) → (foldl (propagate (uses w) w) s (count k m)).owner ≡ foldl (link w) s.owner (count k m)
  turns k zero s size h = refl
  turns k (suc m) s size h =
      let e : (propagate (uses w) w s k).owner ≡ link w s.owner k = turn k (omega arith) s.owner size s.marks s.work in
      turns (suc k) m (propagate (uses w) w s k) (ap length e ∙ link_length k s.owner ∙ size) (omega arith)
      ∙ ap (λ (o : List ℕ). foldl (link w) o (count (suc k) m)) e

  -- the source's owners are the owners
  pub source_owners : (source_state w).owner ≡ owners w
  source_owners = ap (λ (s : State). s.owner) (after_same w good (length (allocs w))) ∙ turns 0 (length (allocs w)) (start w) (start_length w) (omega arith)
