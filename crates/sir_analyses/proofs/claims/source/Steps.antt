-- What linking one local does to owners and marks: each step keeps an invariant.
use mathlib.Core.Path.{◌≡◌, refl, sym, ◌∙◌, ap}
use mathlib.Core.Logic.{◌⊎◌, inl, inr}
use mathlib.Core.Bool.{Bool, true, false, ◌&&◌, ◌||◌, cond}
use Prim.Native.Nat.{ℕ, zero, suc, ◌+◌, ◌-◌, ◌≤◌, ◌<◌}
use native.Mathlib.Omega.{arith}
use native.Mathlib.Decide.{ℕ_discrete, dec_lt}
use mathlib.Core.List.Memᴰ
use mathlib.Core.List.{List, [], ◌∷◌, map}
use lib.ListN.{length, get_or, set, replicate, length-set, length-replicate, get_or-eq_default}
use lib.Seq.{get_or-set_same, get_or-set_other}
use lib.Dec.{eqb}
use borrow.Author.Tests.{eqb-true, eqb-false, eq-eqb, ne_eqb}
use Rattle.plank_core.specs.Lists.{foldl, upto, ◌∈◌}
use Rattle.sir_data.specs.Records.{locals, control, inputs, successors, code, outs}
use Rattle.sir_data.specs.Codes.{derives}
use Rattle.sir_analyses.specs.Liveness.{Use, Set, has, add_all}
use Rattle.sir_analyses.specs.Allocation.{allocs, alloc_at, base, bases, carried, next, escapes_by, escapes_at, returned_at}
use Rattle.sir_analyses.specs.inner.Discovery.{zeros}
use Rattle.sir_analyses.specs.Propagation.{State, link_local, mark}
use Rattle.sir_analyses.specs.Source.{follow_operation, follow_output, follow_use}
use Rattle.sir_analyses.specs.Claims.{Reached}
use Rattle.sir_analyses.proofs.SetLaws.{length_add_all, add_keeps, add_in, add_out}
use Rattle.sir_analyses.proofs.Accepted.{returns_last}

-- ---- owners that are not yet given

pub zeros_most : (xs : List ℕ) → zeros xs ≤ length xs
unfolding zeros
zeros_most [] = omega arith
zeros_most (zero ∷ xs) = omega (arith, zeros_most xs)
zeros_most (suc x ∷ xs) = omega (arith, zeros_most xs)

pub zeros_fewer : (xs : List ℕ) (v a : ℕ) → v < length xs → get_or xs v 0 ≡ 0 → suc (zeros (set xs v (suc a))) ≤ zeros xs
unfolding zeros
zeros_fewer [] v a h e = absurd (omega arith)
zeros_fewer (zero ∷ xs) zero a h e = omega arith
zeros_fewer (suc x ∷ xs) zero a h e = absurd (omega arith)
zeros_fewer (zero ∷ xs) (suc v) a h e = omega (arith, zeros_fewer xs v a (omega arith) e)
zeros_fewer (suc x ∷ xs) (suc v) a h e = zeros_fewer xs v a (omega arith) e

pub zeros_no_more : (xs : List ℕ) (v a : ℕ) → zeros (set xs v (suc a)) ≤ zeros xs
unfolding zeros
zeros_no_more [] v a = omega arith
zeros_no_more (zero ∷ xs) zero a = omega arith
zeros_no_more (suc x ∷ xs) zero a = omega arith
zeros_no_more (zero ∷ xs) (suc v) a = omega (arith, zeros_no_more xs v a)
zeros_no_more (suc x ∷ xs) (suc v) a = zeros_no_more xs v a

-- each of a list of numbers k is set at f k
module _ (f : ℕ → ℕ) where
  abbrev give_base : List ℕ → ℕ → List ℕ
  give_base owner a = set owner (f a) (suc a)

  bases_length : (owner ks : List ℕ) → length (foldl give_base owner ks) ≡ length owner
  bases_length owner [] = refl
  bases_length owner (k ∷ ks) = bases_length (give_base owner k) ks ∙ length-set owner (f k) (suc k)

  pub bases_out : (x c : ℕ) (owner ks : List ℕ) → get_or (foldl give_base owner ks) x 0 ≡ suc c → (get_or owner x 0 ≡ suc c) ⊎ ((c ∈ ks) × (x ≡ f c))
  bases_out x c owner [] e = inl e
  bases_out x c owner (k ∷ ks) e = go (bases_out x c (give_base owner k) ks e) (ℕ_discrete x (f k)) (dec_lt x (length owner))
    where
      go : (get_or (give_base owner k) x 0 ≡ suc c) ⊎ ((c ∈ ks) × (x ≡ f c)) → Dec (x ≡ f k) → Dec (x < length owner) → (get_or owner x 0 ≡ suc c) ⊎ ((c ∈ (k ∷ ks)) × (x ≡ f c))
      go (inr h) d l = inr (Memᴰ.tail h.0, h.1)
      go (inl h) (yes q) (yes l) =
          let z : get_or (give_base owner k) x 0 ≡ suc k = rw q (get_or-set_same owner (f k) (suc k) 0 (rw q at l)) in
          let y : c ≡ k = omega arith in
          inr (Memᴰ.head y, q ∙ ap f (sym y))
      go (inl h) (yes q) (no l) =
          let z : get_or (give_base owner k) x 0 ≡ 0 = get_or-eq_default (give_base owner k) 0 {n = x} (omega (arith, length-set owner (f k) (suc k))) in
          absurd (omega arith)
      go (inl h) (no q) l = inl (sym (get_or-set_other owner (f k) x (suc k) 0 q) ∙ h)

  bases_keep : (k : ℕ) (owner ks : List ℕ) → ((j : ℕ) → j ∈ ks → f j ≡ f k → j ≡ k) → f k < length owner → get_or owner (f k) 0 ≡ suc k → get_or (foldl give_base owner ks) (f k) 0 ≡ suc k
  bases_keep k owner [] d l e = e
  bases_keep k owner (j ∷ ks) d l e = bases_keep k (give_base owner j) ks (λ i m. d i (Memᴰ.tail m)) (rw length-set l) (go (ℕ_discrete (f k) (f j)))
    where
      go : Dec (f k ≡ f j) → get_or (give_base owner j) (f k) 0 ≡ suc k
      go (yes q) =
          let z : get_or (set owner (f k) (suc j)) (f k) 0 ≡ suc j = get_or-set_same owner (f k) (suc j) 0 l in
          let y : j ≡ k = d j (Memᴰ.head refl) (sym q) in
          rw (← q) (z ∙ ap suc y)
      go (no q) = get_or-set_other owner (f j) (f k) (suc j) 0 q ∙ e

  pub bases_in : {k : ℕ} (owner : List ℕ) {ks : List ℕ} → k ∈ ks → ((j : ℕ) → j ∈ ks → f j ≡ f k → j ≡ k) → f k < length owner → get_or (foldl give_base owner ks) (f k) 0 ≡ suc k
  bases_in {k} owner (Memᴰ.head {x = j} {xs = ks} e) d l =
      let z : get_or (give_base owner j) (f k) 0 ≡ suc k = rw e (get_or-set_same owner (f j) (suc j) 0 (rw e at l)) in
      bases_keep k (give_base owner j) ks (λ i m. d i (Memᴰ.tail m)) (rw length-set l) z
  bases_in {k} owner (Memᴰ.tail {x = j} {xs = ks} m) d l = bases_in (give_base owner j) m (λ i m. d i (Memᴰ.tail m)) (rw length-set l)

-- ---- one use

-- xs, what a use carries, are linked, and where the use marks the allocation is marked
abbrev pub follow : List ℕ → Bool → ℕ → State → State
follow xs marking a s = let t = foldl (link_local a) s xs in cond marking (mark a t) t

-- does this use of v mark?
abbrev pub marks_at : List ℕ → ℕ → Use → Bool
marks_at w v u = escapes_at w v u || returned_at w u

-- the source links what a use carries, and then marks
pub follow_use_lem : (w : List ℕ) (a v : ℕ) (s : State) (u : Use) → follow_use w a v s u ≡ follow (carried w u) (marks_at w v u) a s
follow_use_lem w a v s u = go (eqb u.kind 0) refl (eqb u.kind 2) refl
  where
    operation : (d e : Bool) → cond e (mark a (cond d (foldl (link_local a) s (outs w u.place)) s)) (cond d (foldl (link_local a) s (outs w u.place)) s) ≡ follow (cond d (outs w u.place) []) (e || false) a s
    operation true true = refl
    operation true false = refl
    operation false true = refl
    operation false false = refl

    places : List ℕ → List ℕ
    places bs = map (λ c. get_or (inputs w c) u.place 0) bs

    output : (t : Bool) → eqb (control w u.block) 1 ≡ t → cond t (mark a s) (foldl (link_local a) s (places (successors w u.block))) ≡ follow (places (successors w u.block)) t a s
    output true e = rw (returns_last w u.block e)
    output false e = refl

    go : (t : Bool) → eqb u.kind 0 ≡ t → (k : Bool) → eqb u.kind 2 ≡ k
        → cond t (follow_operation w a v u.place s) (cond k (follow_output w a u.block u.place s) s)
        ≡ follow (cond t (cond (derives (code w u.place)) (outs w u.place) []) (cond k (places (successors w u.block)) [])) ((t && escapes_by w u.place v) || (k && eqb (control w u.block) 1)) a s
    go true p true q = absurd (omega (arith, eqb-true u.kind 0 p, eqb-true u.kind 2 q))
    go true p false q = operation (derives (code w u.place)) (escapes_by w u.place v)
    go false p true q = output (eqb (control w u.block) 1) refl
    go false p false q = refl

-- ---- the invariant

-- one and the same allocation, or both are marked
pub data Meets (marks : Set) (c e : ℕ) : Type 0 where
  same : c ≡ e → Meets marks c e
  each : has marks c ≡ true → has marks e ≡ true → Meets marks c e

-- y was first had by d, or by one that meets d
pub record Joined (root : ℕ → ℕ) (marks : Set) (d y : ℕ) : Type 0 where
  pub one : ℕ
  pub is_root : root y ≡ suc one
  pub meets : Meets marks one d

meets_grow : {marks marks' : Set} {c e : ℕ} → ((d : ℕ) → has marks d ≡ true → has marks' d ≡ true) → Meets marks c e → Meets marks' c e
meets_grow f (same q) = same q
meets_grow {c = c} {e = e} f (each p q) = each (f c p) (f e q)

pub meets_trans : {marks : Set} {b c d : ℕ} → Meets marks b c → Meets marks c d → Meets marks b d
meets_trans {marks} (same p) (same q) = same (p ∙ q)
meets_trans {marks} (same p) (each q r) = each (rw p q) r
meets_trans {marks} (each p q) (same r) = each p (rw r at q)
meets_trans {marks} (each p q) (each r t) = each p t

pub joined_grow : {root root' : ℕ → ℕ} {marks marks' : Set} {d y : ℕ} → ((x d : ℕ) → root x ≡ suc d → root' x ≡ suc d) → ((d : ℕ) → has marks d ≡ true → has marks' d ≡ true) → Joined root marks d y → Joined root' marks' d y
joined_grow {y = y} f g j = record { one = j.one; is_root = f y j.one j.is_root; meets = meets_grow g j.meets }

-- base of allocation a
abbrev pub base_of : List ℕ → ℕ → ℕ
base_of w a = base w (alloc_at w a)

pub start_length : (w : List ℕ) → length (bases w) ≡ locals w
start_length w = bases_length (base_of w) (replicate (locals w) 0) (upto (length (allocs w))) ∙ length-replicate (locals w) 0

-- `harms` tells which locals mark whoever reaches them
module _ (w : List ℕ) (harms : ℕ → Bool) where
  abbrev n : ℕ
  n = length (allocs w)

  -- allocation a reaches a local that harms, or one that another allocation reaches too
  pub data MarkedBy (a : ℕ) : Type 0 where
    harmed : {v : ℕ} → Reached w a v → harms v ≡ true → MarkedBy a
    met : {v b : ℕ} → Reached w a v → b < n → ¬ (a ≡ b) → Reached w b v → MarkedBy a

  -- all that x carries is joined to d, and where x harms d is marked
  pub record Done (root : ℕ → ℕ) (marks : Set) (x d : ℕ) : Type 0 where
    pub links : (y : ℕ) → y ∈ next w x → Joined root marks d y
    pub marks_it : harms x ≡ true → has marks d ≡ true

  -- allocation a is being followed; `root` is the first owner of each local; `more` are the locals whose turn comes later
  pub record Inv (a : ℕ) (s : State) (more : List ℕ) : Type 0 where
    pub root : ℕ → ℕ
    pub owner_length : length s.owner ≡ locals w
    pub marks_length : length s.marks ≡ n
    pub unowned : (x : ℕ) → get_or s.owner x 0 ≡ 0 → root x ≡ 0
    pub owned : (x c : ℕ) → get_or s.owner x 0 ≡ suc c → Joined root s.marks c x × Reached w c x × (c < n)
    pub bases_kept : (k : ℕ) → k < n → root (base_of w k) ≡ suc k
    pub done : (x d : ℕ) → root x ≡ suc d → (x ∈ s.work) ⊎ ((x ∈ more) ⊎ Done root s.marks x d)
    pub sound : (d : ℕ) → has s.marks d ≡ true → MarkedBy d
    pub mine : (x : ℕ) → x ∈ s.work → (root x ≡ suc a) × Reached w a x

  pub record Grown {a : ℕ} {s : State} {more : List ℕ} (I : Inv a s more) (s' : State) : Type 0 where
    pub inv : Inv a s' more
    pub roots : (x d : ℕ) → I.root x ≡ suc d → inv.root x ≡ suc d
    pub marked_still : (d : ℕ) → has s.marks d ≡ true → has s'.marks d ≡ true
    pub cost : zeros s'.owner + length s'.work ≤ zeros s.owner + length s.work

  done_grow : {root root' : ℕ → ℕ} {marks marks' : Set} {x d : ℕ} → ((x d : ℕ) → root x ≡ suc d → root' x ≡ suc d) → ((d : ℕ) → has marks d ≡ true → has marks' d ≡ true) → Done root marks x d → Done root' marks' x d
  done_grow {d = d} f g D = record { links = λ y m. joined_grow f g (D.links y m); marks_it = λ t. g d (D.marks_it t) }

  abbrev pub grown_trans : {a : ℕ} {s s' s'' : State} {more : List ℕ} {I : Inv a s more} (G : Grown I s') → Grown G.inv s'' → Grown I s''
  grown_trans G H = record {
    inv = H.inv;
    roots = λ x d e. H.roots x d (G.roots x d e);
    marked_still = λ d t. H.marked_still d (G.marked_still d t);
    cost = omega (arith, G.cost, H.cost);
  }

  abbrev pub grown_refl : {a : ℕ} {s : State} {more : List ℕ} (I : Inv a s more) → Grown I s
  grown_refl I = record { inv = I; roots = λ x d e. e; marked_still = λ d t. t; cost = omega arith }

  -- marks are added
  pub remark : {a : ℕ} {s : State} {more : List ℕ} (I : Inv a s more) (vs : List ℕ) → ((d : ℕ) → d ∈ vs → MarkedBy d) → Grown I (record { owner = s.owner; marks = add_all s.marks vs; work = s.work })
  remark {a} {s} {more} I vs f = record {
    inv = record {
      root = I.root;
      owner_length = I.owner_length;
      marks_length = length_add_all s.marks vs ∙ I.marks_length;
      unowned = I.unowned;
      owned = λ x c e. let h = I.owned x c e in (joined_grow (λ x d e. e) still h.0, h.1, h.2);
      bases_kept = I.bases_kept;
      done = λ x d e. pending x d (I.done x d e);
      sound = λ d t. sounds d (add_out s.marks vs t);
      mine = I.mine;
    };
    roots = λ x d e. e;
    marked_still = still;
    cost = omega arith;
  }
    where
      still : (d : ℕ) → has s.marks d ≡ true → has (add_all s.marks vs) d ≡ true
      still d t = add_keeps s.marks vs d t

      pending : (x d : ℕ) → (x ∈ s.work) ⊎ ((x ∈ more) ⊎ Done I.root s.marks x d) → (x ∈ s.work) ⊎ ((x ∈ more) ⊎ Done I.root (add_all s.marks vs) x d)
      pending x d (inl h) = inl h
      pending x d (inr (inl h)) = inr (inl h)
      pending x d (inr (inr h)) = inr (inr (done_grow (λ x d e. e) still h))

      sounds : (d : ℕ) → (has s.marks d ≡ true) ⊎ (d ∈ vs) → MarkedBy d
      sounds d (inl t) = I.sound d t
      sounds d (inr m) = f d m

  owner_now : {a : ℕ} {s : State} {more : List ℕ} (I : Inv a s more) {v : ℕ} → v < locals w → (x : ℕ) → x ≡ v → get_or (set s.owner v (suc a)) x 0 ≡ suc a
  owner_now {a} {s} I {v} small x q = rw q (get_or-set_same s.owner v (suc a) 0 (omega (arith, I.owner_length)))

  -- an owner is replaced
  reown : {a : ℕ} {s : State} {more : List ℕ} (I : Inv a s more) (v : ℕ) → a < n → v < locals w → Reached w a v → Joined I.root s.marks a v → Grown I (record { owner = set s.owner v (suc a); marks = s.marks; work = s.work })
  reown {a} {s} {more} I v less small r j = record {
    inv = record {
      root = I.root;
      owner_length = length-set s.owner v (suc a) ∙ I.owner_length;
      marks_length = I.marks_length;
      unowned = λ x e. free x e (ℕ_discrete x v);
      owned = λ x c e. had x c e (ℕ_discrete x v);
      bases_kept = I.bases_kept;
      done = I.done;
      sound = I.sound;
      mine = I.mine;
    };
    roots = λ x d e. e;
    marked_still = λ d t. t;
    cost = omega (arith, zeros_no_more s.owner v a);
  }
    where
      free : (x : ℕ) → get_or (set s.owner v (suc a)) x 0 ≡ 0 → Dec (x ≡ v) → I.root x ≡ 0
      free x e (yes q) = absurd (omega (arith, owner_now I small x q))
      free x e (no q) = I.unowned x (sym (get_or-set_other s.owner v x (suc a) 0 q) ∙ e)

      had : (x c : ℕ) → get_or (set s.owner v (suc a)) x 0 ≡ suc c → Dec (x ≡ v) → Joined I.root s.marks c x × Reached w c x × (c < n)
      had x c e (yes q) = let k : c ≡ a = omega (arith, owner_now I small x q) in rw (q, k) (j, r, less)
      had x c e (no q) = I.owned x c (sym (get_or-set_other s.owner v x (suc a) 0 q) ∙ e)

  -- a local that nobody had is taken
  take_new : {a : ℕ} {s : State} {more : List ℕ} (I : Inv a s more) (v : ℕ) → a < n → v < locals w → Reached w a v → get_or s.owner v 0 ≡ 0
      → (G : Grown I (record { owner = set s.owner v (suc a); marks = s.marks; work = v ∷ s.work })) × Joined G.inv.root s.marks a v
  take_new {a} {s} {more} I v less small r none = (
    record {
      inv = record {
        root = root';
        owner_length = length-set s.owner v (suc a) ∙ I.owner_length;
        marks_length = I.marks_length;
        unowned = λ x e. free x e (ℕ_discrete x v);
        owned = λ x c e. had x c e (ℕ_discrete x v);
        bases_kept = λ k h. grow (base_of w k) k (I.bases_kept k h);
        done = λ x d e. pending x d e (ℕ_discrete x v);
        sound = I.sound;
        mine = ours;
      };
      roots = grow;
      marked_still = λ d t. t;
      cost = omega (arith, zeros_fewer s.owner v a (omega (arith, I.owner_length)) none);
    },
    record { one = a; is_root = at_v v refl; meets = same refl },
  )
    where
      root' : ℕ → ℕ
      root' x = cond (eqb x v) (suc a) (I.root x)

      at_v : (x : ℕ) → x ≡ v → root' x ≡ suc a
      at_v x q = rw (eq-eqb x v q)

      elsewhere : (x : ℕ) → ¬ (x ≡ v) → root' x ≡ I.root x
      elsewhere x q = rw (ne_eqb x v q)

      grow : (x d : ℕ) → I.root x ≡ suc d → root' x ≡ suc d
      grow x d e = go (ℕ_discrete x v)
        where
          go : Dec (x ≡ v) → root' x ≡ suc d
          go (yes q) = let z : I.root x ≡ 0 = I.unowned x (rw q none) in absurd (omega arith)
          go (no q) = elsewhere x q ∙ e

      free : (x : ℕ) → get_or (set s.owner v (suc a)) x 0 ≡ 0 → Dec (x ≡ v) → root' x ≡ 0
      free x e (yes q) = absurd (omega (arith, owner_now I small x q))
      free x e (no q) = elsewhere x q ∙ I.unowned x (sym (get_or-set_other s.owner v x (suc a) 0 q) ∙ e)

      had : (x c : ℕ) → get_or (set s.owner v (suc a)) x 0 ≡ suc c → Dec (x ≡ v) → Joined root' s.marks c x × Reached w c x × (c < n)
      had x c e (yes q) =
          let k : c ≡ a = omega (arith, owner_now I small x q) in
          let j : Joined root' s.marks a x = record { one = a; is_root = at_v x q; meets = same refl } in
          rw k (j, rw q r, less)
      had x c e (no q) = let h = I.owned x c (sym (get_or-set_other s.owner v x (suc a) 0 q) ∙ e) in (joined_grow grow (λ d t. t) h.0, h.1, h.2)

      old : (x d : ℕ) → (x ∈ s.work) ⊎ ((x ∈ more) ⊎ Done I.root s.marks x d) → (x ∈ (v ∷ s.work)) ⊎ ((x ∈ more) ⊎ Done root' s.marks x d)
      old x d (inl h) = inl (Memᴰ.tail h)
      old x d (inr (inl h)) = inr (inl h)
      old x d (inr (inr h)) = inr (inr (done_grow grow (λ d t. t) h))

      pending : (x d : ℕ) → root' x ≡ suc d → Dec (x ≡ v) → (x ∈ (v ∷ s.work)) ⊎ ((x ∈ more) ⊎ Done root' s.marks x d)
      pending x d e (yes q) = inl (Memᴰ.head q)
      pending x d e (no q) = old x d (I.done x d (sym (elsewhere x q) ∙ e))

      ours : (x : ℕ) → x ∈ (v ∷ s.work) → (root' x ≡ suc a) × Reached w a x
      ours x (Memᴰ.head q) = (at_v x q, rw q r)
      ours x (Memᴰ.tail h) = let k = I.mine x h in (grow x a k.0, k.1)

  -- what one link gives
  abbrev Linked : {a : ℕ} {s : State} {more : List ℕ} → Inv a s more → ℕ → State → Type 0
  Linked {a} {s} {more} I v s' = (G : Grown I s') × Joined G.inv.root s'.marks a v

  link_step : {a : ℕ} {s : State} {more : List ℕ} (I : Inv a s more) (v : ℕ) → a < n → v < locals w → Reached w a v → Linked I v (link_local a s v)
  link_step {a} {s} {more} I v less small r = go (get_or s.owner v 0) refl (eqb (get_or s.owner v 0) 0) refl (eqb (get_or s.owner v 0) (suc a)) refl
    where
      after : Bool → Bool → ℕ → State
      after t u k =
          cond t
          (record { owner = set s.owner v (suc a); marks = s.marks; work = v ∷ s.work })
          (record { owner = set s.owner v (suc a); marks = cond u s.marks (add_all s.marks (a ∷ (k - 1) ∷ [])); work = s.work })

      other : (k c : ℕ) → k ≡ suc c → get_or s.owner v 0 ≡ k → ¬ (c ≡ a) → Linked I v (after false false k)
      other k c q e d =
          let h = I.owned v c (e ∙ q) in
          let z : c ≡ k - 1 = omega arith in
          let m : c ∈ (a ∷ (k - 1) ∷ []) = Memᴰ.tail (Memᴰ.head z) in
          let M = remark I (a ∷ (k - 1) ∷ []) (twice k c z d h.1 h.2) in
          let ma : has (add_all s.marks (a ∷ (k - 1) ∷ [])) a ≡ true = add_in {v = a} s.marks {vs = a ∷ (k - 1) ∷ []} (Memᴰ.head refl) (omega (arith, I.marks_length)) in
          let mc : has (add_all s.marks (a ∷ (k - 1) ∷ [])) c ≡ true = add_in s.marks m (omega (arith, I.marks_length, h.2)) in
          let j = joined_grow M.roots M.marked_still h.0 in
          let j' : Joined M.inv.root (add_all s.marks (a ∷ (k - 1) ∷ [])) a v = record { one = j.one; is_root = j.is_root; meets = meets_trans {b = j.one} {c = c} {d = a} j.meets (each mc ma) } in
          let G = reown M.inv v less small r j' in
          (grown_trans M G, joined_grow {root = M.inv.root} {root' = G.inv.root} G.roots G.marked_still j')
        where
          twice : (k c : ℕ) → c ≡ k - 1 → ¬ (c ≡ a) → Reached w c v → c < n → (d : ℕ) → d ∈ (a ∷ (k - 1) ∷ []) → MarkedBy d
          twice k c z d rc lc x (Memᴰ.head e) = rw e (met r lc (λ q. d (sym q)) rc)
          twice k c z d rc lc x (Memᴰ.tail (Memᴰ.head e)) = let y : x ≡ c = e ∙ sym z in rw y (met rc less d r)
          twice k c z d rc lc x (Memᴰ.tail (Memᴰ.tail m)) = absurd (Memᴰ.not-nil m)

      go : (k : ℕ) → get_or s.owner v 0 ≡ k → (t : Bool) → eqb k 0 ≡ t → (u : Bool) → eqb k (suc a) ≡ u → Linked I v (after t u k)
      go k e true f u g = take_new I v less small r (e ∙ eqb-true k 0 f)
      go k e false f true g =
          let q : get_or s.owner v 0 ≡ suc a = e ∙ eqb-true k (suc a) g in
          let j = (I.owned v a q).0 in
          let G = reown I v less small r j in
          (G, joined_grow G.roots G.marked_still j)
      go zero e false f false g = absurd (eqb-false 0 0 f refl)
      go (suc c) e false f false g = other (suc c) c refl e (λ q. eqb-false (suc c) (suc a) g (ap suc q))

  -- all links of a list
  pub fold_step : {a : ℕ} {more : List ℕ} (vs : List ℕ) (s : State) (I : Inv a s more) → a < n → ((v : ℕ) → v ∈ vs → (v < locals w) × Reached w a v)
      → (G : Grown I (foldl (link_local a) s vs)) × ((v : ℕ) → v ∈ vs → Joined G.inv.root (foldl (link_local a) s vs).marks a v)
  fold_step [] s I less f = (grown_refl I, λ v m. absurd (Memᴰ.not-nil m))
  fold_step {a} (v ∷ vs) s I less f =
      let k = f v (Memᴰ.head refl) in
      let g = link_step I v less k.0 k.1 in
      let h = fold_step vs (link_local a s v) g.0.inv less (λ x m. f x (Memᴰ.tail m)) in
      (grown_trans g.0 h.0, λ x m. go h.0.inv.root (foldl (link_local a) (link_local a s v) vs).marks (joined_grow h.0.roots h.0.marked_still g.1) (h.1 x) m)
    where
      go : {x : ℕ} (root : ℕ → ℕ) (marks : Set) → Joined root marks a v → (x ∈ vs → Joined root marks a x) → x ∈ (v ∷ vs) → Joined root marks a x
      go root marks j t (Memᴰ.head e) = rw e j
      go root marks j t (Memᴰ.tail m) = t m
