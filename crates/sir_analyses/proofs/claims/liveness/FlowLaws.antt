-- Passes that send each block's entry set to the exits of its predecessors, over any entry function that keeps lengths and
-- grows with its argument: they end at the least solution.
use mathlib.Core.Path.{◌≡◌, refl, sym, ap, subst, ◌∙◌}
use mathlib.Core.Logic.{◌≢◌, ⊎_elim}
use mathlib.Core.Bool.{Bool, true, false}
use Prim.Native.Nat.{ℕ, suc, ◌*◌, ◌<◌}
use native.Mathlib.Omega.{arith}
use mathlib.Core.List.Memᴰ
use mathlib.Core.List.{List, [], ◌∷◌, map}
use lib.ListN.{length, set, replicate, length-set, length-replicate}
use lib.Seq.{get_or-set_same, get_or-set_other}
use lib.Dec.{eqb}
use borrow.Author.Tests.{eqb-true, eqb-false}
use Rattle.plank_core.specs.Lists.{foldl, ◌∈◌}
use Rattle.plank_core.specs.laws.Lists.{none, foldl_keeps}
use Rattle.sir_analyses.specs.Liveness.{Set, has, add_all, members, row_of}
use Rattle.sir_analyses.proofs.SetLaws.{has_less, none_in, length_add_all, add_keeps, add_in, add_out, members_in, members_out, gather, length_gather, gather_in, gather_out, set_ext, Within}
use Rattle.sir_analyses.proofs.claims.liveness.RowLaws.{Under, Shape, Ended, settle_by, settle_ends, empty_row, empty_shape}

-- ---- one row changed

pub row_split : {C : Type 0} (p q : ℕ) → (q ≡ p → C) → (q ≢ p → C) → C
row_split {C} p q f g = go (eqb q p) refl
  where
    go : (t : Bool) → eqb q p ≡ t → C
    go true e = f (eqb-true q p e)
    go false e = g (eqb-false q p e)

pub row_same : (e : List Set) (p q : ℕ) (r : Set) → p < length e → q ≡ p → row_of (set e p r) q ≡ r
row_same e p q r h eq = ap (λ (x : ℕ). row_of (set e p r) x) eq ∙ get_or-set_same e p r [] h

pub row_other : (e : List Set) (p q : ℕ) (r : Set) → q ≢ p → row_of (set e p r) q ≡ row_of e q
row_other e p q r ne = get_or-set_other e p q r [] ne

-- ---- the passes

module _ (E : ℕ → Set → Set) (R : ℕ → ℕ → ℕ → ℕ) where
  -- what the entry set of b is called at the exit of p
  abbrev pub sent : ℕ → ℕ → Set → List ℕ
  sent p b entry = map (R p b) (members entry)

  abbrev pub send_to : ℕ → Set → List Set → ℕ → List Set
  send_to b entry x p = set x p (add_all (row_of x p) (sent p b entry))

  abbrev pub send : (ℕ → List ℕ) → List Set → ℕ → List Set
  send pred e b = foldl (send_to b (E b (row_of e b))) e (pred b)

  abbrev pub exit_by : ℕ → (ℕ → List ℕ) → (ℕ → Set) → ℕ → Set
  exit_by L next x p = gather (λ b. sent p b (E b (x b))) (replicate L false) (next p)

-- ---- the exits that the equations give

module _ (E : ℕ → Set → Set) (R : ℕ → ℕ → ℕ → ℕ) (L : ℕ) (next : ℕ → List ℕ) where
  pub exit_length : (x : ℕ → Set) (p : ℕ) → length (exit_by E R L next x p) ≡ L
  exit_length x p = length_gather (λ b. sent E R p b (E b (x b))) (replicate L false) (next p) ∙ length-replicate L false

  pub exit_in : (x : ℕ → Set) (p b u v : ℕ) → b ∈ next p → has (E b (x b)) u ≡ true → v ≡ R p b u → v < L → has (exit_by E R L next x p) v ≡ true
  exit_in x p b u v m t eq l =
      gather_in (λ b. sent E R p b (E b (x b))) (replicate L false) m
      (Memᴰ.cast eq (Memᴰ.map (R p b) (members_in (E b (x b)) u t)))
      (subst (λ (n : ℕ). v < n) (sym (length-replicate L false)) l)

  pub record Reason (x : ℕ → Set) (p v : ℕ) : Type 0 where
    pub to : ℕ
    pub name : ℕ
    pub to_in : to ∈ next p
    pub live : has (E to (x to)) name ≡ true
    pub called : v ≡ R p to name
    pub small : v < L

  pub exit_out : (x : ℕ → Set) (p v : ℕ) → has (exit_by E R L next x p) v ≡ true → Reason x p v
  exit_out x p v t =
      ⊎_elim (λ (a : has (replicate L false) v ≡ true). none (has (replicate L false) v) a (none_in L v))
      (λ (r : (b : ℕ) × (b ∈ next p) × (v ∈ sent E R p b (E b (x b)))).
      let i = Memᴰ.of_map (R p r.0) (members (E r.0 (x r.0))) r.2 in
      record {
        to = r.0;
        name = i.0;
        to_in = r.1;
        live = members_out (E r.0 (x r.0)) i.1;
        called = sym i.2;
        small = subst (λ (n : ℕ). v < n) (exit_length x p) (has_less (exit_by E R L next x p) v t);
      })
      (gather_out (λ b. sent E R p b (E b (x b))) (replicate L false) (next p) v t)

-- what the passes need
pub record Flow (B L : ℕ) (order : List ℕ) (next pred : ℕ → List ℕ) (E : ℕ → Set → Set) : Type 0 where
  pub below : (b : ℕ) → b ∈ order → b < B
  pub next_in : (p b : ℕ) → p ∈ order → b ∈ next p → b ∈ order
  pub pred_in : (p b : ℕ) → p ∈ order → b ∈ next p → p ∈ pred b
  pub pred_out : (p b : ℕ) → p ∈ pred b → (p ∈ order) × (b ∈ next p)
  pub entry_length : (b : ℕ) (x : Set) → length (E b x) ≡ length x
  pub entry_grows : (b : ℕ) (x y : Set) → length x ≡ length y → Within x y → Within (E b x) (E b y)

module _ (B L : ℕ) (order : List ℕ) (next pred : ℕ → List ℕ) (E : ℕ → Set → Set) (R : ℕ → ℕ → ℕ → ℕ) (F : Flow B L order next pred E) where
  row_length : (e : List Set) (b : ℕ) → Shape B L e → b ∈ order → length (row_of e b) ≡ L
  row_length e b s m = s.wide b (subst (λ (n : ℕ). b < n) (sym s.tall) (F.below b m))

  low : (e : List Set) (b : ℕ) → Shape B L e → b ∈ order → b < length e
  low e b s m = subst (λ (n : ℕ). b < n) (sym s.tall) (F.below b m)

  -- ---- a pass only adds

  record From (e₀ e : List Set) : Type 0 where
    shape : Shape B L e
    grown : Under e₀ e

  send_to_shape : (b : ℕ) (entry : Set) (e : List Set) (p : ℕ) → p ∈ order → Shape B L e → Shape B L (send_to E R b entry e p)
  send_to_shape b entry e p m s = record {
    tall = length-set e p (add_all (row_of e p) (sent E R p b entry)) ∙ s.tall;
    wide = λ q h.
        let k : q < length e = rw length-set at h in
        let r = add_all (row_of e p) (sent E R p b entry) in
        row_split {C = length (row_of (set e p r) q) ≡ L} p q
        (λ eq. ap length (row_same e p q r (low e p s m) eq) ∙ length_add_all (row_of e p) (sent E R p b entry) ∙ row_length e p s m)
        (λ ne. ap length (row_other e p q r ne) ∙ s.wide q k);
  }

  send_to_grows : (b : ℕ) (entry : Set) (e : List Set) (p : ℕ) → p ∈ order → Shape B L e → Under e (send_to E R b entry e p)
  send_to_grows b entry e p m s q v t =
      let r = add_all (row_of e p) (sent E R p b entry) in
      row_split {C = has (row_of (set e p r) q) v ≡ true} p q
      (λ eq. subst (λ (x : Set). has x v ≡ true) (sym (row_same e p q r (low e p s m) eq)) (add_keeps (row_of e p) (sent E R p b entry) v (subst (λ (x : ℕ). has (row_of e x) v ≡ true) eq t)))
      (λ ne. subst (λ (x : Set). has x v ≡ true) (sym (row_other e p q r ne)) t)

  send_to_from : (b : ℕ) (entry : Set) (e₀ e : List Set) (p : ℕ) → p ∈ order → From e₀ e → From e₀ (send_to E R b entry e p)
  send_to_from b entry e₀ e p m f = record {
    shape = send_to_shape b entry e p m f.shape;
    grown = λ q v t. send_to_grows b entry e p m f.shape q v (f.grown q v t);
  }

  from_self : (e : List Set) → Shape B L e → From e e
  from_self e s = record { shape = s; grown = λ q v t. t }

  sends_from : (b : ℕ) (entry : Set) (ps : List ℕ) → ((p : ℕ) → p ∈ ps → p ∈ order) → (e : List Set) → Shape B L e → From e (foldl (send_to E R b entry) e ps)
  sends_from b entry ps h e s = foldl_keeps (From e) (send_to E R b entry) ps (λ c p m f. send_to_from b entry e c p (h p m) f) e (from_self e s)

  send_from : (e : List Set) (b : ℕ) → Shape B L e → From e (send E R pred e b)
  send_from e b s = sends_from b (E b (row_of e b)) (pred b) (λ p m. (F.pred_out p b m).0) e s

  pass_from : (bs : List ℕ) (e : List Set) → Shape B L e → From e (foldl (send E R pred) e bs)
  pass_from bs e s =
      foldl_keeps (From e) (send E R pred) bs
      (λ c b m f. let g = send_from c b f.shape in record { shape = g.shape; grown = λ q v t. g.grown q v (f.grown q v t) })
      e (from_self e s)

  -- ---- a pass sends each member

  sends_new : (b : ℕ) (entry : Set) (ps : List ℕ) → ((p : ℕ) → p ∈ ps → p ∈ order) → (e : List Set) → Shape B L e
      → (p v : ℕ) → p ∈ ps → v ∈ sent E R p b entry → v < L → has (row_of (foldl (send_to E R b entry) e ps) p) v ≡ true
  sends_new b entry [] h e s p v m n l = absurd (Memᴰ.not-nil m)
  sends_new b entry (q ∷ ps) h e s p v m n l =
      let mq = h q (Memᴰ.head refl) in
      let s' = send_to_shape b entry e q mq s in
      let h' : (p : ℕ) → p ∈ ps → p ∈ order = λ p k. h p (Memᴰ.tail k) in
      ⊎_elim (λ (eq : p ≡ q).
      let r = add_all (row_of e q) (sent E R q b entry) in
      let a : has r v ≡ true = add_in (row_of e q) (subst (λ (x : ℕ). v ∈ sent E R x b entry) eq n) (subst (λ (x : ℕ). v < x) (sym (row_length e q s mq)) l) in
      (sends_from b entry ps h' (send_to E R b entry e q) s').grown p v
      (subst (λ (x : Set). has x v ≡ true) (sym (row_same e q p r (low e q s mq) eq)) a))
      (λ (k : p ∈ ps). sends_new b entry ps h' (send_to E R b entry e q) s' p v k n l) (Memᴰ.cases_cons m)

  pass_new : (bs : List ℕ) (e : List Set) → Shape B L e → (p b u : ℕ) → b ∈ bs → p ∈ order → b ∈ next p
      → has (E b (row_of e b)) u ≡ true → R p b u < L → has (row_of (foldl (send E R pred) e bs) p) (R p b u) ≡ true
  pass_new [] e s p b u m mp mb t l = absurd (Memᴰ.not-nil m)
  pass_new (c ∷ bs) e s p b u m mp mb t l =
      let f = send_from e c s in
      let mo = F.next_in p b mp mb in
      ⊎_elim (λ (eq : b ≡ c).
      let t' : has (E c (row_of e c)) u ≡ true = subst (λ (x : ℕ). has (E x (row_of e x)) u ≡ true) eq t in
      let i : R p b u ∈ sent E R p c (E c (row_of e c)) = subst (λ (x : ℕ). R p x u ∈ sent E R p c (E c (row_of e c))) (sym eq) (Memᴰ.map (R p c) (members_in (E c (row_of e c)) u t')) in
      (pass_from bs (send E R pred e c) f.shape).grown p (R p b u)
      (sends_new c (E c (row_of e c)) (pred c) (λ q k. (F.pred_out q c k).0) e s p (R p b u) (F.pred_in p c mp (subst (λ (x : ℕ). x ∈ next p) eq mb)) i l))
      (λ (k : b ∈ bs).
      pass_new bs (send E R pred e c) f.shape p b u k mp mb
      (F.entry_grows b (row_of e b) (row_of (send E R pred e c) b) (row_length e b s mo ∙ sym (row_length (send E R pred e c) b f.shape mo)) (f.grown b) u t) l)
      (Memᴰ.cases_cons m)

  -- exit sets of the right length, within which the equations stay
  pub record Closed (y : ℕ → Set) : Type 0 where
    pub sized : (b : ℕ) → b ∈ order → length (y b) ≡ L
    pub closed : (p : ℕ) → p ∈ order → Within (exit_by E R L next y p) (y p)

  exit_grows : (x y : ℕ → Set) → ((b : ℕ) → b ∈ order → length (x b) ≡ length (y b)) → ((b : ℕ) → b ∈ order → Within (x b) (y b))
      → (p : ℕ) → p ∈ order → Within (exit_by E R L next x p) (exit_by E R L next y p)
  exit_grows x y l h p m v t =
      let r = exit_out E R L next x p v t in
      let mo = F.next_in p r.to m r.to_in in
      exit_in E R L next y p r.to r.name v r.to_in (F.entry_grows r.to (x r.to) (y r.to) (l r.to mo) (h r.to mo) r.name r.live) r.called r.small

  -- ---- a pass stays within every closed family

  pub record Inside (y : ℕ → Set) (e : List Set) : Type 0 where
    pub shape : Shape B L e
    pub inside : (b : ℕ) → b ∈ order → Within (row_of e b) (y b)

  send_to_inside : (y : ℕ → Set) → Closed y → (b : ℕ) (entry : Set) → Within entry (E b (y b)) → (e : List Set) (p : ℕ) → p ∈ order → b ∈ next p
      → Inside y e → Inside y (send_to E R b entry e p)
  send_to_inside y c b entry h e p m n i = record {
    shape = send_to_shape b entry e p m i.shape;
    inside = λ q mq v t.
        let r = add_all (row_of e p) (sent E R p b entry) in
        let into : has r v ≡ true → has (y p) v ≡ true = λ a.
        ⊎_elim (λ (o : has (row_of e p) v ≡ true). i.inside p m v o)
        (λ (k : v ∈ sent E R p b entry).
        let g = Memᴰ.of_map (R p b) (members entry) k in
        let l : v < L = subst (λ (n : ℕ). v < n) (length_add_all (row_of e p) (sent E R p b entry) ∙ row_length e p i.shape m) (has_less r v a) in
        c.closed p m v (exit_in E R L next y p b g.0 v n (h g.0 (members_out entry g.1)) (sym g.2) l))
        (add_out (row_of e p) (sent E R p b entry) a)
        in
        row_split {C = has (y q) v ≡ true} p q
        (λ eq. subst (λ (x : ℕ). has (y x) v ≡ true) (sym eq) (into (subst (λ (x : Set). has x v ≡ true) (row_same e p q r (low e p i.shape m) eq) t)))
        (λ ne. i.inside q mq v (subst (λ (x : Set). has x v ≡ true) (row_other e p q r ne) t));
  }

  send_inside : (y : ℕ → Set) → Closed y → (e : List Set) (b : ℕ) → b ∈ order → Inside y e → Inside y (send E R pred e b)
  send_inside y c e b m i =
      foldl_keeps (Inside y) (send_to E R b (E b (row_of e b))) (pred b)
      (λ d p k j.
      send_to_inside y c b (E b (row_of e b))
      (F.entry_grows b (row_of e b) (y b) (row_length e b i.shape m ∙ sym (c.sized b m)) (i.inside b m))
      d p (F.pred_out p b k).0 (F.pred_out p b k).1 j)
      e i

  pass_inside : (y : ℕ → Set) → Closed y → (bs : List ℕ) → ((b : ℕ) → b ∈ bs → b ∈ order) → (e : List Set) → Inside y e → Inside y (foldl (send E R pred) e bs)
  pass_inside y c bs h e i = foldl_keeps (Inside y) (send E R pred) bs (λ d b m j. send_inside y c d b (h b m) j) e i

  -- ---- a pass adds to rows of the order only

  abbrev pub Only : List Set → Type 0
  Only e = (b v : ℕ) → has (row_of e b) v ≡ true → b ∈ order

  send_to_only : (b : ℕ) (entry : Set) (e : List Set) (p : ℕ) → p ∈ order → Only e → Only (send_to E R b entry e p)
  send_to_only b entry e p m o q v t =
      row_split {C = q ∈ order} p q (λ eq. Memᴰ.cast eq m)
      (λ ne. o q v (subst (λ (x : Set). has x v ≡ true) (row_other e p q (add_all (row_of e p) (sent E R p b entry)) ne) t))

  pass_only : (bs : List ℕ) (e : List Set) → Only e → Only (foldl (send E R pred) e bs)
  pass_only bs e o =
      foldl_keeps Only (send E R pred) bs
      (λ c b m i. foldl_keeps Only (send_to E R b (E b (row_of c b))) (pred b) (λ d p k j. send_to_only b (E b (row_of c b)) d p (F.pred_out p b k).0 j) c i) e o

  -- ---- the end

  pub record Held (e : List Set) : Type 0 where
    pub shape : Shape B L e
    pub only : Only e
    pub least : (y : ℕ → Set) → Closed y → (b : ℕ) → b ∈ order → Within (row_of e b) (y b)

  -- bs: the order of a pass, with the members of `order`
  module _ (bs : List ℕ) (all_in : (b : ℕ) → b ∈ order → b ∈ bs) (all_out : (b : ℕ) → b ∈ bs → b ∈ order) where
    abbrev pub pass_by : List Set → List Set
    pass_by e = foldl (send E R pred) e bs

    pass_held : (e : List Set) → Held e → Held (pass_by e)
    pass_held e i = record {
      shape = (pass_from bs e i.shape).shape;
      only = pass_only bs e i.only;
      least = λ y c. (pass_inside y c bs all_out e (record { shape = i.shape; inside = i.least y c })).inside;
    }

    -- where a pass adds nothing, the equations add nothing
    fixed_closed : (e : List Set) → Shape B L e → pass_by e ≡ e → Closed (row_of e)
    fixed_closed e s eq = record {
      sized = λ b m. row_length e b s m;
      closed = λ p m v t.
          let r = exit_out E R L next (row_of e) p v t in
          let a = pass_new bs e s p r.to r.name (all_in r.to (F.next_in p r.to m r.to_in)) m r.to_in r.live (subst (λ (n : ℕ). n < L) r.called r.small) in
          subst (λ (n : ℕ). has (row_of e p) n ≡ true) (sym r.called) (subst (λ (x : List Set). has (row_of x p) (R p r.to r.name) ≡ true) eq a);
    }

    pub fixed_solves : (e : List Set) → Held e → pass_by e ≡ e → (p : ℕ) → p ∈ order → row_of e p ≡ exit_by E R L next (row_of e) p
    fixed_solves e i eq p m =
        let c = fixed_closed e i.shape eq in
        let x : ℕ → Set = exit_by E R L next (row_of e) in
        let d : Closed x = record {
          sized = λ b k. exit_length E R L next (row_of e) b;
          closed = λ q k. exit_grows x (row_of e) (λ b n. exit_length E R L next (row_of e) b ∙ sym (c.sized b n)) c.closed q k;
        } in
        set_ext (row_of e p) (x p) (c.sized p m ∙ sym (exit_length E R L next (row_of e) p)) (i.least x d p m) (c.closed p m)

    pub passes_end : (states : ℕ → List Set) → states 0 ≡ replicate B (replicate L false) → ((n : ℕ) → states (suc n) ≡ pass_by (states n)) → (n : ℕ) → B * L < n
        → Ended pass_by Held states (settle_by pass_by n 0 (replicate B (replicate L false))).0 (settle_by pass_by n 0 (replicate B (replicate L false))).1
    passes_end states begin steps n h =
        settle_ends B L pass_by Held (λ e i. i.shape) pass_held (λ e i. (pass_from bs e i.shape).grown) states steps n 0 (replicate B (replicate L false))
        (record { shape = empty_shape B L; only = λ b v t. none _ t (empty_row B L b v); least = λ y c b m v t. none _ t (empty_row B L b v) })
        (omega arith) (omega arith) (sym begin) (λ j l. absurd (omega arith))
