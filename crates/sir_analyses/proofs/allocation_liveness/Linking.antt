-- What linking one local, and flagging one allocation, does to the arrays and to the state that they show.
use mathlib.Core.Path.{◌≡◌, refl, sym, ap, ◌∙◌}
use mathlib.Core.Bool.{Bool, true, false, ◌&&◌, ◌||◌, cond, and-false, or-true, or-false}
use mathlib.Core.List.Memᴰ
use mathlib.Core.List.{List, [], ◌∷◌, ◌++◌, reverse}
use Prim.Native.Nat.{ℕ, suc, ◌+◌, ◌-◌, ◌≤◌, ◌<◌}
use native.Mathlib.Omega.{arith}
use native.Mathlib.Numerals.{add-one}
use native.Mathlib.Decide.{ℕ_discrete, dec_lt}
use lib.ListN.{length, get_or, set, take, length-set, get_or-eq_default}
use lib.Seq.{get_or-set_same, get_or-set_other, take-suc, take_all}
use lib.Dec.{eqb}
use lib.Bits.{bit_or}
use borrow.Author.Tests.{eq-eqb, ne_eqb}
use Rattle.plank_core.specs.Lists.{foldl}
use Rattle.plank_core.specs.laws.Loops.{reverse_snoc}
use Rattle.sir_analyses.specs.Liveness.{Set, has, add_all}
use Rattle.sir_analyses.specs.Propagation.{State, link_local, mark}
use Rattle.sir_analyses.specs.Flags.{flag_bits}
use Rattle.sir_analyses.specs.inner.Following.{Machine, link_all, follow_local}
use Rattle.sir_analyses.specs.inner.Discovery.{zeros, Room, flags_at, ShowsState, StepTaken, SameWidth}
use Rattle.sir_analyses.proofs.SetLaws.{has_add_all, length_add_all}
use Rattle.plank_core.specs.laws.Folds.{foldl_snoc}
use Rattle.sir_analyses.proofs.claims.source.Steps.{zeros_fewer, zeros_no_more}
use Rattle.plank_core.specs.laws.Prefixes.{taken_set}

-- ---- one place of a list is set

-- an array shows a list, and still does when both are set
pub set_both : (xs ys : List ℕ) (v y : ℕ) → v < length xs → v < length ys → ((x : ℕ) → x < length ys → get_or xs x 0 ≡ get_or ys x 0)
    → (x : ℕ) → x < length (set ys v y) → get_or (set xs v y) x 0 ≡ get_or (set ys v y) x 0
set_both xs ys v y h k e x l = go (ℕ_discrete x v)
  where
    go : Dec (x ≡ v) → get_or (set xs v y) x 0 ≡ get_or (set ys v y) x 0
    go (yes q) = rw q (get_or-set_same xs v y 0 h ∙ sym (get_or-set_same ys v y 0 k))
    go (no q) = get_or-set_other xs v x y 0 q ∙ e x (omega (arith, length-set ys v y)) ∙ sym (get_or-set_other ys v x y 0 q)

pub set_most : (xs : List ℕ) (v y m : ℕ) → y ≤ m → ((x : ℕ) → get_or xs x 0 ≤ m) → (x : ℕ) → get_or (set xs v y) x 0 ≤ m
set_most xs v y m h f x = go (ℕ_discrete x v) (dec_lt v (length xs))
  where
    go : Dec (x ≡ v) → Dec (v < length xs) → get_or (set xs v y) x 0 ≤ m
    go (yes q) (yes l) = rw (q, get_or-set_same xs v y 0 l) h
    go (yes q) (no l) = let z : get_or (set xs v y) x 0 ≡ 0 = get_or-eq_default (set xs v y) 0 {n = x} (omega (arith, length-set xs v y)) in omega arith
    go (no q) l = rw (get_or-set_other xs v x y 0 q) (f x)

-- ---- flags

-- a flag is set in a word of flags
escape_bit : (e r m : Bool) → bit_or (flag_bits e r m) 1 ≡ flag_bits true r m
escape_bit true true true = refl
escape_bit true true false = refl
escape_bit true false true = refl
escape_bit true false false = refl
escape_bit false true true = refl
escape_bit false true false = refl
escape_bit false false true = refl
escape_bit false false false = refl

return_bit : (e r m : Bool) → bit_or (flag_bits e r m) 2 ≡ flag_bits e true m
return_bit true true true = refl
return_bit true true false = refl
return_bit true false true = refl
return_bit true false false = refl
return_bit false true true = refl
return_bit false true false = refl
return_bit false false true = refl
return_bit false false false = refl

meeting_bit : (e r m : Bool) → bit_or (flag_bits e r m) 4 ≡ flag_bits e r true
meeting_bit true true true = refl
meeting_bit true true false = refl
meeting_bit true false true = refl
meeting_bit true false false = refl
meeting_bit false true true = refl
meeting_bit false true false = refl
meeting_bit false false true = refl
meeting_bit false false false = refl

-- an array with a flag of allocation a set
abbrev pub raised : List ℕ → ℕ → ℕ → List ℕ
raised flags a flag = set flags a (bit_or (get_or flags a 0) flag)

-- the array shows f, and then g, which differs from f at a only
raised_shows : (flags : List ℕ) (f g : ℕ → ℕ) (a flag : ℕ) → length flags ≡ 512 → a < 512 → ((c : ℕ) → c < 512 → get_or flags c 0 ≡ f c) → bit_or (f a) flag ≡ g a → ((c : ℕ) → ¬ (c ≡ a) → f c ≡ g c)
    → (c : ℕ) → c < 512 → get_or (raised flags a flag) c 0 ≡ g c
raised_shows flags f g a flag long small e here elsewhere c h = go (ℕ_discrete c a)
  where
    go : Dec (c ≡ a) → get_or (raised flags a flag) c 0 ≡ g c
    go (yes q) = rw q (get_or-set_same flags a (bit_or (get_or flags a 0) flag) 0 (omega (arith, long)) ∙ ap (λ (k : ℕ). bit_or k flag) (e a small) ∙ here)
    go (no q) = get_or-set_other flags a c (bit_or (get_or flags a 0) flag) 0 q ∙ e c h ∙ elsewhere c q

-- a set has one member more
meeting_here : (ms : Set) (a : ℕ) → a < length ms → has (add_all ms (a ∷ [])) a ≡ true
meeting_here ms a less = has_add_all ms (a ∷ []) a less ∙ rw (eq-eqb a a refl) (or-true (has ms a))

meeting_elsewhere : (ms : Set) (a c : ℕ) → ¬ (c ≡ a) → has (add_all ms (a ∷ [])) c ≡ has ms c
meeting_elsewhere ms a c q = go (dec_lt c (length ms))
  where
    go : Dec (c < length ms) → has (add_all ms (a ∷ [])) c ≡ has ms c
    go (yes l) = has_add_all ms (a ∷ []) c l ∙ rw (ne_eqb c a q) (or-false (has ms c))
    go (no l) =
        get_or-eq_default (add_all ms (a ∷ [])) false {n = c} (omega (arith, length_add_all ms (a ∷ [])))
        ∙ sym (get_or-eq_default ms false {n = c} (omega arith))

module _ {owner flags work : List ℕ} {n : ℕ} (R : Room owner flags work n) where
  room_flag : (a flag : ℕ) → Room owner (raised flags a flag) work n
  room_flag a flag = record {
    owner_long = R.owner_long;
    flags_long = length-set flags a (bit_or (get_or flags a 0) flag) ∙ R.flags_long;
    work_long = R.work_long;
    owner_small = R.owner_small;
    work_small = R.work_small;
    room = R.room;
  }

  -- allocation a has met another
  meeting_shown : {m : Machine} (a : ℕ) → a < 512 → a < length m.state.marks → ShowsState owner flags work n m
      → ShowsState owner (raised flags a 4) work n (record { state = mark a m.state; flagged = m.flagged })
  meeting_shown {m} a small less S = record {
    owner_is = S.owner_is;
    owner_known = λ v. rw length_add_all (S.owner_known v);
    flags_are = raised_shows flags (flags_at m) (λ c. flag_bits (m.flagged 0 c) (m.flagged 1 c) (has (add_all m.state.marks (a ∷ [])) c)) a 4 R.flags_long small S.flags_are
        (meeting_bit (m.flagged 0 a) (m.flagged 1 a) (has m.state.marks a) ∙ ap (flag_bits (m.flagged 0 a) (m.flagged 1 a)) (sym (meeting_here m.state.marks a less)))
        (λ c q. ap (flag_bits (m.flagged 0 c) (m.flagged 1 c)) (sym (meeting_elsewhere m.state.marks a c q)));
    work_is = S.work_is;
  }

-- ---- one local is linked

module _ {owner flags work : List ℕ} {n : ℕ} (R : Room owner flags work n) {v a : ℕ} (hv : v < 512) (ha : a < 512) where
  abbrev after : List ℕ
  after = set owner v (a + 1)

  no_more : zeros after ≤ zeros owner
  no_more = rw add-one (zeros_no_more owner v a)

  room_owner : Room after flags work n
  room_owner = record {
    owner_long = length-set owner v (a + 1) ∙ R.owner_long;
    flags_long = R.flags_long;
    work_long = R.work_long;
    owner_small = set_most owner v (a + 1) 512 (omega arith) R.owner_small;
    work_small = R.work_small;
    room = omega (arith, R.room, no_more);
  }

  -- the new owner is shown
  owner_shown : {m : Machine} → v < length m.state.owner → a < length m.state.marks → ShowsState owner flags work n m
      → ShowsState after flags work n (record { state = record { owner = set m.state.owner v (suc a); marks = m.state.marks; work = m.state.work }; flagged = m.flagged })
  owner_shown {m} h l S = record {
    owner_is = rw add-one (set_both owner m.state.owner v (suc a) (omega (arith, R.owner_long)) h S.owner_is);
    owner_known = set_most owner v (a + 1) (length m.state.marks) (omega arith) S.owner_known;
    flags_are = S.flags_are;
    work_is = S.work_is;
  }

  -- a local that nobody had
  module _ (z : get_or owner v 0 ≡ 0) where
    fewer : suc (zeros after) ≤ zeros owner
    fewer = rw add-one (zeros_fewer owner v a (omega (arith, R.owner_long)) z)

    pub push_room : n < 513
    push_room = omega (arith, fewer, R.room)

    pub link_new : StepTaken (v ∷ []) a (link_all a (v ∷ [])) owner flags work n after flags (set work n v) (n + 1)
    link_new = record {
      room = record {
        owner_long = room_owner.owner_long;
        flags_long = R.flags_long;
        work_long = length-set work n v ∙ R.work_long;
        owner_small = room_owner.owner_small;
        work_small = λ k h. small k h (ℕ_discrete k n);
        room = omega (arith, fewer, R.room);
      };
      same = λ m f l S.
          let h = f v (Memᴰ.head refl) in
          let O = owner_shown h l S in
          rw (eq-eqb (get_or m.state.owner v 0) 0 (sym (S.owner_is v h) ∙ z)) (record {
            owner_is = O.owner_is;
            owner_known = O.owner_known;
            flags_are = O.flags_are;
            work_is = ap (λ (xs : List ℕ). v ∷ xs) S.work_is ∙ sym (reverse_snoc (take n work) v) ∙ ap reverse (sym (taken_set work n v (omega (arith, push_room, R.work_long))));
          });
      cost = omega (arith, fewer);
    }
      where
        small : (k : ℕ) → k < n + 1 → Dec (k ≡ n) → get_or (set work n v) k 0 < 512
        small k h (yes q) = rw (q, get_or-set_same work n v 0 (omega (arith, push_room, R.work_long))) hv
        small k h (no q) = rw (get_or-set_other work n k v 0 q) (R.work_small k (omega arith))

  module _ (z : get_or owner v 0 ≡ 0 → ⊥) where
    -- one that this allocation had
    pub link_same : get_or owner v 0 ≡ a + 1 → StepTaken (v ∷ []) a (link_all a (v ∷ [])) owner flags work n after flags work n
    link_same e = record {
      room = room_owner;
      same = λ m f l S.
          let h = f v (Memᴰ.head refl) in
          let o : get_or m.state.owner v 0 ≡ get_or owner v 0 = sym (S.owner_is v h) in
          rw (ne_eqb (get_or m.state.owner v 0) 0 (λ q. z (sym o ∙ q)), eq-eqb (get_or m.state.owner v 0) (suc a) (o ∙ e ∙ add-one a)) (owner_shown h l S);
      cost = omega (arith, no_more);
    }

    -- one that another had
    pub link_other : (get_or owner v 0 ≡ a + 1 → ⊥) → StepTaken (v ∷ []) a (link_all a (v ∷ [])) owner flags work n after (raised (raised flags a 4) (get_or owner v 0 - 1) 4) work n
    link_other d = record {
      room = room_flag (room_flag room_owner a 4) (get_or owner v 0 - 1) 4;
      same = λ m f l S.
          let h = f v (Memᴰ.head refl) in
          let o : get_or m.state.owner v 0 ≡ get_or owner v 0 = sym (S.owner_is v h) in
          let k : get_or owner v 0 - 1 < length (add_all m.state.marks (a ∷ [])) = omega (arith, S.owner_known v, length_add_all m.state.marks (a ∷ []), z) in
          let j : get_or owner v 0 - 1 < 512 = omega (arith, R.owner_small v, z) in
          let M = meeting_shown (room_flag room_owner a 4) (get_or owner v 0 - 1) j k (meeting_shown room_owner a ha l (owner_shown h l S)) in
          rw (ne_eqb (get_or m.state.owner v 0) 0 (λ q. z (sym o ∙ q)), ne_eqb (get_or m.state.owner v 0) (suc a) (λ q. d (sym o ∙ q ∙ sym (add-one a))), o) M;
      cost = omega (arith, no_more);
    }

-- ---- some steps, one after the other

pub link_width : (a : ℕ) (s : State) (v : ℕ) → SameWidth s (link_local a s v)
link_width a s v = go (eqb (get_or s.owner v 0) 0) (eqb (get_or s.owner v 0) (suc a))
  where
    go : (t u : Bool) → SameWidth s (cond t (record { owner = set s.owner v (suc a); marks = s.marks; work = v ∷ s.work }) (record { owner = set s.owner v (suc a); marks = cond u s.marks (add_all s.marks (a ∷ (get_or s.owner v 0 - 1) ∷ [])); work = s.work }))
    go true u = record { owner_wide = length-set s.owner v (suc a); marks_wide = refl }
    go false true = record { owner_wide = length-set s.owner v (suc a); marks_wide = refl }
    go false false = record { owner_wide = length-set s.owner v (suc a); marks_wide = length_add_all s.marks (a ∷ (get_or s.owner v 0 - 1) ∷ []) }

pub width_then : {s t u : State} → SameWidth s t → SameWidth t u → SameWidth s u
width_then p q = record { owner_wide = q.owner_wide ∙ p.owner_wide; marks_wide = q.marks_wide ∙ p.marks_wide }

pub links_width : (a : ℕ) (xs : List ℕ) (s : State) → SameWidth s (foldl (link_local a) s xs)
links_width a [] s = record { owner_wide = refl; marks_wide = refl }
links_width a (x ∷ xs) s = width_then (link_width a s x) (links_width a xs (link_local a s x))

module _ {a : ℕ} {owner flags work : List ℕ} {n : ℕ} where
  -- one more of a list
  pub linked_more : {owner' flags' work' owner'' flags'' work'' : List ℕ} {k r : ℕ} (xs : List ℕ) (i : ℕ) → i < length xs
      → StepTaken (take i xs) a (link_all a (take i xs)) owner flags work n owner' flags' work' k
      → StepTaken (get_or xs i 0 ∷ []) a (link_all a (get_or xs i 0 ∷ [])) owner' flags' work' k owner'' flags'' work'' r
      → StepTaken (take (i + 1) xs) a (link_all a (take (i + 1) xs)) owner flags work n owner'' flags'' work'' r
  linked_more xs i h P Q =
      let e : take (i + 1) xs ≡ take i xs ++ (get_or xs i 0 ∷ []) = rw add-one (take-suc xs i 0 h) in
      record {
        room = Q.room;
        same = λ m f l S.
            let w = links_width a (take i xs) m.state in
            rw (e, foldl_snoc (link_local a) m.state (take i xs) (get_or xs i 0))
            (Q.same (link_all a (take i xs) m)
            (λ v k. rw w.owner_wide (f v (rw e (Memᴰ.append_right (take i xs) k))))
            (rw w.marks_wide l)
            (P.same m (λ v k. f v (rw e (Memᴰ.append_left (get_or xs i 0 ∷ []) k))) l S));
        cost = omega (arith, P.cost, Q.cost);
      }

  pub linked_all : {owner' flags' work' : List ℕ} {k : ℕ} (xs : List ℕ) (i : ℕ) → length xs ≤ i
      → StepTaken (take i xs) a (link_all a (take i xs)) owner flags work n owner' flags' work' k
      → StepTaken xs a (link_all a xs) owner flags work n owner' flags' work' k
  linked_all xs i h P = rw (take_all i xs h) at P

  -- and then the flags
  pub then_flagged : {owner' flags' work' owner'' flags'' work'' : List ℕ} {k r : ℕ} (xs : List ℕ) (used : ℕ → Bool) → StepTaken xs a (link_all a xs) owner flags work n owner' flags' work' k
      → StepTaken [] a (follow_local [] used a) owner' flags' work' k owner'' flags'' work'' r → StepTaken xs a (follow_local xs used a) owner flags work n owner'' flags'' work'' r
  then_flagged xs used P Q = record {
    room = Q.room;
    same = λ m f l S. Q.same (link_all a xs m) (λ v k. absurd (Memᴰ.not-nil k)) (rw (links_width a xs m.state).marks_wide l) (P.same m f l S);
    cost = omega (arith, P.cost, Q.cost);
  }

-- ---- the flags of a local's uses

-- the array with a flag of allocation a set, where t says so
abbrev pub raised_if : Bool → ℕ → ℕ → List ℕ → List ℕ
raised_if t a flag flags = cond t (raised flags a flag) flags

module _ {owner flags work : List ℕ} {n a : ℕ} (R : Room owner flags work n) (small : a < 512) where
  room_by : {fs : List ℕ} (t : Bool) (flag : ℕ) → Room owner fs work n → Room owner (raised_if t a flag fs) work n
  room_by true flag Q = room_flag Q a flag
  room_by false flag Q = Q

  -- what an array shows where a flag is set by t: f with the flag off or on, told for each allocation
  raised_if_lem : (fs : List ℕ) (t : Bool) (flag : ℕ) (f : ℕ → Bool → ℕ) (old : ℕ → Bool) → length fs ≡ 512 → ((b : Bool) → bit_or (f a b) flag ≡ f a true) → ((c : ℕ) → c < 512 → get_or fs c 0 ≡ f c (old c))
      → (c : ℕ) → c < 512 → get_or (raised_if t a flag fs) c 0 ≡ f c (old c || (eqb c a && t))
  raised_if_lem fs true flag f old long sets shows c h =
      raised_shows fs (λ c. f c (old c)) (λ c. f c (old c || (eqb c a && true))) a flag long small shows
      (sets (old a) ∙ ap (f a) (sym (rw (eq-eqb a a refl) (or-true (old a)))))
      (λ c q. ap (f c) (sym (rw (ne_eqb c a q) (or-false (old c))))) c h
  raised_if_lem fs false flag f old long sets shows c h = shows c h ∙ ap (f c) (sym (rw (and-false (eqb c a)) (or-false (old c))))

  pub flags_raised : (used : ℕ → Bool) → StepTaken [] a (follow_local [] used a) owner flags work n owner (raised_if (used 1) a 2 (raised_if (used 0) a 1 flags)) work n
  flags_raised used = record {
    room = room_by (used 1) 2 (room_by (used 0) 1 R);
    same = λ m f l S. record { owner_is = S.owner_is; owner_known = S.owner_known; flags_are = both m S.flags_are; work_is = S.work_is };
    cost = omega arith;
  }
    where
      both : (m : Machine) → ((c : ℕ) → c < 512 → get_or flags c 0 ≡ flags_at m c) → (c : ℕ) → c < 512 → get_or (raised_if (used 1) a 2 (raised_if (used 0) a 1 flags)) c 0 ≡ flags_at (follow_local [] used a m) c
      both m shows =
          let met : ℕ → Bool = has m.state.marks in
          let e : ℕ → Bool = λ c. m.flagged 0 c || (eqb c a && used 0) in
          raised_if_lem (raised_if (used 0) a 1 flags) (used 1) 2 (λ c r. flag_bits (e c) r (met c)) (m.flagged 1) (room_by (used 0) 1 R).flags_long (λ r. return_bit (e a) r (met a))
          (raised_if_lem flags (used 0) 1 (λ c e. flag_bits e (m.flagged 1 c) (met c)) (m.flagged 0) R.flags_long (λ e. escape_bit e (m.flagged 1 a) (met a)) shows)
