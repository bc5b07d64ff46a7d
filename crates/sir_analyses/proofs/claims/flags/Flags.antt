-- What marked an allocation: each reached local has one allocation that was first to reach it, each flag is set by its rule, and the mark
-- exactly when some flag is.
use mathlib.Core.Path.{◌≡◌, refl, sym, ◌∙◌, ap, subst}
use mathlib.Core.Logic.{◌⊎◌, inl, inr}
use mathlib.Core.Bool.{Bool, true, false, not, ◌||◌}
use Prim.Native.Nat.{ℕ, zero, suc, ◌≤◌, ◌<◌}
use native.Mathlib.Omega.{arith}
use native.Mathlib.Decide.{ℕ_discrete}
use mathlib.Core.List.{List}
use lib.ListN.{length, get_or}
use lib.Dec.{eqb}
use Rattle.plank_core.specs.Lists.{foldl, upto, ◌∈◌}
use Rattle.plank_core.specs.laws.Lists.{or_true_left, or_true_right, or_cases, same_tests, any_mem, any_out, bind_mem, bind_out, split}
use Rattle.plank_core.specs.laws.Loops.{upto_suc}
use Rattle.plank_core.specs.laws.Folds.{foldl_snoc}
use Rattle.sir_data.specs.Records.{locals}
use Rattle.sir_data.specs.inner.WellFormed.{WellFormed}
use Rattle.sir_analyses.specs.Liveness.{uses, has, members}
use Rattle.sir_analyses.specs.Allocation.{allocs, rule12, carried, next, escapes, is_returned, marked, link, bases}
use Rattle.sir_analyses.specs.Claims.{Reached, itself as reached-base, linked as reached-link, Marked, escaped, returned, met}
use Rattle.sir_analyses.specs.Flags.{owners_before, first_reach, first_used, escape_flag, return_flag, meeting_flag, flag_bits, IsBase, FirstWhere, own, linked, HadBefore, First, FirstUsed, FirstOf, FlagRule}
use Rattle.sir_analyses.proofs.SetLaws.{members_in, members_out}
use Rattle.sir_analyses.proofs.claims.marks.Marks.{mark_rule}
use Rattle.sir_analyses.proofs.claims.source.Steps.{base_of, start_length}
use Rattle.sir_analyses.proofs.claims.source.Marks.{base_owned, base_once, owns_base}
use Rattle.sir_analyses.proofs.claims.source.Owners.{Onward, itself, onwards, Taken, reached_onward, onward_reached, turn_takes, turn_gives, link_length}
use Rattle.sir_analyses.proofs.claims.flags.Found.{told, meets_another, linked_so}
use Rattle.sir_analyses.proofs.claims.flags.Meetings.{meeting_sound, meeting_complete, meetings_told}

-- the word is not 0 where some flag is set
word_some : (e r m : Bool) → not (eqb (flag_bits e r m) 0) ≡ (e || r || m)
word_some true true true = refl
word_some true true false = refl
word_some true false true = refl
word_some true false false = refl
word_some false true true = refl
word_some false true false = refl
word_some false false true = refl
word_some false false false = refl

-- ---- who was first

module _ (w : List ℕ) where
  -- who is first to reach a local reaches it
  first_reach_lem : {Had : ℕ → Type 0} {a v : ℕ} → FirstWhere w Had a v → Reached w a v
  first_reach_lem (own e) = reached-base e
  first_reach_lem (linked f mx mv nobody) = reached-link (first_reach_lem f) mx mv

  -- a base is had from the start
  base_had : (a v : ℕ) → IsBase w v → HadBefore w a v
  base_had zero v h = h
  base_had (suc a) v h = inl (base_had a v h)

  -- what a was first to reach is had before every later turn
  had_later : (b a v : ℕ) → a < b → First w a v → HadBefore w b v
  had_later zero a v h f = absurd (omega arith)
  had_later (suc b) a v h f = go (had_later b a v) (split a b)
    where
      go : (a < b → First w a v → HadBefore w b v) → (a < b) ⊎ (b ≤ a) → HadBefore w (suc b) v
      go rest (inl l) = inl (rest l f)
      go rest (inr l) = let e : a ≡ b = omega arith in inr (subst (λ (k : ℕ). First w k v) e f)

  -- what is had was first reached by somebody
  had_first : (a v : ℕ) → a ≤ length (allocs w) → HadBefore w a v → (b : ℕ) × (b < length (allocs w)) × First w b v
  had_first zero v h k = (k.whose, k.known, own k.its_base)
  had_first (suc a) v h (inl k) = had_first a v (omega arith) k
  had_first (suc a) v h (inr f) = (a, h, f)

-- ---- the owners before each turn

pub owners_next : (w : List ℕ) (a : ℕ) → owners_before w (suc a) ≡ link w (owners_before w a) a
owners_next w a = ap (foldl (link w) (bases w)) (upto_suc a) ∙ foldl_snoc (link w) (bases w) (upto a) a

module _ (w : List ℕ) (good : WellFormed w) where
  abbrev n : ℕ
  n = length (allocs w)

  -- owners before the turn of allocation a
  abbrev had : ℕ → List ℕ
  had = owners_before w

  pub owners_length : (a : ℕ) → length (owners_before w a) ≡ locals w
  owners_length zero = start_length w
  owners_length (suc a) = ap length (owners_next w a) ∙ link_length w good a (had a) ∙ owners_length a

  -- a turn leaves an owner as it was, or gives a local to a
  had_turn : (a x : ℕ) → a < n → (get_or (had (suc a)) x 0 ≡ get_or (had a) x 0) ⊎ ((get_or (had (suc a)) x 0 ≡ suc a) × Taken w (had a) (base_of w a) x)
  had_turn a x h = rw (owners_next w a) (turn_gives w good a h (had a) (owners_length a) x)

  had_takes : (a : ℕ) {u x : ℕ} → a < n → Onward w (had a) (base_of w a) u → x ∈ next w u → get_or (had (suc a)) x 0 ≡ suc a
  had_takes a {u} {x} h f m = ap (λ (o : List ℕ). get_or o x 0) (owners_next w a) ∙ turn_takes w good a h (had a) (owners_length a) f m

  -- the owners before the turn of a tell what was had
  record Exact (a : ℕ) : Type 0 where
    owner_had : (x c : ℕ) → get_or (had a) x 0 ≡ suc c → HadBefore w a x
    had_owner : (x : ℕ) → HadBefore w a x → ¬ (get_or (had a) x 0 ≡ 0)

  onward_first : {a : ℕ} → Exact a → {x : ℕ} → Onward w (had a) (base_of w a) x → First w a x
  onward_first E (itself e) = own e
  onward_first E {x} (onwards {u} f m z) = let q = bind_out (carried w) (uses w u) m in linked (onward_first E f) q.1 q.2 (λ h. E.had_owner x h z)

  first_onward : {a : ℕ} → Exact a → {x : ℕ} → First w a x → Onward w (had a) (base_of w a) x
  first_onward E (own e) = itself e
  first_onward {a} E {x} (linked {u} f mx mv nobody) = onwards (first_onward E f) (bind_mem (carried w) mx mv) (go (get_or (had a) x 0) refl)
    where
      go : (k : ℕ) → get_or (had a) x 0 ≡ k → k ≡ 0
      go zero e = refl
      go (suc c) e = absurd (nobody (E.owner_had x c e))

  exact_next : (a : ℕ) → a < n → Exact a → Exact (suc a)
  exact_next a less E = record { owner_had = λ x c e. known x c e (had_turn a x less); had_owner = owned }
    where
      taken : (x : ℕ) → Taken w (had a) (base_of w a) x → (k : ℕ) → get_or (had a) x 0 ≡ k → HadBefore w (suc a) x
      taken x t zero e = inr (onward_first E (onwards t.onward t.carries e))
      taken x t (suc d) e = inl (E.owner_had x d e)

      known : (x c : ℕ) → get_or (had (suc a)) x 0 ≡ suc c → (get_or (had (suc a)) x 0 ≡ get_or (had a) x 0) ⊎ ((get_or (had (suc a)) x 0 ≡ suc a) × Taken w (had a) (base_of w a) x) → HadBefore w (suc a) x
      known x c e (inl q) = inl (E.owner_had x c (sym q ∙ e))
      known x c e (inr q) = taken x q.1 (get_or (had a) x 0) refl

      still : (x : ℕ) → HadBefore w a x → ¬ (get_or (had (suc a)) x 0 ≡ 0)
      still x k e = go (had_turn a x less)
        where
          go : (get_or (had (suc a)) x 0 ≡ get_or (had a) x 0) ⊎ ((get_or (had (suc a)) x 0 ≡ suc a) × Taken w (had a) (base_of w a) x) → ⊥
          go (inl q) = E.had_owner x k (sym q ∙ e)
          go (inr q) = let z : suc a ≡ 0 = sym q.0 ∙ e in omega arith

      owned : (x : ℕ) → HadBefore w (suc a) x → ¬ (get_or (had (suc a)) x 0 ≡ 0)
      owned x (inl k) e = still x k e
      owned x (inr (own q)) e = still x (base_had w a x (record { whose = a; known = less; its_base = q })) e
      owned x (inr (linked f mx mv nobody)) e = let z : suc a ≡ 0 = sym (had_takes a less (first_onward E f) (bind_mem (carried w) mx mv)) ∙ e in omega arith

  module _ (twelve : rule12 w ≡ false) where
    exact_start : Exact 0
    exact_start = record { owner_had = λ x c e. let k = base_owned w x c e in record { whose = c; known = k.0; its_base = k.1 }; had_owner = owned }
      where
        owned : (x : ℕ) → IsBase w x → ¬ (get_or (bases w) x 0 ≡ 0)
        owned x k e =
            let z : get_or (bases w) x 0 ≡ suc k.whose = ap (λ (v : ℕ). get_or (bases w) v 0) k.its_base ∙ owns_base w good twelve k.whose k.known in
            omega arith

    exact : (a : ℕ) → a ≤ n → Exact a
    exact zero h = exact_start
    exact (suc a) h = exact_next a h (exact a (omega arith))

    -- ---- the locals that are computed

    reached_first : (a v : ℕ) → a < n → has (first_reach w a) v ≡ true → First w a v
    reached_first a v h t = onward_first (exact a (omega arith)) (reached_onward w good a h (had a) (owners_length a) v t)

    first_reached : (a v : ℕ) → a < n → First w a v → has (first_reach w a) v ≡ true
    first_reached a v h f = onward_reached w good a h (had a) (owners_length a) (first_onward (exact a (omega arith)) f)

    -- ---- each reached local has one that was first

    first_less : {a b v : ℕ} → a < b → b < n → First w a v → First w b v → ⊥
    first_less {a} {b} {v} h k (own e) (own f) = let z : a ≡ b = base_once w twelve a b (omega arith) k (sym e ∙ f) in omega arith
    first_less {a} {b} {v} h k (linked f mx mv nobody) (own e) = nobody (base_had w a v (record { whose = b; known = k; its_base = e }))
    first_less {a} {b} {v} h k f (linked g mx mv nobody) = nobody (had_later w b a v h f)

    -- two that were first are one
    first_one : (a b v : ℕ) → a < n → b < n → First w a v → First w b v → b ≡ a
    first_one a b v h k f g = go (split a b) (split b a)
      where
        go : (a < b) ⊎ (b ≤ a) → (b < a) ⊎ (a ≤ b) → b ≡ a
        go (inl l) d = absurd (first_less l k f g)
        go (inr l) (inl m) = absurd (first_less m h g f)
        go (inr l) (inr m) = omega arith

    some_first : (a v : ℕ) → a < n → Reached w a v → (b : ℕ) × (b < n) × First w b v
    some_first a v h (reached-base e) = (a, h, own e)
    some_first a v h (reached-link {u} r mx mv) = by_one (some_first a u h r)
      where
        by_one : (b : ℕ) × (b < n) × First w b u → (b : ℕ) × (b < n) × First w b v
        by_one p = go (get_or (had p.0) v 0) refl
          where
            E : Exact p.0
            E = exact p.0 (omega (arith, p.1))

            go : (k : ℕ) → get_or (had p.0) v 0 ≡ k → (b : ℕ) × (b < n) × First w b v
            go zero e = (p.0, p.1, linked p.2 mx mv (λ k. E.had_owner v k e))
            go (suc c) e = had_first w p.0 v (omega (arith, p.1)) (E.owner_had v c e)

    one_first : (a v : ℕ) → a < n → Reached w a v → FirstOf w v
    one_first a v h r =
        let p = some_first a v h r in
        record { one = p.0; known = p.1; is_first = p.2; only = λ b k f. first_one p.0 b v p.1 k p.2 f }

    -- ---- the flags

    used_first : (used : ℕ → Bool) (a : ℕ) → a < n → first_used w used a ≡ true → FirstUsed w used a
    used_first used a h t =
        let q = any_out used (members (first_reach w a)) t in
        record { local = q.0; is_first = reached_first a q.0 h (members_out (first_reach w a) q.1); is_used = q.2 }

    first_used_lem : (used : ℕ → Bool) (a : ℕ) → a < n → FirstUsed w used a → first_used w used a ≡ true
    first_used_lem used a h k = any_mem used (members_in (first_reach w a) k.local (first_reached a k.local h k.is_first)) k.is_used

    -- where a reached local is used so, its flag is set, or that of a meeting with the one that was first there
    used_flag : (used : ℕ → Bool) (a v : ℕ) → a < n → Reached w a v → used v ≡ true → (first_used w used a ≡ true) ⊎ (meeting_flag w a ≡ true)
    used_flag used a v h r t = go (some_first a v h r)
      where
        go : (b : ℕ) × (b < n) × First w b v → (first_used w used a ≡ true) ⊎ (meeting_flag w a ≡ true)
        go p = by_cases (ℕ_discrete a p.0)
          where
            by_cases : Dec (a ≡ p.0) → (first_used w used a ≡ true) ⊎ (meeting_flag w a ≡ true)
            by_cases (yes e) = inl (first_used_lem used a h (record { local = v; is_first = subst (λ (k : ℕ). First w k v) (sym e) p.2; is_used = t }))
            by_cases (no d) = inr (meeting_complete w good a h (record { local = v; other = p.0; known = p.1; another = d; reached = r; reached_too = first_reach_lem w p.2 }))

    mark_some : (a : ℕ) → a < n → marked w a ≡ (escape_flag w a || return_flag w a || meeting_flag w a)
    mark_some a h = same_tests (marked w a) (E || R || M) (λ t. set_by (((mark_rule w good).mark_exact a h).0 t)) (λ t. ((mark_rule w good).mark_exact a h).1 (set_for (or_cases (E || R) M t)))
      where
        E : Bool
        E = escape_flag w a

        R : Bool
        R = return_flag w a

        M : Bool
        M = meeting_flag w a

        set_by : Marked w a → (E || R || M) ≡ true
        set_by (escaped {v} r t) = go (used_flag (escapes w) a v h r t)
          where
            go : (E ≡ true) ⊎ (M ≡ true) → (E || R || M) ≡ true
            go (inl k) = or_true_left (E || R) M (or_true_left E R k)
            go (inr k) = or_true_right (E || R) M k
        set_by (returned {v} r t) = go (used_flag (is_returned w) a v h r t)
          where
            go : (R ≡ true) ⊎ (M ≡ true) → (E || R || M) ≡ true
            go (inl k) = or_true_left (E || R) M (or_true_right E R k)
            go (inr k) = or_true_right (E || R) M k
        set_by (met {v} {b} r l d q) = or_true_right (E || R) M (meeting_complete w good a h (record { local = v; other = b; known = l; another = d; reached = r; reached_too = q }))

        used : (E ≡ true) ⊎ (R ≡ true) → Marked w a
        used (inl t) = let k = used_first (escapes w) a h t in escaped (first_reach_lem w k.is_first) k.is_used
        used (inr t) = let k = used_first (is_returned w) a h t in returned (first_reach_lem w k.is_first) k.is_used

        set_for : ((E || R) ≡ true) ⊎ (M ≡ true) → Marked w a
        set_for (inl t) = used (or_cases E R t)
        set_for (inr t) = let k = meeting_sound w good a h t in met k.reached k.known k.another k.reached_too

    pub flag_rule : FlagRule w
    flag_rule = record {
      told = told;
      meets_another = meets_another;
      done_so = linked_so;
      first_exact = λ a v h. (reached_first a v h, first_reached a v h);
      first_reaches = λ a v f. first_reach_lem w f;
      first_of = one_first;
      escape_exact = λ a h. (used_first (escapes w) a h, first_used_lem (escapes w) a h);
      return_exact = λ a h. (used_first (is_returned w) a h, first_used_lem (is_returned w) a h);
      meeting_exact = λ a h. (meeting_sound w good a h, meeting_complete w good a h);
      meeting_told = meetings_told w good twelve;
      mark_flags = λ a h. mark_some a h ∙ sym (word_some (escape_flag w a) (return_flag w a) (meeting_flag w a));
    }
