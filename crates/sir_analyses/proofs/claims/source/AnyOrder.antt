-- In whichever order the source takes the members of a hash set or map, it comes to the same.
use mathlib.Core.Path.{◌≡◌, refl, sym, ap, ◌∙◌, subst}
use mathlib.Core.Bool.{Bool, true, false, not, ◌||◌, cond, or-false}
use Prim.Native.Nat.{ℕ, ◌<◌}
use mathlib.Core.List.Memᴰ
use mathlib.Core.List.{List, [], ◌∷◌, map, append-nil}
use lib.ListN.{length, get_or, set, length-set}
use lib.Seq.{ext_get_or, get_or-set_same, set-get_or}
use lib.Dec.{eqb}
use Rattle.plank_core.specs.Lists.{foldl, mem, any}
use Rattle.plank_core.specs.laws.Lists.{same_tests, in_mem, mem_in, any_mem, any_out}
use Rattle.sir_analyses.specs.Liveness.{Set, has, add_all, row_of, Interval, Scan, close, block_end}
use Rattle.sir_analyses.specs.SourceUses.{push}
use Rattle.sir_analyses.specs.SourceLiveness.{Live, insert_exit, Ends, end_at_block_end, remove_end}
use Rattle.sir_analyses.specs.Claims.{SameMembers}
use Rattle.sir_analyses.proofs.SetLaws.{has_add_all, length_add_all}
use Rattle.sir_analyses.proofs.claims.source.Tables.{list_of, push_tall}
use Rattle.sir_analyses.proofs.claims.source.Scans.{Follows, removes, ends_at}
use Rattle.sir_analyses.proofs.claims.source.Liveness.{inserts_exits}

-- ---- line 178

map_members : (g : ℕ → ℕ) (xs ys : List ℕ) → SameMembers xs ys → SameMembers (map g xs) (map g ys)
map_members g xs ys h v = same_tests (mem v (map g xs)) (mem v (map g ys)) (there xs ys h) (there ys xs (λ u. sym (h u)))
  where
    there : (zs us : List ℕ) → SameMembers zs us → mem v (map g zs) ≡ true → mem v (map g us) ≡ true
    there zs us e t =
        let r = Memᴰ.of_map g zs (mem_in v (map g zs) t) in
        in_mem v (Memᴰ.cast (sym r.2) (Memᴰ.map g (mem_in r.0 us (sym (e r.0) ∙ in_mem r.0 r.1))))

add_members : (s : Set) (xs ys : List ℕ) → SameMembers xs ys → add_all s xs ≡ add_all s ys
add_members s xs ys h =
    ext_get_or false (add_all s xs) (add_all s ys) (length_add_all s xs ∙ sym (length_add_all s ys))
    (λ v l.
    let k : v < length s = subst (λ (n : ℕ). v < n) (length_add_all s xs) l in
    has_add_all s xs v k ∙ ap (λ (t : Bool). has s v || t) (h v) ∙ sym (has_add_all s ys v k))

any_members : (f : ℕ → Bool) (xs ys : List ℕ) → SameMembers xs ys → any f xs ≡ any f ys
any_members f xs ys h = same_tests (any f xs) (any f ys) (there xs ys h) (there ys xs (λ u. sym (h u)))
  where
    there : (zs us : List ℕ) → SameMembers zs us → any f zs ≡ true → any f us ≡ true
    there zs us e t = let r = any_out f zs t in any_mem f (mem_in r.0 us (sym (e r.0) ∙ in_mem r.0 r.1)) r.2

module _ (p : ℕ) (g : ℕ → ℕ) where
  abbrev inserted : Live → List ℕ → Live
  inserted s vs = foldl (λ u v. insert_exit p u (g v)) s vs

  -- the locals that are new in a row
  abbrev news : Set → List ℕ → Bool
  news r vs = any (λ v. not (has r (g v))) vs

  inserted_changed : (vs : List ℕ) (s : Live) → p < length s.exits → (inserted s vs).changed ≡ (s.changed || news (row_of s.exits p) vs)
  inserted_changed [] s l = sym (or-false s.changed)
  inserted_changed (v ∷ vs) s l =
      let e = s.exits in
      let r = row_of e p in
      let r' = set r (g v) true in
      inserted_changed vs (insert_exit p s (g v)) (subst (λ (n : ℕ). p < n) (sym (length-set e p r')) l)
      ∙ ap (λ (x : Set). (s.changed || not (has r (g v))) || news x vs) (get_or-set_same e p r' [] l)
      ∙ go (has r (g v)) refl s.changed
    where
      go : (t : Bool) → has (row_of s.exits p) (g v) ≡ t → (c : Bool)
          → ((c || not t) || news (set (row_of s.exits p) (g v) true) vs) ≡ (c || (not t || news (row_of s.exits p) vs))
      go true t c =
          let r = row_of s.exits p in
          let same : set r (g v) true ≡ r = ap (set r (g v)) (sym t) ∙ set-get_or r (g v) false in
          ap (λ (x : Set). (c || false) || news x vs) same ∙ ap (λ (b : Bool). b || news r vs) (or-false c)
      go false t true = refl
      go false t false = refl

  inserted_entries : (vs : List ℕ) (s : Live) → (inserted s vs).entries ≡ s.entries
  inserted_entries [] s = refl
  inserted_entries (v ∷ vs) s = inserted_entries vs (insert_exit p s (g v))

  pub any_inserted : (s : Live) (xs ys : List ℕ) → p < length s.exits → SameMembers xs ys → inserted s xs ≡ inserted s ys
  any_inserted s xs ys l h =
      let e : (inserted s xs).entries ≡ (inserted s ys).entries = inserted_entries xs s ∙ sym (inserted_entries ys s) in
      let x : (inserted s xs).exits ≡ (inserted s ys).exits =
      inserts_exits p g xs s l ∙ ap (set s.exits p) (add_members (row_of s.exits p) (map g xs) (map g ys) (map_members g xs ys h)) ∙ sym (inserts_exits p g ys s l) in
      let c : (inserted s xs).changed ≡ (inserted s ys).changed =
      inserted_changed xs s l ∙ ap (λ (t : Bool). s.changed || t) (any_members (λ v. not (has (row_of s.exits p) (g v))) xs ys h) ∙ sym (inserted_changed ys s l) in
      λ i. record { entries = e i; exits = x i; changed = c i }

-- ---- line 197

ended_length : (xs ends : List ℕ) → length (end_at_block_end ends xs) ≡ length ends
ended_length [] ends = refl
ended_length (x ∷ xs) ends = ended_length xs (set ends x block_end) ∙ length-set ends x block_end

pub any_ended : (ends xs ys : List ℕ) → SameMembers xs ys → end_at_block_end ends xs ≡ end_at_block_end ends ys
any_ended ends xs ys h =
    ext_get_or 0 (end_at_block_end ends xs) (end_at_block_end ends ys) (ended_length xs ends ∙ sym (ended_length ys ends))
    (λ v l.
    let k : v < length ends = subst (λ (n : ℕ). v < n) (ended_length xs ends) l in
    (ends_at v xs ends k).0 ∙ ap (λ (t : Bool). cond t block_end (get_or ends v 0)) (h v) ∙ sym (ends_at v ys ends k).0)

-- ---- line 229

module _ (b : ℕ) where
  abbrev drained : Ends → List ℕ → Ends
  drained s xs = foldl (remove_end b 0) s xs

  drained_lengths : (xs : List ℕ) (s : Ends) → (length (drained s xs).ends ≡ length s.ends) × (length (drained s xs).found ≡ length s.found)
  drained_lengths [] s = (refl, refl)
  drained_lengths (x ∷ xs) s =
      let r = drained_lengths xs (remove_end b 0 s x) in
      let k = one (eqb (get_or s.ends x 0) 0) in
      (r.0 ∙ k.0, r.1 ∙ k.1)
    where
      i : Interval
      i = record { block = b; from = 0; to = get_or s.ends x 0 }

      one : (t : Bool) → (length (cond t s (record { ends = set s.ends x 0; found = push s.found x i })).ends ≡ length s.ends)
          × (length (cond t s (record { ends = set s.ends x 0; found = push s.found x i })).found ≡ length s.found)
      one true = (refl, refl)
      one false = (length-set s.ends x 0, push_tall x s.found x i)

  -- what becomes of local v depends on whether it is drained
  drained_at : (s : Ends) (v : ℕ) → v < length s.ends → v < length s.found → (xs ys : List ℕ) → SameMembers xs ys
      → (get_or (drained s xs).ends v 0 ≡ get_or (drained s ys).ends v 0) × (list_of (drained s xs).found v ≡ list_of (drained s ys).found v)
  drained_at s v l k xs ys h =
      let c : Scan = record { open' = get_or s.ends v 0; closed = [] } in
      let f : Follows v (list_of s.found v) c s = record { wide = l; tall = k; end = refl; list = sym (append-nil (list_of s.found v)) } in
      let a = removes v (list_of s.found v) b 0 xs c s f in
      let d = subst (λ (t : Bool). Follows v (list_of s.found v) (cond t (close b 0 c) c) (drained s ys)) (sym (h v)) (removes v (list_of s.found v) b 0 ys c s f) in
      (a.end ∙ sym d.end, a.list ∙ sym d.list)

  pub any_drained : (s : Ends) (xs ys : List ℕ) → length s.ends ≡ length s.found → SameMembers xs ys → drained s xs ≡ drained s ys
  any_drained s xs ys e h =
      let lx = drained_lengths xs s in
      let ly = drained_lengths ys s in
      let ends : (drained s xs).ends ≡ (drained s ys).ends =
      ext_get_or 0 (drained s xs).ends (drained s ys).ends (lx.0 ∙ sym ly.0)
      (λ v l. let k : v < length s.ends = subst (λ (n : ℕ). v < n) lx.0 l in (drained_at s v k (subst (λ (n : ℕ). v < n) e k) xs ys h).0) in
      let found : (drained s xs).found ≡ (drained s ys).found =
      ext_get_or [] (drained s xs).found (drained s ys).found (lx.1 ∙ sym ly.1)
      (λ v l. let k : v < length s.found = subst (λ (n : ℕ). v < n) lx.1 l in (drained_at s v (subst (λ (n : ℕ). v < n) (sym e) k) k xs ys h).1) in
      λ i. record { ends = ends i; found = found i }
