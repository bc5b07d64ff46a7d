-- Whether one of some answers is too long, one by one.
use mathlib.Core.Path.{◌≡◌, refl, sym, ap, ◌∙◌}
use mathlib.Core.Bool.{Bool, true, false, not, ◌&&◌, ◌||◌, cond, or_assoc}
use mathlib.Core.List.Memᴰ
use mathlib.Core.List.{List, [], ◌∷◌, ◌++◌, map}
use Prim.Native.Nat.{ℕ, ◌+◌, ◌*◌, ◌≤◌, ◌<◌}
use native.Mathlib.Omega.{arith}
use native.Mathlib.Decide.{dec_lt}
use lib.ListN.{length, get_or, take, drop, length-map, length-take}
use lib.Seq.{take_at}
use lib.Dec.{eqb, ltb}
use borrow.Author.Tests.{lt-ltb, le-ltb, ltb-false, ne_eqb}
use Rattle.plank_core.specs.Lists.{bind, any, range, upto, ◌∈◌}
use Rattle.plank_core.specs.inner.DenseIndexSet.{contains, set_of, row_of, members}
use Rattle.plank_core.specs.laws.Lists.{any_not, keep_out, mem_upto}
use Rattle.plank_core.specs.laws.DenseIndexSet.{contains_set_of}
use Rattle.plank_core.specs.laws.Members.{members_most}
use Rattle.plank_core.specs.laws.Loops.{range_all}
use Rattle.sir_data.specs.Pages.{bytes_of}
use Rattle.sir_data.specs.Records.{blocks, locals}
use Rattle.sir_data.specs.inner.WellFormed.{WellFormed}
use Rattle.sir_analyses.specs.Allocation.{allocs}
use Rattle.sir_analyses.specs.Answers.{order_answer, entry_answer, exit_answer, intervals_answer, allocation_answer}
use Rattle.sir_analyses.specs.Calls.{Outcome, made, refused, answered}
use Rattle.sir_analyses.specs.inner.Outcomes.{given, outcome}
use Rattle.std.specs.Prelude.{Result, Ok, Err, is_err, IsOk}
use Rattle.sir_data.specs.declared.refusals.Refusal.{Refusal}
use Rattle.sir_data.specs.Refusals.{number, refused as code}
use Rattle.sir_data.specs.laws.Refusals.{not_0}
use Rattle.sir_analyses.specs.inner.Discovery.{alloc_site, alloc_sites}
use Rattle.sir_analyses.specs.Order.{is_visited}
use Rattle.sir_analyses.specs.inner.Stages.{part, rpo_in, sites_in, VisitStage, PointerStage}
use Rattle.sir_analyses.specs.inner.Tables.{LiveRows}
use Rattle.sir_analyses.specs.inner.Writing.{Puts}
use Rattle.sir_analyses.proofs.claims.order.OrderLength.{order_most}
use Rattle.sir_analyses.specs.laws.Writing.{length_bytes, puts_within}
use Rattle.report_lines.specs.Counting.{too_long, local_too_long, allocation_too_long, some_too_long}
use Rattle.report_lines.specs.Lines.{visited_blocks}

module _ (xs : List ℕ) {r : ℕ} {out out' : List ℕ} (p : Puts 0 xs out out' r) where
  pub is_long : 16384 < r → too_long xs ≡ true
  is_long h = lt-ltb 65536 (4 * length xs) (omega (arith, p.next))

  pub not_long : r ≤ 16384 → too_long xs ≡ false
  not_long h = le-ltb 65536 (4 * length xs) (omega (arith, p.next))

-- the test of a count, as of the answer
pub long_is : (xs : List ℕ) (r : ℕ) (t : Bool) → r ≡ length xs → t ≡ ltb 16384 r → t ≡ too_long xs
long_is xs r t n e = e ∙ go (dec_lt 16384 r)
  where
    go : Dec (16384 < r) → ltb 16384 r ≡ too_long xs
    go (yes h) = lt-ltb 16384 r h ∙ sym (lt-ltb 65536 (4 * length xs) (omega arith))
    go (no h) = le-ltb 16384 r (omega arith) ∙ sym (le-ltb 65536 (4 * length xs) (omega arith))

pub short : (xs : List ℕ) → too_long xs ≡ false → 4 * length xs ≤ 65536
short xs e = ltb-false 65536 (4 * length xs) e

-- an answer that is not too long stands in the slice
pub stands : (xs : List ℕ) {out out' : List ℕ} {r : ℕ} → length out ≡ 65536 → too_long xs ≡ false → Puts 0 xs out out' r → take (4 * r) out' ≡ bind xs bytes_of
stands xs {out} {out'} {r} l e p =
    let f : 4 * length xs ≤ length out = omega (arith, short xs e) in
    ap (take (4 * r)) (p.left ∙ puts_within (length out) xs out f f)
    ∙ take_at (bind xs bytes_of) (drop (4 * length xs) out) (4 * r) (omega (arith, length_bytes xs, p.next))

failed : (r : Result ℕ Refusal) → is_err r ≡ not (eqb (code r) 0)
failed (Ok n) = refl
failed (Err refusal) = rw (ne_eqb (number refusal) 0 (not_0 refusal)) refl

succeeded : (r : Result ℕ Refusal) → is_err r ≡ false → IsOk r
succeeded (Ok n) e = refl
succeeded (Err refusal) e = cc

-- the same of an answer that was asked for: it is refused where it is too long
module _ (xs out : List ℕ) (r : Result ℕ Refusal) {out' : List ℕ} (long : length out ≡ 65536) (e : outcome r out' ≡ answered (bind xs bytes_of) out) where
  told : (t : Bool) → too_long xs ≡ t → outcome r out' ≡ cond t (refused 14 out) (made 0 (length (bind xs bytes_of)) (bind xs bytes_of ++ drop (length (bind xs bytes_of)) out))
  told t q =
      let same : ltb (length out) (length (bind xs bytes_of)) ≡ too_long xs = rw (long, length_bytes xs) refl in
      e ∙ ap (λ (t : Bool). cond t (refused 14 out) (made 0 (length (bind xs bytes_of)) (bind xs bytes_of ++ drop (length (bind xs bytes_of)) out))) (same ∙ q)

  pub refused_long : is_err r ≡ too_long xs
  refused_long = failed r ∙ go (too_long xs) refl
    where
      go : (t : Bool) → too_long xs ≡ t → not (eqb (code r) 0) ≡ t
      go true q = rw (ap (λ (o : Outcome). o.number) (told true q)) refl
      go false q = rw (ap (λ (o : Outcome). o.number) (told false q)) refl

  pub answered_short : too_long xs ≡ false → IsOk r
  answered_short q = succeeded r (refused_long ∙ q)

  pub answer_stands : {n : ℕ} → too_long xs ≡ false → r ≡ Ok n → take n out' ≡ bind xs bytes_of
  answer_stands {n} q o =
      let z : n ≡ length (bind xs bytes_of) = sym (ap given o) ∙ ap (λ (o : Outcome). o.len) (told false q) in
      ap (take n) (ap (λ (o : Outcome). o.result) (told false q)) ∙ take_at (bind xs bytes_of) (drop (length (bind xs bytes_of)) out) n (sym z)

-- ---- all of some answers

pub sites_long : (w : List ℕ) → length (alloc_sites w) ≡ length (allocs w)
unfolding alloc_sites
sites_long w = length-map (allocs w) alloc_site

abbrev pub long_local : List ℕ → ℕ → Bool
long_local w v = too_long (intervals_answer w v)

abbrev pub long_allocation : List ℕ → ℕ → Bool
long_allocation w a = too_long (allocation_answer w a)

module _ (w : List ℕ) where
  pub locals_start : any (long_local w) (range 0 (locals w)) ≡ local_too_long w
  unfolding local_too_long
  locals_start = ap (any (long_local w)) (range_all (locals w))

  pub local_short : {v : ℕ} → local_too_long w ≡ false → v < locals w → too_long (intervals_answer w v) ≡ false
  unfolding local_too_long
  local_short {v} e l = any_not (long_local w) 0 (locals w) v e (omega arith) (omega arith)

  pub allocations_start : any (long_allocation w) (range 0 (length (allocs w))) ≡ allocation_too_long w
  unfolding allocation_too_long
  allocations_start = ap (any (long_allocation w)) (range_all (length (allocs w)))

  pub allocation_short : {a : ℕ} → allocation_too_long w ≡ false → a < length (allocs w) → too_long (allocation_answer w a) ≡ false
  unfolding allocation_too_long
  allocation_short {a} e l = any_not (long_allocation w) 0 (length (allocs w)) a e (omega arith) (omega arith)

-- the first n of an array
pub front : {n : ℕ} (xs out : List ℕ) {out' : List ℕ} → n ≡ length xs → out' ≡ xs ++ drop n out → take n out' ≡ xs
front {n} xs out l e = ap (take n) e ∙ take_at xs (drop n out) n (sym l)

-- ---- order, rounds and sets are never too long, so that intervals and allocations decide

module _ {A : Type 0} where
  any_join : (p : A → Bool) (xs ys : List A) → any p (xs ++ ys) ≡ (any p xs || any p ys)
  any_join p [] ys = refl
  any_join p (x ∷ xs) ys = rw (any_join p xs ys) (sym (or_assoc (p x) (any p xs) (any p ys)))

  any_map : {B : Type 0} (p : B → Bool) (f : A → B) (xs : List A) → any p (map f xs) ≡ any (λ x. p (f x)) xs
  any_map p f [] = refl
  any_map p f (x ∷ xs) = ap (λ (t : Bool). p (f x) || t) (any_map p f xs)

fits : (xs : List ℕ) → length xs ≤ 512 → too_long xs ≡ false
fits xs h = le-ltb 65536 (4 * length xs) (omega arith)

module _ {w uses defs exits : List ℕ} (live : LiveRows w uses defs exits) where
  entry_fits : (b : ℕ) → b < blocks w → is_visited w b ≡ true → too_long (entry_answer w b) ≡ false
  entry_fits b l v =
      let p : ℕ → Bool = λ i. contains uses (512 * b + i) || (contains exits (512 * b + i) && not (contains defs (512 * b + i))) in
      let e : members (set_of 8 p) ≡ entry_answer w b = live.entry_is b l v (set_of 8 p) (λ i h. contains_set_of 8 i p (omega arith)) in
      fits (entry_answer w b) (omega (arith, ap length e, members_most (set_of 8 p)))

  exit_fits : (b : ℕ) → b < blocks w → too_long (exit_answer w b) ≡ false
  exit_fits b l = fits (exit_answer w b) (omega (arith, ap length (live.exit_is b l), members_most (row_of exits b)))

  abbrev sets : ℕ → List (List ℕ)
  sets b = entry_answer w b ∷ exit_answer w b ∷ []

  sets_fit : (bs : List ℕ) → ((b : ℕ) → b ∈ bs → (b < blocks w) × (is_visited w b ≡ true)) → any too_long (bind bs sets) ≡ false
  sets_fit [] h = refl
  sets_fit (b ∷ bs) h =
      let k = h b (Memᴰ.head refl) in
      rw (entry_fits b k.0 k.1, exit_fits b k.0) (sets_fit bs (λ c m. h c (Memᴰ.tail m)))

  pub others_fit : WellFormed w → some_too_long w ≡ (local_too_long w || allocation_too_long w)
  unfolding some_too_long local_too_long allocation_too_long
  others_fit good =
      let L : List (List ℕ) = map (intervals_answer w) (upto (locals w)) in
      let A : List (List ℕ) = map (allocation_answer w) (upto (length (allocs w))) in
      let o : too_long (order_answer w) ≡ false = fits (order_answer w) (omega (arith, order_most w good, good.sized.functions_most, good.sized.blocks_most)) in
      let s : any too_long (bind (visited_blocks w) sets) ≡ false =
      sets_fit (visited_blocks w) (λ b m. let k = keep_out (is_visited w) (upto (blocks w)) m in (mem_upto b (blocks w) k.0, k.1)) in
      let S : List (List ℕ) = bind (visited_blocks w) sets in
      ap (λ (t : Bool). t || any too_long (S ++ L ++ A)) o
      ∙ any_join too_long (S ++ L) A
      ∙ ap (λ (t : Bool). t || any too_long A) (any_join too_long S L ∙ ap (λ (t : Bool). t || any too_long L) s ∙ any_map too_long (intervals_answer w) (upto (locals w)))
      ∙ ap (λ (t : Bool). local_too_long w || t) (any_map too_long (allocation_answer w) (upto (length (allocs w))))

-- there are as many sites as allocations
pub sites_count : {w p sites : List ℕ} → PointerStage w p → sites ≡ sites_in p → length sites ≡ length (allocs w)
sites_count {w} S e = ap length e ∙ ap length S.sites_are ∙ sites_long w

pub sites_most : {w p sites : List ℕ} → PointerStage w p → sites ≡ sites_in p → length sites ≤ 512
unfolding part
sites_most {w} {p} S e = omega (arith, ap length e, length-take (get_or p 0 0) (drop 2 p), S.few)

pub rpo_most : {w visit : List ℕ} → VisitStage w visit → length (rpo_in visit) ≤ 256
unfolding part
rpo_most {w} {visit} v = omega (arith, length-take (get_or visit 0 0) (drop 1 visit), v.few)
