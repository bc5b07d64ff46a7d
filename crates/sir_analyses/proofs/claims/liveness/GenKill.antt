-- The entry set of a block from its use and def sets, each made once from the block: entry = use ∪ (exit − def).
use mathlib.Core.Path.{◌≡◌, refl, sym, ap, ◌∙◌}
use mathlib.Core.Logic.{⊎_elim}
use mathlib.Core.Bool.{Bool, true, false, not, ◌&&◌, ◌||◌, or-true, or-false, and-true, and-false}
use Prim.Native.Nat.{ℕ, ◌<◌, ◌≤◌}
use native.Mathlib.Omega.{arith}
use mathlib.Core.List.{List, [], ◌∷◌, foldr}
use lib.ListN.{length, get_or-eq_default}
use Rattle.plank_core.specs.Lists.{mem, any}
use Rattle.plank_core.specs.laws.Lists.{or_true_left, or_true_right, or_cases, both_true, and_true_left, and_true_right, split}
use Rattle.plank_core.specs.laws.Loops.{length_map_upto, get_or_map_upto}
use Rattle.sir_data.specs.Records.{locals, ops, ins, outs}
use Rattle.sir_analyses.specs.Liveness.{Set, has, add_all, remove_all, end_reads, read_first, use_set, def_set, entry_from}
use Rattle.sir_analyses.proofs.SetLaws.{has_less, length_add_all, length_remove_all, has_add_all, has_remove_all, Within}

module _ (w : List ℕ) where
  -- the operations os backwards, after which the locals c are read
  abbrev pub through : List ℕ → List ℕ → Set → Set
  through c os x = foldr (λ o s. add_all (remove_all s (outs w o)) (ins w o)) (add_all x c) os

  pub length_through : (c os : List ℕ) (x : Set) → length (through c os x) ≡ length x
  length_through c [] x = length_add_all x c
  length_through c (o ∷ os) x =
      length_add_all (remove_all (through c os x) (outs w o)) (ins w o) ∙ length_remove_all (through c os x) (outs w o) ∙ length_through c os x

  -- an operation of os defines v
  abbrev pub defined : List ℕ → ℕ → Bool
  defined os v = any (λ o. mem v (outs w o)) os

  tests : (r x d o i : Bool) → (((r || (x && not d)) && not o) || i) ≡ ((i || (not o && r)) || (x && not (o || d)))
  tests r x d o true = simp or-true
  tests r x d true false = simp and-false
  tests true x d false false = refl
  tests false x d false false = simp (and-true, or-false)

  pub through_has : (c os : List ℕ) (x : Set) (v : ℕ) → v < length x → has (through c os x) v ≡ (read_first w c os v || (has x v && not (defined os v)))
  through_has c [] x v h = has_add_all x c v h ∙ go (has x v) (mem v c)
    where
      go : (a m : Bool) → (a || m) ≡ (m || (a && true))
      go true true = refl
      go true false = refl
      go false true = refl
      go false false = refl
  through_has c (o ∷ os) x v h =
      let s = through c os x in
      let l : v < length s = rw length_through h in
      let k : v < length (remove_all s (outs w o)) = rw length_remove_all l in
      has_add_all (remove_all s (outs w o)) (ins w o) v k
      ∙ ap (λ (a : Bool). a || mem v (ins w o)) (has_remove_all s (outs w o) v l)
      ∙ ap (λ (a : Bool). (a && not (mem v (outs w o))) || mem v (ins w o)) (through_has c os x v h)
      ∙ tests (read_first w c os v) (has x v) (defined os v) (mem v (outs w o)) (mem v (ins w o))

  behind : (r x d o i : Bool) → (i || (not o && (r || (x && not d)))) ≡ ((i || (not o && r)) || (x && not (o || d)))
  behind r x d o true = refl
  behind r x d true false = sym (and-false x)
  behind r x d false false = refl

  -- what is read after the operations counts where none of them defines it
  pub read_after : (c os : List ℕ) (v : ℕ) → read_first w c os v ≡ (read_first w [] os v || (mem v c && not (defined os v)))
  read_after c [] v = sym (and-true (mem v c))
  read_after c (o ∷ os) v =
      ap (λ (a : Bool). mem v (ins w o) || (not (mem v (outs w o)) && a)) (read_after c os v)
      ∙ behind (read_first w [] os v) (mem v c) (defined os v) (mem v (outs w o)) (mem v (ins w o))

pub beyond : (s : Set) (v : ℕ) → length s ≤ v → has s v ≡ false
beyond s v h = get_or-eq_default s false {n = v} h

pub entry_length : (w : List ℕ) (b : ℕ) (x : Set) → length (entry_from w b x) ≡ length x
entry_length w b x = length_through w (end_reads w b) (ops w b) x

-- the entry set grows with the exit set
pub entry_grows : (w : List ℕ) (b : ℕ) (x y : Set) → length x ≡ length y → Within x y → Within (entry_from w b x) (entry_from w b y)
entry_grows w b x y e f v t =
    let c = end_reads w b in
    let h : v < length x = rw entry_length at (has_less (entry_from w b x) v t) in
    let r : Bool = read_first w c (ops w b) v in
    let d : Bool = defined w (ops w b) v in
    through_has w c (ops w b) y v (omega arith)
    ∙ ⊎_elim
    (λ (a : r ≡ true). or_true_left r (has y v && not d) a)
    (λ (a : (has x v && not d) ≡ true). or_true_right r (has y v && not d) (both_true (has y v) (not d) (f v (and_true_left (has x v) (not d) a)) (and_true_right (has x v) (not d) a)))
    (or_cases r (has x v && not d) (sym (through_has w c (ops w b) x v h) ∙ t))

module _ (w : List ℕ) (b : ℕ) where
  pub use_length : length (use_set w b) ≡ locals w
  use_length = length_map_upto (read_first w (end_reads w b) (ops w b)) (locals w)

  pub def_length : length (def_set w b) ≡ locals w
  def_length = length_map_upto (defined w (ops w b)) (locals w)

  pub has_use : (v : ℕ) → v < locals w → has (use_set w b) v ≡ read_first w (end_reads w b) (ops w b) v
  has_use v h = get_or_map_upto (read_first w (end_reads w b) (ops w b)) (locals w) v false h

  pub has_def : (v : ℕ) → v < locals w → has (def_set w b) v ≡ defined w (ops w b) v
  has_def v h = get_or_map_upto (defined w (ops w b)) (locals w) v false h

  pub gen_kill : (x : Set) → length x ≡ locals w → (v : ℕ) → has (entry_from w b x) v ≡ (has (use_set w b) v || (has x v && not (has (def_set w b) v)))
  gen_kill x e v =
      ⊎_elim
      (λ (h : v < locals w). rw (has_use v h, has_def v h) (through_has w (end_reads w b) (ops w b) x v (omega arith)))
      (λ (h : locals w ≤ v).
      rw (beyond (use_set w b) v (rw use_length h), beyond x v (omega arith)) (beyond (entry_from w b x) v (rw entry_length (omega arith))))
      (split v (locals w))
