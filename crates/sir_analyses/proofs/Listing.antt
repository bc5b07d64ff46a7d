-- Lists written into arrays one after the other, whole or as far as there is room.
use mathlib.Core.Path.{◌≡◌, refl, ◌∙◌}
use mathlib.Core.List.{List, ◌∷◌, ◌++◌, append_assoc}
use Prim.Native.Nat.{ℕ, ◌+◌, ◌≤◌, ◌<◌}
use native.Mathlib.Numerals.{add-one}
use native.Mathlib.Omega.{arith}
use lib.ListN.{length, take, set, length-set}
use lib.Seq.{take-suc-set}

-- ---- a list under way

-- the first of `full` stand in the array after its first `at`, up to m, and `rest` are to come
pub record Listing (full : List ℕ) (at : ℕ) (old rest new : List ℕ) (m : ℕ) : Type 0 where
  pub count : m + length rest ≡ at + length full
  pub list : take m new ++ rest ≡ take at old ++ full
  pub long : length new ≡ length old

module _ {full : List ℕ} {at : ℕ} {old : List ℕ} where
  pub listing_none : Listing full at old full old at
  listing_none = record { count = refl; list = refl; long = refl }

  pub listing_as : {rest rest' new : List ℕ} {m : ℕ} → rest ≡ rest' → Listing full at old rest new m → Listing full at old rest' new m
  listing_as e k = rw e at k

  pub listing_put : {x : ℕ} {rest new : List ℕ} {m : ℕ} → m < length new → Listing full at old (x ∷ rest) new m → Listing full at old rest (set new m x) (m + 1)
  listing_put {x} {rest} {new} {m} h k = record {
    count = omega (arith, k.count);
    list = rw (add-one, take-suc-set new m x h, append_assoc) k.list;
    long = length-set new m x ∙ k.long;
  }

-- ---- a list that may not fit

module _ {full : List ℕ} {at : ℕ} {old : List ℕ} where
  -- there is no room for the next one
  pub capped_stop : {x : ℕ} {rest new : List ℕ} {m : ℕ} → length new ≤ m → Listing full at old (x ∷ rest) new m → (length old < at + length full) × (length new ≡ length old)
  capped_stop h k = (omega (arith, k.count, k.long), k.long)
