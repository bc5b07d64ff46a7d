-- Laws of folds, and of the lists that a function has for each element, joined.
use Rattle.std.specs.Prelude.{◌≡◌, refl, Bool, true, false, cond, ◌||◌, ℕ, zero, suc, ◌+◌, ◌*◌, ◌≤◌, ◌<◌, length, get_or}
use Rattle.std.proofs.Common.{sym, ◌∙◌, ap, ap₂, mul-suc, arith, length-append, get_or-append-add}
use mathlib.Core.List.{List, [], ◌∷◌, ◌++◌, map, foldr, reverse_aux, reverse, Memᴰ, reverse-append, reverse-cons}
use Rattle.std.proofs.Math.ListN.{get_or-append}
use Rattle.plank_core.specs.Lists.{foldl, bind, keep, ◌∈◌, any}
use Rattle.plank_core.specs.laws.Loops.{bind_snoc}

pub foldl_snoc : {A B : Type 0} (f : B → A → B) (b : B) (xs : List A) (x : A) → foldl f b (xs ++ (x ∷ [])) ≡ f (foldl f b xs) x
foldl_snoc f b [] x = refl
foldl_snoc f b (y ∷ xs) x = foldl_snoc f (f b y) xs x

-- a loop backwards
pub foldl_back : {A B : Type 0} (f : B → A → B) (b : B) (xs ys : List A) → foldl f b (reverse_aux xs ys) ≡ foldl f (foldr (λ x c. f c x) b xs) ys
foldl_back f b [] ys = refl
foldl_back f b (x ∷ xs) ys = foldl_back f b xs (x ∷ ys)

pub foldl_reverse : {A B : Type 0} (f : B → A → B) (b : B) (xs : List A) → foldl f b (reverse xs) ≡ foldr (λ x c. f c x) b xs
foldl_reverse f b xs = foldl_back f b xs []

-- a loop over some, and on over others
pub foldl_append : {A B : Type 0} (f : B → A → B) (b : B) (xs ys : List A) → foldl f b (xs ++ ys) ≡ foldl f (foldl f b xs) ys
foldl_append f b [] ys = refl
foldl_append f b (x ∷ xs) ys = foldl_append f (f b x) xs ys

pub fold_bind : {A B C : Type 0} (f : C → B → C) (g : A → List B) (xs : List A) (c : C) → foldl (λ d x. foldl f d (g x)) c xs ≡ foldl f c (bind xs g)
fold_bind f g [] c = refl
fold_bind f g (x ∷ xs) c = fold_bind f g xs (foldl f c (g x)) ∙ sym (foldl_append f c (g x) (bind xs g))

pub fold_as : {A C : Type 0} (F G : C → A → C) (xs : List A) → ((c : C) (x : A) → Memᴰ x xs → F c x ≡ G c x) → (c : C) → foldl F c xs ≡ foldl G c xs
fold_as F G [] h c = refl
fold_as F G (x ∷ xs) h c = ap (λ d. foldl F d xs) (h c x (Memᴰ.head refl)) ∙ fold_as F G xs (λ d y m. h d y (Memᴰ.tail m)) (G c x)

pub reverse_bind : {A B : Type 0} (g : A → List B) (xs : List A) → reverse (bind xs g) ≡ bind (reverse xs) (λ x. reverse (g x))
reverse_bind g [] = refl
reverse_bind {A} {B} g (x ∷ xs) =
    reverse-append (g x) (bind xs g) ∙ ap (λ (l : List B). l ++ reverse (g x)) (reverse_bind g xs)
    ∙ sym (bind_snoc (λ x. reverse (g x)) (reverse xs) x) ∙ ap (λ (l : List A). bind l (λ x. reverse (g x))) (sym (reverse-cons x xs))

pub bind_single : {A : Type 0} (xs : List A) → bind xs (λ x. x ∷ []) ≡ xs
bind_single [] = refl
bind_single {A} (x ∷ xs) = ap (λ (l : List A). x ∷ l) (bind_single xs)

-- one thing of each
pub bind_one : {A B : Type 0} (f : A → B) (xs : List A) → bind xs (λ x. f x ∷ []) ≡ map f xs
bind_one f [] = refl
bind_one {A} {B} f (x ∷ xs) = ap (λ (l : List B). f x ∷ l) (bind_one f xs)

pub bind_map : {A B C : Type 0} (f : A → B) (g : B → List C) (xs : List A) → bind (map f xs) g ≡ bind xs (λ x. g (f x))
bind_map f g [] = refl
bind_map {A} {B} {C} f g (x ∷ xs) = ap (λ (l : List C). g (f x) ++ l) (bind_map f g xs)

pub bind_kept : {X A : Type 0} (on : X → Bool) (g : X → List A) (xs : List X) → bind xs (λ x. cond (on x) (g x) []) ≡ bind (keep on xs) g
bind_kept on g [] = refl
bind_kept {X} {A} on g (x ∷ xs) = go (on x) (bind_kept on g xs)
  where
    go : (t : Bool) → bind xs (λ x. cond (on x) (g x) []) ≡ bind (keep on xs) g → cond t (g x) [] ++ bind xs (λ x. cond (on x) (g x) []) ≡ bind (cond t (x ∷ keep on xs) (keep on xs)) g
    go true e = ap (λ (r : List A). g x ++ r) e
    go false e = e

pub bind_none : {A X : Type 0} (g : X → List A) (xs : List X) → ((x : X) → Memᴰ x xs → g x ≡ []) → bind xs g ≡ []
bind_none g [] h = refl
bind_none g (x ∷ xs) h = rw (h x (Memᴰ.head refl)) (bind_none g xs (λ y m. h y (Memᴰ.tail m)))

pub bind_each : {B : Type 0} (g h : ℕ → List B) (xs : List ℕ) → ((x : ℕ) → x ∈ xs → g x ≡ h x) → bind xs g ≡ bind xs h
bind_each g h [] e = refl
bind_each g h (x ∷ xs) e = ap₂ (λ a b. a ++ b) (e x (Memᴰ.head refl)) (bind_each g h xs (λ y m. e y (Memᴰ.tail m)))

-- as many of each
pub bind_long : {A B : Type 0} (g : A → List B) (n : ℕ) (xs : List A) → ((x : A) → length (g x) ≡ n) → length (bind xs g) ≡ n * length xs
bind_long g n [] h = omega arith
bind_long g n (x ∷ xs) h =
    let e : n * suc (length xs) ≡ n * length xs + n = mul-suc n (length xs) in
    omega (arith, length-append (g x) (bind xs g), h x, bind_long g n xs h)

-- element j of what the i-th has
pub bind_at : {A B : Type 0} (g : A → List B) (n : ℕ) (xs : List A) → ((x : A) → length (g x) ≡ n) → (i j : ℕ) (a : A) (d : B) → i < length xs → j < n
    → get_or (bind xs g) (n * i + j) d ≡ get_or (g (get_or xs i a)) j d
bind_at g n [] h i j a d l m = absurd (omega arith)
bind_at g n (x ∷ xs) h zero j a d l m =
    let e : n * 0 + j ≡ j = omega arith in
    rw e (get_or-append (g x) (bind xs g) d j (omega (arith, h x)))
bind_at g n (x ∷ xs) h (suc i) j a d l m =
    let e : n * suc i + j ≡ length (g x) + (n * i + j) = omega (arith, h x, mul-suc n i) in
    rw e (get_or-append-add (g x) (bind xs g) (n * i + j) d) ∙ bind_at g n xs h i j a d (omega arith) m

pub bind_most : (g : ℕ → List ℕ) (k : ℕ) (xs : List ℕ) → ((x : ℕ) → x ∈ xs → length (g x) ≤ k) → length (bind xs g) ≤ k * length xs
bind_most g k [] h = omega arith
bind_most g k (x ∷ xs) h =
    let e : k * suc (length xs) ≡ k * length xs + k = mul-suc k (length xs) in
    omega (arith, length-append (g x) (bind xs g), h x (Memᴰ.head refl), bind_most g k xs (λ y m. h y (Memᴰ.tail m)))

pub any_or : {A : Type 0} (p q : A → Bool) (xs : List A) → any (λ x. p x || q x) xs ≡ (any p xs || any q xs)
any_or p q [] = refl
any_or p q (x ∷ xs) = ap (λ (t : Bool). (p x || q x) || t) (any_or p q xs) ∙ swap (p x) (q x) (any p xs) (any q xs)
  where
    swap : (a b c d : Bool) → ((a || b) || (c || d)) ≡ ((a || c) || (b || d))
    swap true b c d = refl
    swap false true true d = refl
    swap false true false d = refl
    swap false false c d = refl
