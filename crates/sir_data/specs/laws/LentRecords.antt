-- Records of an image that is taken, and lent records that are: `later` are the rules after 6, whatever they are.
use Rattle.std.specs.Prelude.{◌≡◌, ℕ, zero, suc, ◌-◌, ◌*◌, ◌%◌, ◌≤◌, Bool, true, false, not, ltb, List, [], ◌∷◌, ◌++◌, length, drop, replicate, ◌==◌, nat_eq, nat_lt, slice_index_or}
use Rattle.std.proofs.Math.Path.{refl, sym, ap}
use Rattle.std.proofs.Common.{◌∙◌, arith, length-drop, get_or-take, get_or-drop, take_at, drop_at, ext_get_or, length-take-le}
use Rattle.std.proofs.Math.ListN.{get_or-eq_default}
use borrow.Author.Tests.{eq-eqb, le-ltb, ltb-true, ltb-false, eqb-true, not-false}
use Rattle.plank_core.specs.Lists.{any, bind}
use Rattle.plank_core.specs.laws.Lists.{or_false_left, or_false_right, none, any_mem, get_or_mem}
use Rattle.sir_data.specs.Pages.{pages_for, payload, bytes_of}
use Rattle.sir_data.specs.Records.{word, word_count}
use Rattle.sir_data.specs.Rules.{rule4, rule5, rule6, first, page_rules, head_rules}
use Rattle.sir_data.specs.Paging.{records_of, words_of, bad_records, unfit, padded, pages_of}
use Rattle.sir_data.specs.inner.WellFormed.{Sized}
use Rattle.sir_data.specs.laws.Rules.{by_later, first_left, first_right, kept}
use Rattle.sir_data.specs.laws.WellFormed.{sized, fits, words_most}
use Rattle.sir_data.specs.laws.Bytes.{Bytes, Words, length_bytes, words_back, words_small, bytes_back}
use Rattle.sir_data.specs.laws.Paging.{word_range, padded_word, padded_length, pages_length, payload_pages, pages_kept, pages_same, payload_small, pages_back}

-- ---- rule 6 does not apply: the records, and zeros up to whole pages

module _ (w : List ℕ) (fit : rule6 w ≡ false) where
  page_count : length w ≡ 126 * pages_for (word_count w)
  unfolding rule6
  page_count = eqb-true (length w) (126 * pages_for (word_count w)) (not-false _ (or_false_left (not (length w == 126 * pages_for (word_count w))) (any (λ x. not (x == 0)) (drop (word_count w) w)) fit))

  no_padding_bad : any (λ x. not (x == 0)) (drop (word_count w) w) ≡ false
  unfolding rule6
  no_padding_bad = or_false_right (not (length w == 126 * pages_for (word_count w))) (any (λ x. not (x == 0)) (drop (word_count w) w)) fit

  padding_zero : (i : ℕ) → word_count w ≤ i → word w i ≡ 0
  padding_zero i h = go (nat_lt i (length w)) refl
    where
      at : slice_index_or (drop (word_count w) w) (i - word_count w) 0 ≡ word w i
      at = get_or-drop (word_count w) w (i - word_count w) 0 ∙ ap (word w) (omega arith)

      zeros : (t : Bool) → (word w i == 0) ≡ t → nat_lt i (length w) ≡ true → word w i ≡ 0
      zeros true z e = eqb-true (word w i) 0 z
      zeros false z e =
          none (any (λ x. not (x == 0)) (drop (word_count w) w))
          (any_mem (λ x. not (x == 0)) (get_or_mem (drop (word_count w) w) (i - word_count w) 0 (omega (arith, length-drop (word_count w) w, ltb-true i (length w) e))) (rw (at, z))) no_padding_bad

      go : (t : Bool) → nat_lt i (length w) ≡ t → word w i ≡ 0
      go true e = zeros (word w i == 0) refl e
      go false e = get_or-eq_default w 0 (ltb-false i (length w) e)

  records_length : length (records_of w) ≡ word_count w
  records_length = length-take-le (word_count w) w (fits w fit)

  -- without their padding they are the same words, and take as many pages
  records_word : (i : ℕ) → word (records_of w) i ≡ word w i
  records_word i = go (nat_lt i (word_count w)) refl
    where
      go : (t : Bool) → nat_lt i (word_count w) ≡ t → word (records_of w) i ≡ word w i
      go true e = get_or-take (word_count w) w i 0 (ltb-true i (word_count w) e)
      go false e =
          let l = ltb-false i (word_count w) e in
          get_or-eq_default (records_of w) 0 (omega (arith, records_length)) ∙ sym (padding_zero i l)

  records_padded : padded (records_of w) ≡ w
  records_padded =
      ext_get_or 0 (padded (records_of w)) w (padded_length (records_of w) ∙ omega (arith, page_count, records_length))
      (λ i l. padded_word (records_of w) i ∙ records_word i)

  records_pages : pages_of (records_of w) ≡ pages_of w
  records_pages = pages_same (records_of w) w (omega (arith, page_count, records_length)) records_word

-- ---- lent words with their padding

module _ (w : List ℕ) where
  pub padded_count : word_count (padded w) ≡ word_count w
  padded_count = simp (padded_word w)

  module _ (fit : length w ≡ word_count w) where
    fit_records : records_of (padded w) ≡ w
    fit_records = rw padded_count (take_at w (replicate (126 * pages_for (length w) - length w) 0) (word_count w) fit)

    fit_six : rule6 (padded w) ≡ false
    unfolding rule6
    fit_six =
        let z : ℕ = 126 * pages_for (length w) - length w in
        let a : nat_eq (length (padded w)) (126 * pages_for (word_count (padded w))) ≡ true = eq-eqb _ _ (padded_length w ∙ ap (λ (n : ℕ). 126 * pages_for n) (fit ∙ sym padded_count)) in
        let b : drop (word_count (padded w)) (padded w) ≡ replicate z 0 = rw padded_count (drop_at w (replicate z 0) (word_count w) fit) in
        rw (a, b) (no_nonzero z)
      where
        no_nonzero : (n : ℕ) → any (λ x. not (x == 0)) (replicate n 0) ≡ false
        no_nonzero zero = refl
        no_nonzero (suc n) = no_nonzero n

-- the head goes by the first nine words
pub head_same : (w v : List ℕ) → ((i : ℕ) → i ≤ 8 → word w i ≡ word v i) → head_rules w ≡ head_rules v
unfolding rule4 rule5
head_same w v h = rw (h 0 (omega arith), h 1 (omega arith), h 2 (omega arith), h 3 (omega arith), h 4 (omega arith), h 5 (omega arith), h 6 (omega arith))

-- ---- whatever the rules after 6

module _ (later : List ℕ → List (ℕ × Bool)) where
  -- the rules of words w, where `unfit` tells whether 6 applies
  abbrev pub ruled : Bool → List ℕ → List (ℕ × Bool)
  ruled unfit w = head_rules w ++ (6, unfit) ∷ later w

  -- the reader's number, and the writer's
  abbrev pub reads : List ℕ → ℕ
  reads s = first (page_rules s ++ ruled (rule6 (payload s)) (payload s))

  abbrev pub writes : List ℕ → ℕ
  writes r = first ((6, bad_records r) ∷ ruled (unfit (words_of r)) (padded (words_of r)))

  -- where the pages are in order the words decide
  by_words : (s : List ℕ) → first (page_rules s) ≡ 0 → reads s ≡ first (ruled (rule6 (payload s)) (payload s))
  by_words s = by_later (page_rules s) (ruled (rule6 (payload s)) (payload s)) refl

  ruled_fit : (u : Bool) (w : List ℕ) → first (ruled u w) ≡ 0 → u ≡ false
  ruled_fit u w h = kept 6 (ruled u w) refl h

  -- the reader's own number on the pages, where the words are as many as the counts call for
  pub fitting : (w : List ℕ) → Words w → length w ≡ word_count w → length w ≤ 14742 → first (ruled (unfit w) (padded w)) ≡ reads (pages_of w)
  fitting w ws fit most =
      let in_order = pages_kept w ws (omega arith) (omega arith) in
      let u : unfit w ≡ false = ap not (eq-eqb (length w) (word_count w) fit) in
      sym (by_words (pages_of w) in_order ∙ rw (payload_pages w ws, fit_six w fit, u))

  module _ (s : List ℕ) (bytes : Bytes s) (accepted : reads s ≡ 0) where
    in_order : first (page_rules s) ≡ 0
    in_order = first_left (page_rules s) (ruled (rule6 (payload s)) (payload s)) accepted

    no_rule : first (ruled (rule6 (payload s)) (payload s)) ≡ 0
    no_rule = sym (by_words s in_order) ∙ accepted

    image_fits : rule6 (payload s) ≡ false
    image_fits = ruled_fit (rule6 (payload s)) (payload s) no_rule

    abbrev records : List ℕ
    records = records_of (payload s)

    same_records : words_of (bind records bytes_of) ≡ records
    same_records = words_back records (λ i l. rw (records_word (payload s) image_fits i) (word_range (payload s) (payload_small s bytes) i))

    -- the records of an accepted image give its pages back
    pub written_back : pages_of (words_of (bind records bytes_of)) ≡ s
    written_back = rw same_records (records_pages (payload s) image_fits ∙ pages_back s bytes in_order)

    -- and break no rule
    pub written_well : writes (bind records bytes_of) ≡ 0
    written_well =
        let n = records_length (payload s) image_fits in
        let len : length (bind records bytes_of) ≡ 4 * word_count (payload s) = length_bytes records ∙ ap (λ (k : ℕ). 4 * k) n in
        let a : ltb (length (bind records bytes_of)) 36 ≡ false = le-ltb (length (bind records bytes_of)) 36 (omega arith) in
        let b : nat_eq (length (bind records bytes_of) % 4) 0 ≡ true = eq-eqb (length (bind records bytes_of) % 4) 0 (omega arith) in
        let c : word_count records ≡ word_count (payload s) = simp (records_word (payload s) image_fits) in
        let u : unfit records ≡ false = ap not (eq-eqb (length records) (word_count records) (n ∙ sym c)) in
        rw (a, b, same_records, records_padded (payload s) image_fits, u) (rw image_fits at no_rule)

  module _ (r : List ℕ) (accepted : writes r ≡ 0) where
    abbrev lent : List ℕ
    lent = words_of r

    no_lent_rule : first (ruled (unfit lent) (padded lent)) ≡ 0
    no_lent_rule = first_right ((6, bad_records r) ∷ []) (ruled (unfit lent) (padded lent)) refl accepted

    pub whole : length r % 4 ≡ 0
    whole = eqb-true (length r % 4) 0 (not-false _ (or_false_right (nat_lt (length r) 36) (not (length r % 4 == 0)) (kept 6 ((6, bad_records r) ∷ ruled (unfit lent) (padded lent)) refl accepted)))

    pub lent_fits : length lent ≡ word_count lent
    lent_fits = eqb-true (length lent) (word_count lent) (not-false _ (ruled_fit (unfit lent) (padded lent) no_lent_rule))

    pub lent_sized : Sized (padded lent)
    lent_sized =
        sized (padded lent) (first_left (head_rules (padded lent)) ((6, unfit lent) ∷ later (padded lent)) no_lent_rule)
        (omega (arith, lent_fits, padded_count lent, padded_length lent))

    pub few : length lent ≤ 14665
    few = omega (arith, lent_fits, padded_count lent, words_most lent_sized)

    -- 117 pages hold them
    pub pages_few : length (pages_of lent) ≤ 59904
    pages_few = omega (arith, few, pages_length lent)

    module _ (bytes : Bytes r) where
      -- the reader takes the pages
      pub taken : reads (pages_of lent) ≡ 0
      taken = sym (fitting lent (words_small r bytes) lent_fits (omega (arith, few))) ∙ no_lent_rule

      -- reads the lent words from them
      pub lent_payload : payload (pages_of lent) ≡ padded lent
      lent_payload = payload_pages lent (words_small r bytes)

      -- and they yield those same records
      pub yielded : bind (records_of (payload (pages_of lent))) bytes_of ≡ r
      yielded = rw (lent_payload, fit_records lent lent_fits) (bytes_back r bytes whole)
