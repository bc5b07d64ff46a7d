-- `read_payload` meets its contract. The loop's invariant: the payload of p pages is stored, and the rest is as it was.
use Rattle.std.proofs.Common.{◌≡◌, ℕ, ◌+◌, ◌*◌, ◌/◌, ◌%◌, ◌<◌, ◌≤◌, List, ◌++◌, map, sym, refl, ◌∙◌, arith}
use Rattle.plank_core.specs.Lists.{upto}
use Rattle.plank_core.specs.laws.Loops.{map_same, fill_part}
use Rattle.sir_data.specs.Pages.{page_word, pages, payload}
use Rattle.sir_data.specs.laws.Image.{length_payload}
use Rattle.sir_data.proofs.pages.read_payload.Invariants.{taken}
use Rattle.sir_data.proofs.pages.read_payload.Goals as goal

-- the payload of page p is words 126 p, 126 p + 1, ..
page_is : (s : List ℕ) (p start m : ℕ) → start ≡ 126 * p → m ≤ 126 → (part rest : List ℕ) → part ≡ map (λ k. page_word s p (1 + k)) (upto m) ++ rest → part ≡ map (λ i. taken s (start + i)) (upto m) ++ rest
page_is s p start m e h part rest q = q ∙ rw (map_same (λ k. page_word s p (1 + k)) (λ i. taken s (start + i)) m (λ i l. same i (omega arith)))
  where
    same : (i : ℕ) → i < 126 → page_word s p (1 + i) ≡ taken s (start + i)
    same i l =
        let q : (start + i) / 126 ≡ p = omega arith in
        let r : (start + i) % 126 ≡ i = omega arith in
        rw (q, r)

pub loop-p-preserved : goal.loop-p-preserved
loop-p-preserved c =
    let first = c.args in
    let l = c.loop-p in
    let s = first.image.now in
    let next : 126 * (l.p + 1) ≡ 126 * l.p + 126 = omega arith in
    (omega arith, rw next (fill_part (taken s) (126 * l.p) 126 first.words.now l.invariant.1 (page_is s l.p (126 * l.p) 126 refl (omega arith) _ _ c.read_page.ensures)))

pub returns : goal.returns
unfolding payload
returns c =
    let s = c.args.image.now in
    let l = c.loop-p in
    let e : 126 * l.p ≡ 126 * pages s = omega arith in
    (sym (length_payload s), l.invariant.1 ∙ rw e)
