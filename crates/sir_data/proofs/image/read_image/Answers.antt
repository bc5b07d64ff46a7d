-- `read_image` meets its contract: the pages decide, or the records of the payload that is read.
use Rattle.std.proofs.Common.{◌≡◌, ℕ, ◌≤◌, List, ◌++◌, length, take, drop, sym, refl, ap, ◌∙◌, arith, rules, length-take-le, take_at}
use Rattle.sir_data.specs.Pages.{payload}
use Rattle.sir_data.specs.Rules.{first, page_rules, record_rules}
use Rattle.sir_data.specs.Refusals.{refused, number}
use Rattle.sir_data.specs.inner.Image.{Read}
use Rattle.sir_data.specs.laws.Refusals.{not_0}
use Rattle.sir_data.specs.laws.Image.{length_payload, pages_range, by_records, by_pages}
use Rattle.sir_data.proofs.image.read_image.Goals as goal

pub returns-in_err-check_pages-clause-read : goal.returns-in_err-check_pages-clause-read
returns-in_err-check_pages-clause-read c =
    let s = c.args.image.now in
    let r = c.in_err-check_pages in
    let e : refused c.from_residual.result ≡ number r.field-0.0 = search rules in
    let broken : ¬ (first (page_rules s) ≡ 0) = λ z. not_0 r.field-0.0 (r.ensures ∙ z) in
    rw e (record { number = r.ensures ∙ sym (by_pages s broken); words = λ z. absurd (broken z); untouched = λ z. refl; kept = refl })

pub check_records-requires : goal.check_records-requires
check_records-requires c =
    let s = c.args.image.now in
    let pages = pages_range s (sym c.in_ok-check_pages.ensures) in
    let within : c.read_payload-n.result ≤ length c.read_payload-n.new.words = omega (arith, pages, length_payload s) in
    rw (length-take-le _ _ within) (omega (arith, pages, length_payload s))

-- the payload is read: the records decide
decided : (s old new : List ℕ) (n r : ℕ) → first (page_rules s) ≡ 0 → n ≡ length (payload s) → new ≡ payload s ++ drop n old → length new ≡ length old → r ≡ first (record_rules (take n new)) → Read s old new r
decided s old new n r pages e is long decides =
    let front : take n new ≡ payload s = rw is (take_at (payload s) _ _ (sym e)) in
    record {
      number = decides ∙ ap (λ (w : List ℕ). first (record_rules w)) front ∙ sym (by_records s pages);
      words = λ h. rw e at is;
      untouched = λ h. absurd (h pages);
      kept = long;
    }

pub returns-in_err-check_records-clause-read : goal.returns-in_err-check_records-clause-read
returns-in_err-check_records-clause-read c =
    let r = c.in_err-check_records in
    let p = c.read_payload-n.ensures in
    let e : refused c.from_residual-in_err-check_records.result ≡ number r.field-0.0 = search rules in
    rw e (decided c.args.image.now c.args.words.now _ _ _ (sym c.in_ok-check_pages.ensures) p.0 p.1 (omega arith) r.ensures)
