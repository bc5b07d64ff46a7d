-- `report_tables` meets its contract.
use mathlib.Core.Path.{◌≡◌, refl, sym, ◌∙◌}
use Rattle.report_lines.specs.Counting.{local_too_long}
use Rattle.report_lines.proofs.TooLong.{others_fit}
use Rattle.report_lines.proofs.printing.report_tables.Goals as goal
use Rattle.report_lines.proofs.printing.report_tables.Goals.{then-local_too_long-via-then-local_too_long, then-local_too_long-via-else-local_too_long+then-allocation_too_long}

pub returns-then-local_too_long : goal.returns-then-local_too_long
returns-then-local_too_long g c =
    let t = c.args.tables in
    let long : c.local_too_long.result ≡ local_too_long t.image.words.now = rw c.analysed.ensures.0 at c.local_too_long.ensures in
    c.print_refused.ensures ∙ rw (others_fit t.liveness_stage.sets t.image.well_formed)
    (elim c.then-local_too_long.branch [
      | then-local_too_long-via-then-local_too_long w ↦ rw (sym long ∙ w.if-local_too_long.true) refl
      | then-local_too_long-via-else-local_too_long+then-allocation_too_long w ↦ rw (sym long ∙ w.if-local_too_long.false, sym w.allocation_too_long.ensures ∙ w.if-allocation_too_long.true) refl
    ])

pub returns : goal.returns
returns g c =
    let t = c.args.tables in
    let long : c.local_too_long.result ≡ local_too_long t.image.words.now = rw c.analysed.ensures.0 at c.local_too_long.ensures in
    rw (others_fit t.liveness_stage.sets t.image.well_formed, sym long ∙ c.if-local_too_long.false, sym c.allocation_too_long.ensures ∙ c.if-allocation_too_long.false) refl
