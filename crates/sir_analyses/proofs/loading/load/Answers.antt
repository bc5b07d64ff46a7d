-- `load` meets its contract.
use mathlib.Core.Path.{refl, sym, ◌∙◌}
use Rattle.std.proofs.Common.{rules}
use Rattle.sir_analyses.proofs.loading.Loads.{front_good, last_is, prepared_ok}
use Rattle.sir_analyses.proofs.loading.load.Goals as goal

pub returns-in_err-n : goal.returns-in_err-n
returns-in_err-n c = record { number = search rules; prepared = search rules }

pub load_visit-requires : goal.load_visit-requires
load_visit-requires c =
    record { postorder_len = c.requires.words_len.1; visit_value = c.requires.visit_value }

pub invariant_of-load_visit : goal.invariant_of-load_visit
invariant_of-load_visit c =
    record { well_formed = front_good c.in_ok-n.ensures.read refl c.in_ok-n.ensures.count }

pub returns : goal.returns
returns c =
    let k = c.in_ok-n.ensures in
    record {
      number = c.load_visit.ensures.number ∙ sym (last_is k.read refl k.count);
      prepared = prepared_ok k.read refl k.count _ _ _ c.load_visit.result c.load_visit.ensures.prepared;
    }
