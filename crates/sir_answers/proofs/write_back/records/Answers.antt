-- `records` meets its contract.
use native.Mathlib.Omega.{arith}
use Rattle.sir_data.specs.laws.Bytes.{Bytes}
use Rattle.sir_analyses.proofs.claims.WriteBackProof.{written_back, page_rule}
use Rattle.sir_answers.proofs.write_back.records.Goals as goal

pub returns : goal.returns
returns c =
    let image = c.args.image.now in
    let bytes : Bytes image = λ i l. omega (arith, c.type_inv.image i) in
    record { out_after = rw (c.from.ensures.0, c.from.ensures.1) c.try_records.ensures; written_back = written_back image bytes; page_rule = page_rule image bytes }
