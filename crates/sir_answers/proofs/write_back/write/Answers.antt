-- `write` meets its contract.
use native.Mathlib.Omega.{arith}
use Rattle.sir_data.specs.laws.Bytes.{Bytes}
use Rattle.sir_analyses.proofs.claims.WriteBackProof.{read_back, readers_number}
use Rattle.sir_answers.proofs.write_back.write.Goals as goal

pub returns : goal.returns
returns c =
    let r = c.args.records.now in
    let bytes : Bytes r = λ i l. omega (arith, c.type_inv.records i) in
    record { out_after = rw (c.from.ensures.0, c.from.ensures.1) c.try_write.ensures; read_back = read_back r bytes; readers_number = readers_number r bytes }
