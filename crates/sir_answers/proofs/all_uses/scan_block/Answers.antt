-- `scan_block` meets its contract.
use native.Mathlib.Omega.{arith}
use Rattle.sir_answers.specs.inner.Pieces.{input_use_pieces, end_pieces}
use Rattle.sir_answers.proofs.scatter.Scattering.{scatters_then, fits_first, fits_rest}
use Rattle.sir_answers.proofs.all_uses.scan_block.Goals as goal

pub scan_operations-requires : goal.scan_operations-requires
scan_operations-requires c =
    let w = c.args.b.image.words.now in
    let b = c.args.b.id.0 in
    record { cursors_len = c.requires.cursors_len; fits = fits_first (input_use_pieces w b) (end_pieces w b) c.requires.fits }

pub scan_ends-requires : goal.scan_ends-requires
scan_ends-requires c =
    record { cursors_len = omega (arith, c.requires.cursors_len); fits = fits_rest (end_pieces c.args.b.image.words.now c.args.b.id.0) c.requires.fits c.scan_operations.ensures }

pub returns : goal.returns
returns c =
    scatters_then c.scan_operations.ensures c.scan_ends.ensures
