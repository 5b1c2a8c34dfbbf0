-- Where the expression is made, its place in the row is written. Assumes nothing.
use Rattle.std.proofs.Common.{arith, rules}
use Rattle.planning.proofs.Entries.{row_put, row_stays, row_fits}
use Rattle.planning.proofs.rows.Row.scale.Goals as goal

pub returns : goal.returns
returns c =
    let made = c.in_ok-self.ensures in
    let written = row_put c.args.self.now c.args.v c.in_ok-self.field-0 (omega arith) in
    let fits = row_fits c.args.v c.in_ok-self.field-0 c.requires.place made.used (row_stays made.kept.grown.counts c.requires.fits) in
    search rules
