-- Where both expressions are made, the place in the row is written; where the second is refused, the row is as it was.
-- Assumes nothing.
use Rattle.std.proofs.Common.{ap, ◌∙◌, arith, rules}
use Rattle.std.proofs.lemmas.Result.{err_from_is_err_and}
use Rattle.expressions.specs.Stores.{contents}
use Rattle.planning.specs.Running.{through}
use Rattle.planning.specs.Tables.{row_of}
use Rattle.planning.proofs.Entries.{row_put, row_stays, row_fits}
use Rattle.planning.proofs.Runs.{extends-on, passed}
use Rattle.planning.proofs.rows.Row.pass.Goals as goal

pub returns-in_err-self : goal.returns-in_err-self
returns-in_err-self c =
    let carried = c.in_ok-carried.ensures in
    let made = c.in_err-self.ensures in
    let p = err_from_is_err_and c.from_residual-in_err-self.result c.from_residual-in_err-self.ensures.1 in
    record {
      moved = rw (p.1, p.2) (passed (row_of c.args.self.now) (contents c.args.store.now) c.args.v c.args.w c.args.leads carried.made made.made);
      fits = row_stays made.kept.grown.counts (row_stays carried.kept.grown.counts (search rules));
      kept = extends-on carried.kept made.kept;
    }

pub returns : goal.returns
returns c =
    let carried = c.in_ok-carried.ensures in
    let made = c.in_ok-self.ensures in
    let row = c.args.self.now in
    let x = c.in_ok-self.field-0 in
    record {
      moved = ap (through (contents c.sum.new.self)) (row_put row c.args.w x (omega arith)) ∙ passed (row_of row) (contents c.args.store.now) c.args.v c.args.w c.args.leads carried.made made.made;
      fits = row_fits c.args.w x c.requires.to made.used (row_stays made.kept.grown.counts (row_stays carried.kept.grown.counts c.requires.fits));
      kept = extends-on carried.kept made.kept;
    }
