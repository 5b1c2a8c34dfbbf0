-- Each turn frees the first of the rows that are left. Assumes nothing.
use Rattle.std.proofs.Common.{get_or, refl}
use Rattle.std.proofs.lemmas.Result.{err_from_is_err_and}
use Rattle.planning.specs.Running.{freeing}
use Rattle.planning.proofs.Runs.{kept_on, left-first, left_none}
use Rattle.planning.proofs.table.Table.free_all.Goals as goal

pub loop-u-preserved : goal.loop-u-preserved
loop-u-preserved c =
    let e = c.in_ok-free.ensures in
    let first = freeing c.args.v c.args.later.now (get_or c.args.later.now c.loop-u.u-index 0) in
    record { kept = kept_on c.loop-u.invariant.kept e.kept; run = left-first first c.loop-u.invariant c.loop-u-test.true refl e.run }

pub returns-in_err-free : goal.returns-in_err-free
returns-in_err-free c =
    let p = err_from_is_err_and c.from_residual.result c.from_residual.ensures.1 in
    let e = c.in_err-free.ensures in
    let first = freeing c.args.v c.args.later.now (get_or c.args.later.now c.loop-u.u-index 0) in
    record {
      run = rw (p.1, p.2) (left-first first c.loop-u.invariant c.loop-u-test.true refl e.run);
      kept = kept_on c.loop-u.invariant.kept e.kept;
    }

pub returns : goal.returns
returns c = record { run = left_none c.loop-u.invariant c.loop-u-test.false; kept = c.loop-u.invariant.kept }
