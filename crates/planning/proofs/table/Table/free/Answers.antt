-- The row is scaled, and each turn runs the first of the passes that are left. Assumes nothing.
use Rattle.std.proofs.Common.{map, refl, ◌∙◌}
use Rattle.std.proofs.lemmas.Result.{err_from_is_err_and}
use Rattle.elimination.specs.Moves.{at, pass}
use Rattle.planning.proofs.Runs.{kept_on, left-on, left_none, onward-on}
use Rattle.planning.proofs.table.Table.free.Goals as goal

pub loop-w-preserved : goal.loop-w-preserved
loop-w-preserved c =
    let e = c.in_ok-pass.ensures in
    record { kept = kept_on c.loop-w.invariant.kept e.kept; run = left-on c.loop-w.invariant c.loop-w-test.true e.run refl }

pub returns : goal.returns
returns c =
    let scaled = c.in_ok-scale.ensures in
    let passes = map (λ w. at c.args.u (pass c.args.v w)) c.args.later.now in
    record {
      run = left_none c.loop-w.invariant c.loop-w-test.false ∙ onward-on passes scaled.run;
      kept = kept_on scaled.kept c.loop-w.invariant.kept;
    }

pub returns-in_err-pass : goal.returns-in_err-pass
returns-in_err-pass c =
    let p = err_from_is_err_and c.from_residual-in_err-pass.result c.from_residual-in_err-pass.ensures.1 in
    let scaled = c.in_ok-scale.ensures in
    let e = c.in_err-pass.ensures in
    let passes = map (λ w. at c.args.u (pass c.args.v w)) c.args.later.now in
    record {
      run = rw (p.1, p.2) (left-on c.loop-w.invariant c.loop-w-test.true e.run refl ∙ onward-on passes scaled.run);
      kept = kept_on scaled.kept (kept_on c.loop-w.invariant.kept e.kept);
    }
