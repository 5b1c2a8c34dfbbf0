-- Each turn loads the first of the steps that are left, if it is in force. Assumes nothing.
use Rattle.std.proofs.Common.{◌+◌, [], get_or, drop, sym, refl, ap, arith}
use Rattle.std.proofs.lemmas.Result.{err_from_is_err_and}
use Rattle.planning.specs.Eliminating.{by_acts}
use Rattle.planning.proofs.Loads.{joins, numbers, length_numbers, loads-first, loads_past}
use Rattle.planning.proofs.Runs.{kept_on, left-on, left-first, left_none}
use Rattle.planning.proofs.table.Table.load.Goals as goal

pub bounds-component-from : goal.bounds-component-from
bounds-component-from c = (joins _ _ c.loop-j-test.true c.requires.joined c.if-not-step.false).0

pub bounds-component-to : goal.bounds-component-to
bounds-component-to c = (joins _ _ c.loop-j-test.true c.requires.joined c.if-not-step.false).1

pub load_step-requires : goal.load_step-requires
load_step-requires c =
    let ends = joins _ _ c.loop-j-test.true c.requires.joined c.if-not-step.false in
    record { from = ends.0; to = ends.1 }

pub loop-j-preserved : goal.loop-j-preserved
loop-j-preserved c =
    let e = c.in_ok-load_step.ensures in
    let steps = c.args.steps.now in
    let j = c.loop-j.j in
    let long = length_numbers steps in
    let first = loads-first steps j c.loop-j-test.true (λ v. get_or c.args.component.now v 0) (drop (j + 1) (numbers steps)) c.if-not-step.false in
    record {
      kept = kept_on c.loop-j.invariant.kept e.kept;
      run = left-on c.loop-j.invariant (omega arith) e.run (ap (by_acts c.loop-j.self) (sym first));
    }

pub loop-j-preserved-then-not-step : goal.loop-j-preserved-then-not-step
loop-j-preserved-then-not-step c =
    let steps = c.args.steps.now in
    let j = c.loop-j.j in
    let long = length_numbers steps in
    let past = loads_past steps j c.loop-j-test.true (λ v. get_or c.args.component.now v 0) (drop (j + 1) (numbers steps)) c.if-not-step.true in
    record { kept = c.loop-j.invariant.kept; run = left-first [] c.loop-j.invariant (omega arith) past refl }

pub returns-in_err-load_step : goal.returns-in_err-load_step
returns-in_err-load_step c =
    let p = err_from_is_err_and c.from_residual.result c.from_residual.ensures.1 in
    let e = c.in_err-load_step.ensures in
    let steps = c.args.steps.now in
    let j = c.loop-j.j in
    let long = length_numbers steps in
    let first = loads-first steps j c.loop-j-test.true (λ v. get_or c.args.component.now v 0) (drop (j + 1) (numbers steps)) c.if-not-step.false in
    record {
      run = rw (p.1, p.2) (left-on c.loop-j.invariant (omega arith) e.run (ap (by_acts c.loop-j.self) (sym first)));
      kept = kept_on c.loop-j.invariant.kept e.kept;
    }

pub returns : goal.returns
returns c =
    let long = length_numbers c.args.steps.now in
    record { run = left_none c.loop-j.invariant (omega arith); kept = c.loop-j.invariant.kept }
