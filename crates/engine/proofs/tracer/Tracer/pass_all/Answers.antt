-- Each turn passes to one format more. Assumes nothing.
use Rattle.std.proofs.Common.{map, get_or}
use Rattle.std.proofs.lemmas.List.{at_drop_more, at_drop_all}
use Rattle.std.proofs.lemmas.Result.{err_from_is_err_and}
use Rattle.elimination.specs.Moves.{pass}
use Rattle.engine.proofs.Moved.{begun, ended, format-on, stopped-on, went-on}
use Rattle.engine.proofs.tracer.Tracer.pass_all.Goals as goal

pub loop-w-init : goal.loop-w-init
loop-w-init c = begun (map (pass c.args.v) c.args.formats.now) c.args.self.now

pub pass-requires : goal.pass-requires
pass-requires c =
    let kept = c.loop-w.invariant.kept in
    record { from = format-on kept _ c.requires.from; to = format-on kept _ (c.requires.to c.loop-w.w-index c.loop-w-test.true) }

pub returns-in_err-pass : goal.returns-in_err-pass
returns-in_err-pass c =
    let p = err_from_is_err_and c.from_residual.result c.from_residual.ensures.1 in
    let split = at_drop_more (map (pass c.args.v)) c.args.formats.now c.loop-w.w-index 0 c.loop-w-test.true in
    rw (p.1, p.2) (stopped-on c.loop-w.invariant _ _ split c.in_err-pass.ensures)

pub loop-w-preserved : goal.loop-w-preserved
loop-w-preserved c =
    let split = at_drop_more (map (pass c.args.v)) c.args.formats.now c.loop-w.w-index 0 c.loop-w-test.true in
    went-on c.loop-w.invariant _ _ split c.in_ok-pass.ensures

pub returns : goal.returns
returns c = ended c.loop-w.invariant (at_drop_all (map (pass c.args.v)) c.args.formats.now c.loop-w.w-index c.loop-w-test.false)
