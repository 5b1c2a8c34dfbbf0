-- Each turn goes through the first of the components that are left. Assumes nothing.
use Rattle.std.proofs.Common.{◌<◌, arith}
use Rattle.std.proofs.lemmas.List.{at_drop_all}
use Rattle.std.proofs.lemmas.Result.{err_from_is_err_and}
use Rattle.elimination.specs.Moves.{for_each, below, tracing}
use Rattle.network.specs.Plans.{planned}
use Rattle.planning.specs.Drawn.{drawn}
use Rattle.planning.proofs.Loads.{length-below}
use Rattle.engine.specs.Rows.{through_component}
use Rattle.engine.proofs.Leaving.{components-first}
use Rattle.engine.proofs.Moved.{begun, component-on, ended, moves-on, stopped-on, went-on}
use Rattle.engine.proofs.tracer.Tracer.trace.Goals as goal

pub loop-c-init : goal.loop-c-init
loop-c-init c = begun _ c.args.self.now

pub go_through-requires : goal.go_through-requires
go_through-requires c = component-on c.loop-c.invariant.kept _ (omega (arith, c.components-c-end.ensures))

pub returns-in_err-go_through : goal.returns-in_err-go_through
unfolding tracing
returns-in_err-go_through c =
    let q = err_from_is_err_and c.from_residual.result c.from_residual.ensures.1 in
    let t = c.args.self.now in
    let p = planned t.plan.now in
    let i = c.loop-c.c in
    let h : i < p.components = omega (arith, c.components-c-end.ensures) in
    let split = components-first (drawn p.formats t.steps.now) p.component p.components i h in
    rw (q.1, q.2) (stopped-on c.loop-c.invariant _ _ split (moves-on (λ p steps. through_component (drawn p.formats steps) p.component i) c.loop-c.invariant.kept c.in_err-go_through.ensures))

pub loop-c-preserved : goal.loop-c-preserved
loop-c-preserved c =
    let t = c.args.self.now in
    let p = planned t.plan.now in
    let i = c.loop-c.c in
    let h : i < p.components = omega (arith, c.components-c-end.ensures) in
    let split = components-first (drawn p.formats t.steps.now) p.component p.components i h in
    went-on c.loop-c.invariant _ _ split (moves-on (λ p steps. through_component (drawn p.formats steps) p.component i) c.loop-c.invariant.kept c.in_ok-go_through.ensures)

pub returns : goal.returns
unfolding tracing
returns c =
    let t = c.args.self.now in
    let p = planned t.plan.now in
    ended c.loop-c.invariant (at_drop_all (for_each (through_component (drawn p.formats t.steps.now) p.component)) (below p.components) c.loop-c.c (omega (arith, length-below p.components, c.components-c-end.ensures)))
