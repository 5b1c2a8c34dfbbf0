-- The row begins with stay at the source, and the tracer runs all the moves. Assumes nothing.
use Rattle.std.proofs.Common.{ap, ◌∙◌, arith, rules}
use Rattle.std.proofs.lemmas.Result.{err_from_is_err_and}
use Rattle.elimination.specs.Moves.{tracing}
use Rattle.expressions.specs.Stores.{contents}
use Rattle.network.specs.Plans.{planned}
use Rattle.planning.specs.Drawn.{drawn}
use Rattle.planning.specs.Running.{run_moves}
use Rattle.engine.proofs.tracks.trace_in.Goals as goal

pub invariant_of-tracer : goal.invariant_of-tracer
invariant_of-tracer c =
    let fits = c.from_source-row.ensures.fits in
    let store = c.args.store.now in
    record {
      places = fits.places;
      in_use = λ w. omega (arith, fits.in_use w, store.begun);
      named = c.requires.named;
      held = c.requires.held;
      joined = c.requires.joined;
    }

pub returns-in_err-trace-clause-run : goal.returns-in_err-trace-clause-run
returns-in_err-trace-clause-run c =
    let q = err_from_is_err_and c.from_residual.result c.from_residual.ensures.1 in
    let p = planned c.args.plan.now in
    rw (q.1, q.2) (search rules ∙ c.in_err-trace.ensures.run
    ∙ ap (λ R. run_moves p.table (contents c.args.store.now) R (tracing (drawn p.formats c.args.steps.now) p.components p.component)) c.from_source-row.ensures.row)

pub returns-clause-run : goal.returns-clause-run
returns-clause-run c =
    let p = planned c.args.plan.now in
    search rules ∙ c.in_ok-trace.ensures.run
    ∙ ap (λ R. run_moves p.table (contents c.args.store.now) R (tracing (drawn p.formats c.args.steps.now) p.components p.component)) c.from_source-row.ensures.row
