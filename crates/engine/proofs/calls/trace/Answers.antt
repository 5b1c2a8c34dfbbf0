-- The row was traced, and written. Assumes nothing.
use Rattle.std.proofs.Common.{◌≡◌, ◌++◌, take, drop, refl, ap, arith}
use Rattle.std.proofs.lemmas.Result.{err_from_is_err_and}
use Rattle.refusals.specs.Refused.{done}
use Rattle.network.specs.Plans.{planned}
use Rattle.planning.specs.Tables.{row_of}
use Rattle.engine.specs.Tracking.{TraceAfter, traced_by, traces}
use Rattle.engine.proofs.Ended.{trace_tracked, trace_ended, trace-routes}
use Rattle.engine.proofs.Filled.{filled_part}
use Rattle.engine.proofs.calls.trace.Goals as goal

pub returns : goal.returns
returns c =
    let s = c.args.sealed.now in
    let steps = c.args.steps.now in
    let records = c.args.records.now in
    let heads = c.args.heads.now in
    let row = c.args.row.now in
    let plan = planned c.args.plan.now in
    let source = c.args.source in
    let found = row_of c.in_ok-traced.traced in
    let e : ◌≡◌ {A = TraceAfter} (record { answer = done tt; state = c.track.new.sealed; records = c.track.new.records; heads = c.track.new.heads; row = c.write_row.new.row ++ drop c.formats-formats.result row }) (traces s steps records heads row plan source) =
    trace_ended s steps records heads row plan source {found = found} (take c.step_count.result steps) (ap (λ k. take k steps) c.step_count.ensures.value)
    (filled_part found row (omega (arith, c.in_ok-long_enough.ensures.passed.for_row, c.formats-formats.ensures)) c.formats-formats.ensures c.write_row.ensures)
    c.in_ok-long_enough.ensures.value c.in_ok-undamaged.ensures.value c.in_ok-known.ensures.value c.in_ok-traced.ensures in
    record { after = e; routes = trace-routes s steps records heads row plan source refl e }

-- the store was full
pub returns-in_err-traced-clause-after : goal.returns-in_err-traced-clause-after
returns-in_err-traced-clause-after c =
    let q = err_from_is_err_and c.from_residual-in_err-traced.result c.from_residual-in_err-traced.ensures.1 in
    let s = c.args.sealed.now in
    let steps = c.args.steps.now in
    let row = c.args.row.now in
    rw (q.1, q.2) (ap (traced_by s row) (trace_tracked s steps c.args.records.now c.args.heads.now row (planned c.args.plan.now) c.args.source (take c.step_count.result steps)
    (ap (λ k. take k steps) c.step_count.ensures.value) c.in_ok-long_enough.ensures.value c.in_ok-undamaged.ensures.value c.in_ok-known.ensures.value c.in_err-traced.ensures))
