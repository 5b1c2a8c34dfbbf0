-- The row was traced, and read. Assumes nothing.
use Rattle.std.proofs.Common.{◌≡◌, ◌≤◌, ◌++◌, length, get_or, take, drop, sym, refl, ap, ◌∙◌, subst, le_refl, arith}
use Rattle.std.proofs.lemmas.List.{length-take, length-take-le}
use Rattle.std.proofs.lemmas.Result.{err_from_is_err_and}
use Rattle.kleene.specs.Algebras.{everywhere}
use Rattle.refusals.specs.Refused.{done}
use Rattle.expressions.specs.Meanings.{values}
use Rattle.network.specs.Plans.{planned}
use Rattle.planning.specs.Tables.{row_of}
use Rattle.engine.specs.Checks.{weighed}
use Rattle.engine.specs.Querying.{QueryAfter, weight_in, member_in, queried_by, queries}
use Rattle.engine.specs.Tracking.{tracked_by, ran_from}
use Rattle.engine.proofs.Ended.{query_tracked, query_ended, query_promises}
use Rattle.engine.proofs.Filled.{filled_part}
use Rattle.engine.proofs.Readable.{Reads, tracked_reads}
use Rattle.engine.proofs.Unseen.{retired_unseen}
use Rattle.engine.proofs.calls.query.Goals as goal

pub weighed-requires : goal.weighed-requires
weighed-requires g c =
    let long = length-take c.step_count.result c.args.steps.now in
    omega (arith, c.in_ok-long_too.ensures.passed.for_weights, c.step_count.ensures.value)

pub slice_bounds-answer-end : goal.slice_bounds-answer-end
slice_bounds-answer-end g c =
    let s = c.args.sealed.now in
    let steps = c.args.steps.now in
    let long = c.in_ok-long_enough.ensures in
    let taken = ap (λ k. take k steps) c.step_count.ensures.value in
    let tracks = c.in_ok-traced.ensures ∙ ap (λ added. tracked_by s (ran_from s added c.args.records.now c.args.heads.now (planned c.args.plan.now) c.args.source)) taken in
    let (reads, same) = tracked_reads c.in_ok-undamaged.ensures.passed long.begun long.within long.passed.for_records long.passed.for_heads c.args.source _ (le_refl _) tracks in
    omega (arith, reads.room, ap (λ p. p.1) c.size-count.ensures.value)

pub slice_bounds-answer-end-2 : goal.slice_bounds-answer-end-2
slice_bounds-answer-end-2 g c = sym (length-take-le c.size-count.result.1 c.track.new.records (slice_bounds-answer-end g c))

pub answer-requires : goal.answer-requires
answer-requires g c =
    let sealed = c.args.sealed.now in
    let s = sealed in
    let steps = c.args.steps.now in
    let records = c.args.records.now in
    let heads = c.args.heads.now in
    let plan = planned c.args.plan.now in
    let weights = c.args.weights.now in
    let long = c.in_ok-long_enough.ensures.passed in
    let too = c.in_ok-long_too.ensures.passed in
    let taken = ap (λ k. take k steps) c.step_count.ensures.value in
    let tracks = c.in_ok-traced.ensures ∙ ap (λ added. tracked_by s (ran_from s added records heads plan c.args.source)) taken in
    let added = length-take s.steps steps in
    let (reads, same) =
    tracked_reads c.in_ok-undamaged.ensures.passed c.in_ok-long_enough.ensures.begun c.in_ok-long_enough.ensures.within long.for_records long.for_heads c.args.source (length weights) (omega arith) tracks in
    let counted = sym (ap (λ p. p.1) c.size-count.ensures.value) in
    let now = subst (λ count. Reads (take s.steps steps) c.track.new.records count (length weights) (row_of c.in_ok-traced.traced)) counted reads in
    let in_use = length-take-le c.size-count.result.1 c.track.new.records (omega (arith, now.room)) in
    record { formed = now.formed; named = now.named; row = λ t. omega (arith, now.row t, in_use); memo = omega (arith, now.room, same, too.for_memo, in_use) }

pub returns : goal.returns
returns g c =
    let m = g.A.Algebra.meaning c.args.algebra.now in
    let sealed = c.args.sealed.now in
    let s = sealed in
    let steps = c.args.steps.now in
    let records = c.args.records.now in
    let heads = c.args.heads.now in
    let row = c.args.row.now in
    let plan = planned c.args.plan.now in
    let source = c.args.source in
    let weights = c.args.weights.now in
    let memo = c.args.memo.now in
    let answers = c.args.answers.now in
    let long = c.in_ok-long_enough.ensures in
    let too = c.in_ok-long_too.ensures in
    let undamaged = c.in_ok-undamaged.ensures in
    let taken = ap (λ k. take k steps) c.step_count.ensures.value in
    let tracks = c.in_ok-traced.ensures ∙ ap (λ added. tracked_by s (ran_from s added records heads plan source)) taken in
    let added = length-take s.steps steps in
    let held : length (take s.steps steps) ≤ length weights = omega (arith, too.passed.for_weights) in
    let (reads, same) = tracked_reads undamaged.passed c.in_ok-long_enough.ensures.begun c.in_ok-long_enough.ensures.within long.passed.for_records long.passed.for_heads source (length weights) held tracks in
    let counted = ap (λ p. p.1) c.size-count.ensures.value in
    let found = row_of c.in_ok-traced.traced in
    let records' = c.track.new.records in
    let written = filled_part found row (omega (arith, long.passed.for_row, c.formats-formats.ensures)) c.formats-formats.ensures c.write_row.ensures in
    let in_use = length-take-le _ records' (omega (arith, reads.room, counted)) in
    let read = c.answer.ensures.memo ∙ ap (λ k. values (everywhere m) (weight_in m weights) (take c.size-count.result.1 records') ++ drop k memo) in_use
    ∙ ap (λ k. values (everywhere m) (weight_in m weights) (take k records') ++ drop k memo) counted in
    let answered = filled_part (λ t. get_or c.answer.new.memo (found t) m.on.zero) answers (omega (arith, too.passed.for_answers, c.formats-formats.ensures)) c.formats-formats.ensures c.answer.ensures.answers in
    let e : ◌≡◌ {A = QueryAfter g.row.A-Value.Denot}
    (record {
      answer = done tt;
      state = c.track.new.sealed;
      records = records';
      heads = c.track.new.heads;
      row = c.write_row.new.row ++ drop c.formats-formats.result row;
      memo = c.answer.new.memo;
      answers = c.answer.new.answers ++ drop c.formats-formats.result answers;
    })
    (queries m s steps records heads row weights memo answers plan source) =
    query_ended m s steps records heads row weights memo answers plan source (take s.steps steps) refl long.value too.value undamaged.value c.in_ok-known.ensures.value
    (c.in_ok-weighed.ensures ∙ ap (λ a. weighed a (member_in m weights)) taken) tracks reads written read answered in
    record {
      after = e;
      promises = query_promises m s steps records heads row weights memo answers plan source (g.met.A.Algebra.kleene c.args.algebra.now) refl e;
      unseen = retired_unseen m s steps records heads row weights memo answers plan source c.in_ok-long_enough.ensures.begun c.in_ok-long_enough.ensures.within;
    }

-- the store was full
pub returns-in_err-traced-clause-after : goal.returns-in_err-traced-clause-after
returns-in_err-traced-clause-after g c =
    let q = err_from_is_err_and c.from_residual-in_err-traced.result c.from_residual-in_err-traced.ensures.1 in
    let m = g.A.Algebra.meaning c.args.algebra.now in
    let s = c.args.sealed.now in
    let steps = c.args.steps.now in
    let row = c.args.row.now in
    let weights = c.args.weights.now in
    let memo = c.args.memo.now in
    let answers = c.args.answers.now in
    rw (q.1, q.2) (ap (queried_by m s row weights memo answers) (query_tracked m s steps c.args.records.now c.args.heads.now row weights memo answers (planned c.args.plan.now) c.args.source
    (take c.step_count.result steps) (ap (λ k. take k steps) c.step_count.ensures.value) c.in_ok-long_enough.ensures.value c.in_ok-long_too.ensures.value c.in_ok-undamaged.ensures.value
    c.in_ok-known.ensures.value c.in_ok-weighed.ensures c.in_err-traced.ensures))
