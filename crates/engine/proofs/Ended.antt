-- A trace or a query whose checks were passed and whose row was traced is what the definition says, and keeps what holds in every
-- history. Assumes nothing.
use Rattle.std.proofs.Common.{◌≡◌, ℕ, List, ◌++◌, length, get_or, take, drop, sym, ap, ◌∙◌, subst, arith}
use mathlib.Core.Path.{fun_ext}
use Rattle.std.proofs.lemmas.List.{get_or_append_left, length-take}
use Rattle.kleene.specs.Algebras.{Meaning, Kleene, everywhere}
use Rattle.refusals.specs.Refused.{Outcome, done}
use Rattle.expressions.specs.declared.Record.{Record}
use Rattle.expressions.specs.declared.Step.{Step}
use Rattle.expressions.specs.Meanings.{values}
use Rattle.expressions.proofs.Growth.{length-values}
use Rattle.network.specs.Plans.{Planned}
use Rattle.network.specs.States.{SealedCounts}
use Rattle.engine.specs.Checks.{before, long_enough, long_too, undamaged, known, weighed, traceable, queryable}
use Rattle.engine.specs.Tracking.{Tracked, TraceAfter, tracked, tracked_by, ran_from, filled, traced_by, traces}
use Rattle.engine.specs.Querying.{QueryAfter, weight_in, member_in, queried_by, queries}
use Rattle.engine.specs.Promises.{sealed_world, RoutesInEveryHistory, InEveryHistory}
use Rattle.engine.proofs.Laws.{trace_law, query_law}
use Rattle.engine.proofs.Readable.{Reads}

-- a check that was passed leaves it to the next
passed_on : {A : Type 0} {check : Outcome (Unit {0})} (next : Outcome A) → done tt ≡ check → before check next ≡ next
passed_on next e = ap (λ o. before o next) (sym e)

module _ (s : SealedCounts) (steps : List Step) (records : List Record) (heads row : List ℕ) (plan : Planned) (source : ℕ) where
  -- what was tracked is what the definition tracks, where the checks were passed
  pub trace_tracked : {t : Tracked} (added : List Step) → added ≡ take s.steps steps →
      done tt ≡ long_enough s (length steps) (length records) (length heads) (length row) → done tt ≡ undamaged s steps records heads plan → done tt ≡ known s source →
      t ≡ tracked_by s (ran_from s added records heads plan source) →
      t ≡ tracked s steps records heads plan source (traceable s steps records heads (length row) plan source)
  trace_tracked added taken long sound source' ran =
      let passes = passed_on (before (undamaged s steps records heads plan) (known s source)) long ∙ passed_on (known s source) sound ∙ sym source' in
      ran ∙ ap (λ a. tracked_by s (ran_from s a records heads plan source)) taken ∙ sym (ap (tracked s steps records heads plan source) passes)

  pub trace_ended : {found : ℕ → ℕ} {after : SealedCounts} {records' : List Record} {heads' row' : List ℕ} (added : List Step) → added ≡ take s.steps steps → row' ≡ filled found s.formats row →
      done tt ≡ long_enough s (length steps) (length records) (length heads) (length row) → done tt ≡ undamaged s steps records heads plan → done tt ≡ known s source →
      record { answer = done found; state = after; records = records'; heads = heads' } ≡ tracked_by s (ran_from s added records heads plan source) →
      record { answer = done tt; state = after; records = records'; heads = heads'; row = row' } ≡ traces s steps records heads row plan source
  trace_ended {after} {records'} {heads'} added taken written long sound source' ran =
      (λ i. record { answer = done tt; state = after; records = records'; heads = heads'; row = written i })
      ∙ ap (traced_by s row) (trace_tracked added taken long sound source' ran)

  pub trace-routes : {t : TraceAfter} → t.answer ≡ done tt → t ≡ traces s steps records heads row plan source →
      RoutesInEveryHistory (sealed_world s steps records heads plan) source (record { records = t.records; heads = t.heads; count = t.state.records }) t.row
  trace-routes {t} answered e =
      subst (λ u. RoutesInEveryHistory (sealed_world s steps records heads plan) source (record { records = u.records; heads = u.heads; count = u.state.records }) u.row) (sym e)
      (trace_law s steps records heads row plan source (sym (ap (λ u. u.answer) e) ∙ answered))

module _ {V : Type 0} (m : Meaning V) (s : SealedCounts) (steps : List Step) (records : List Record) (heads row : List ℕ) (weights memo answers : List V) (plan : Planned) (source : ℕ) where
  -- what was tracked is what the definition tracks, where the checks were passed
  pub query_tracked : {t : Tracked} (added : List Step) → added ≡ take s.steps steps →
      done tt ≡ long_enough s (length steps) (length records) (length heads) (length row) → done tt ≡ long_too s (length records) (length weights) (length memo) (length answers) →
      done tt ≡ undamaged s steps records heads plan → done tt ≡ known s source → done tt ≡ weighed added (member_in m weights) →
      t ≡ tracked_by s (ran_from s added records heads plan source) →
      t ≡ tracked s steps records heads plan source
      (queryable s steps records heads (record { row = length row; weights = length weights; memo = length memo; answers = length answers }) (member_in m weights) plan source)
  query_tracked added taken long too sound source' member ran =
      let last = weighed (take s.steps steps) (member_in m weights) in
      let passes =
      passed_on (before (long_too s (length records) (length weights) (length memo) (length answers)) (before (undamaged s steps records heads plan) (before (known s source) last))) long
      ∙ passed_on (before (undamaged s steps records heads plan) (before (known s source) last)) too
      ∙ passed_on (before (known s source) last) sound ∙ passed_on last source' ∙ sym (member ∙ ap (λ a. weighed a (member_in m weights)) taken) in
      ran ∙ ap (λ a. tracked_by s (ran_from s a records heads plan source)) taken ∙ sym (ap (tracked s steps records heads plan source) passes)

  pub query_ended : {found : ℕ → ℕ} {after : SealedCounts} {records' : List Record} {heads' row' : List ℕ} {memo' answers' : List V} {k : ℕ} (added : List Step) → added ≡ take s.steps steps →
      done tt ≡ long_enough s (length steps) (length records) (length heads) (length row) → done tt ≡ long_too s (length records) (length weights) (length memo) (length answers) →
      done tt ≡ undamaged s steps records heads plan → done tt ≡ known s source → done tt ≡ weighed added (member_in m weights) →
      record { answer = done found; state = after; records = records'; heads = heads' } ≡ tracked_by s (ran_from s added records heads plan source) → Reads added records' after.records k found →
      row' ≡ filled found s.formats row → memo' ≡ values (everywhere m) (weight_in m weights) (take after.records records') ++ drop after.records memo →
      answers' ≡ filled (λ t. get_or memo' (found t) m.on.zero) s.formats answers →
      record { answer = done tt; state = after; records = records'; heads = heads'; row = row'; memo = memo'; answers = answers' } ≡ queries m s steps records heads row weights memo answers plan source
  query_ended {found} {after} {records'} {heads'} {memo'} added taken long too sound source' member ran reads rows memos answers-are =
      let read = values (everywhere m) (weight_in m weights) (take after.records records') in
      let long-read = length-values (everywhere m) (weight_in m weights) (take after.records records') ∙ length-take after.records records' in
      let at : (t : ℕ) → get_or memo' (found t) m.on.zero ≡ get_or read (found t) m.on.zero =
      λ t. ap (λ ms. get_or ms (found t) m.on.zero) memos ∙ get_or_append_left read _ m.on.zero (found t) (omega (arith, reads.row t, reads.room)) in
      (λ i. record { answer = done tt; state = after; records = records'; heads = heads'; row = rows i; memo = memos i; answers = (answers-are ∙ ap (λ f. filled f s.formats answers) (fun_ext at)) i })
      ∙ ap (queried_by m s row weights memo answers) (query_tracked added taken long too sound source' member ran)

  pub query_promises : Kleene m → {q : QueryAfter V} → q.answer ≡ done tt → q ≡ queries m s steps records heads row weights memo answers plan source →
      InEveryHistory m (sealed_world s steps records heads plan) source weights (record { records = q.records; heads = q.heads; count = q.state.records }) q.row q.answers
  query_promises laws {q} done-so e =
      subst (λ r. InEveryHistory m (sealed_world s steps records heads plan) source weights (record { records = r.records; heads = r.heads; count = r.state.records }) r.row r.answers) (sym e)
      (query_law m laws s steps records heads row weights memo answers plan source (sym (ap (λ r. r.answer) e) ∙ done-so))
