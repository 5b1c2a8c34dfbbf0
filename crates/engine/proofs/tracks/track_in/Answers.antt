-- What was traced in the store is what the definition says, and the network counts it. Assumes nothing.
use Rattle.std.proofs.Common.{◌≡◌, ℕ, ◌≤◌, true, List, Ok, Err, Result, sym, refl, ap, ◌∙◌, subst, arith}
use Rattle.std.proofs.lemmas.Bool.{cond-true, and_from, le-leb}
use Rattle.refusals.specs.Refused.{outcome}
use Rattle.refusals.specs.declared.Refusal.{Refusal}
use Rattle.elimination.specs.Moves.{put, tracing}
use Rattle.expressions.specs.declared.Record.{Record}
use Rattle.expressions.specs.declared.Step.{Step}
use Rattle.expressions.specs.Contents.{Contents}
use Rattle.expressions.specs.Stores.{contents}
use Rattle.network.specs.Plans.{Planned, planned}
use Rattle.network.specs.Seals.{steps_sound}
use Rattle.network.specs.States.{SealedCounts, counting, recounted}
use Rattle.planning.specs.declared.rows.Row.{Row}
use Rattle.planning.specs.Drawn.{drawn}
use Rattle.planning.specs.Running.{run_moves}
use Rattle.planning.specs.Tables.{row_of}
use Rattle.engine.specs.Rows.{NamesInUse, row_seen}
use Rattle.engine.specs.Tracking.{tracked_by, ran_from}
use Rattle.engine.proofs.Sounds.{plan-formats, names_in_use}
use Rattle.engine.proofs.tracks.track_in.Goals as goal

-- what a call has come to, as the definition has it
seen_so : (s : SealedCounts) (r : Result Row Refusal) (c : Contents) →
    record { answer = outcome row_of r; state = counting s c.count; records = c.records; heads = c.heads } ≡ tracked_by s (row_seen r c)
seen_so s (Ok row) c = refl
seen_so s (Err e) c = refl

-- the run of the code is that of the definition
run_so : (s : SealedCounts) (added : List Step) (records : List Record) (heads : List ℕ) (plan : Planned) (source count : ℕ) → count ≡ s.records → plan.formats ≡ s.formats →
    run_moves plan.table (record { records = records; heads = heads; count = count }) (put source 1 (λ _. 0)) (tracing (drawn plan.formats added) plan.components plan.component)
    ≡ ran_from s added records heads plan source
run_so s added records heads plan source count e f =
    λ i. run_moves plan.table (record { records = records; heads = heads; count = e i }) (put source 1 (λ _. 0)) (tracing (drawn (f i) added) plan.components plan.component)

-- so many records are counted
counted_so : (s : SealedCounts) (k : ℕ) → 2 ≤ k → k ≤ 131072 → recounted s k ≡ counting s k
counted_so s k h l = cond-true _ _ _ (and_from _ _ (le-leb _ _ h) (le-leb _ _ l))

pub trace_in-traced-requires : goal.trace_in-traced-requires
trace_in-traced-requires c =
    let sealed = c.args.sealed.now in
    let u = c.requires.undamaged in
    let same = plan-formats u in
    record {
      named = subst (NamesInUse (planned c.args.plan.now)) (sym c.requires.counted) (names_in_use u);
      held = c.requires.held;
      joined = subst (λ n. steps_sound n c.args.steps.now ≡ true) (sym same) u.joined;
      source = omega (arith, same, c.requires.source);
    }

pub returns : goal.returns
returns c =
    let s = c.args.sealed.now in
    let plan = planned c.args.plan.now in
    let e = c.trace_in-traced.ensures in
    let store = c.trace_in-traced.new.store in
    let after = contents store in
    let counted = c.count_records.ensures ∙ counted_so s after.count store.begun (omega (arith, store.room)) in
    let run = run_so s c.args.steps.now c.args.store.now.records.now c.args.store.now.heads.now plan c.args.source c.args.store.now.count c.requires.counted (plan-formats c.requires.undamaged) in
    record {
      tracked =
          (λ i. record { answer = outcome row_of c.trace_in-traced.result; state = counted i; records = after.records; heads = after.heads })
          ∙ seen_so s c.trace_in-traced.result after ∙ ap (tracked_by s) (e.run ∙ run);
      lent = e.kept.lent;
    }
