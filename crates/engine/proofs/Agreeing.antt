-- In every history the step buffer holds the network that is read off the calls; and where it is sealed, its plan is the network's,
-- made in a store from which the one of now has grown. Assumes nothing.
use Rattle.std.proofs.Common.{◌≡◌, ℕ, true, false, ◌&&◌, leb, List, [], take, sym, refl, ap, ◌∙◌, subst, arith}
use Rattle.refusals.specs.Refused.{Outcome, done, refused}
use Rattle.elimination.specs.Networks.{Network, InForce}
use Rattle.elimination.specs.Moves.{put, sealing, tracing}
use Rattle.expressions.specs.declared.Record.{Record}
use Rattle.expressions.specs.declared.Step.{Step}
use Rattle.expressions.specs.Contents.{Contents, Grown}
use Rattle.planning.specs.Components.{component_count}
use Rattle.planning.specs.Drawn.{drawn}
use Rattle.planning.specs.Running.{Ran, through, stopped, run_acts, run_moves}
use Rattle.planning.proofs.Runs.{grown-on}
use Rattle.network.specs.Plans.{Planned}
use Rattle.network.specs.Seals.{components, plan_for, sealable, worked, worked_out, Settled, settled, works_with}
use Rattle.network.specs.States.{DraftCounts, SealedCounts, State, drafted, sealed}
use Rattle.engine.specs.Tracking.{Tracked, tracked_by, ran_from, tracked}
use Rattle.engine.specs.Histories.{World, DraftCall, add, retire, restore, seal, SealedCall, reopen, size, trace, query, after_draft, after_sealed, changed}
use Rattle.engine.specs.Histories.{History, begins, draws, asks}
use Rattle.engine.proofs.Makings.{Good, From, unchanged}
use Rattle.engine.proofs.Kept.{TableUsed}
use Rattle.engine.proofs.Scheduled.{sealing-through, tracing-through, tracing-stopped, cleared_good}
use Rattle.engine.proofs.Held.{Holds, added-holds, turned-holds}
use Rattle.engine.proofs.Passing.{sealable-done, was_done}

-- a network was sealed in a store that named steps in force alone; the plan is the one that came of it, and the store has only grown
-- since, and still names such steps alone
pub record Settles (N : Network) (plan : Planned) (now : Contents) : Type 0 where
  pub first : Contents
  pub later : Contents
  pub table : ℕ → ℕ → ℕ
  pub begun : Good (InForce N) first
  pub seals : run_acts first (λ _ _. 0) (sealing N (component_count N) (components N)) ≡ through later table
  pub plans : plan ≡ plan_for N later.count table
  pub good : Good (InForce N) now
  pub grown : Grown later now

-- a state and its buffers agree with a network
abbrev pub Agrees : State → List Step → List Record → List ℕ → Planned → Network → Type 0
Agrees (drafted d) steps records heads plan N = Holds d.formats d.steps steps N
Agrees (sealed s) steps records heads plan N =
    Holds s.formats s.steps steps N × Settles N plan (record { records = records; heads = heads; count = s.records })

-- so does what a Seal leaves
abbrev SealAgrees : List Step → Network → Settled → Type 0
SealAgrees steps N a = Agrees a.state steps a.records a.heads a.plan N

module _ {d : DraftCounts} {steps : List Step} {N : Network} (held : Holds d.formats d.steps steps N) (plan : Planned) where
  -- whether the plan was worked out or not
  worked_agrees : {c : Contents} (ran : Ran (ℕ → ℕ → ℕ)) → Good (InForce N) c →
      run_acts c (λ _ _. 0) (sealing N (component_count N) (components N)) ≡ ran → SealAgrees steps N (settled d (worked N plan ran))
  worked_agrees {c} (through e table) good run = (
    held,
    record {
      first = c;
      later = e;
      table = table;
      begun = good;
      seals = run;
      plans = refl;
      good = (sealing-through N (component_count N) (components N) good run).0.good;
      grown = unchanged e;
    },
  )
  worked_agrees (stopped e n v) good run = held

  -- and whether it could be sealed or not
  seal_agrees : (records : List Record) (heads : List ℕ) (o : Outcome (List Step)) → sealable d steps records heads ≡ o →
      SealAgrees steps N (settled d (works_with d records heads plan o))
  seal_agrees records heads (refused n v) e = held
  seal_agrees records heads (done added) e =
      let can = sealable-done d steps records heads added e in
      let c : Contents = record { records = records; heads = heads; count = 0 } in
      subst (λ M. SealAgrees steps N (settled d (worked_out M records heads plan))) (sym held.draws ∙ ap (drawn d.formats) can.these)
      (worked_agrees _ (cleared_good (InForce N) c can.some can.chains) refl)

module _ (s : SealedCounts) {steps : List Step} {records : List Record} {heads : List ℕ} {plan : Planned} {N : Network}
    (held : Holds s.formats s.steps steps N) (settles : Settles N plan (record { records = records; heads = heads; count = s.records })) where
  -- the moves of a trace are those of the network, by the table that was sealed
  pub tracked_is : (source : ℕ) →
      ran_from s (take s.steps steps) records heads plan source
      ≡ run_moves settles.table (record { records = records; heads = heads; count = s.records }) (put source 1 (λ _. 0)) (tracing N (component_count N) (components N))
  tracked_is source =
      λ i. run_moves (settles.plans i).table (record { records = records; heads = heads; count = s.records }) (put source 1 (λ _. 0))
      (tracing (held.draws i) (settles.plans i).components (settles.plans i).component)

  -- whose expressions are in use
  table-used : TableUsed (record { records = records; heads = heads; count = s.records }) settles.table
  table-used u w =
      let used = (sealing-through N (component_count N) (components N) settles.begun settles.seals).1 u w in
      let more = settles.grown.counts in
      omega arith

  -- a store that has grown from the one of now is as good
  settles_on : {e : Contents} → From (InForce N) (record { records = records; heads = heads; count = s.records }) e → Settles N plan e
  settles_on from = record {
    first = settles.first;
    later = settles.later;
    table = settles.table;
    begun = settles.begun;
    seals = settles.seals;
    plans = settles.plans;
    good = from.good;
    grown = grown-on settles.grown from.grown;
  }

  -- so does what a trace or a query leaves
  abbrev TrackAgrees : Tracked → Type 0
  TrackAgrees t = Agrees (sealed t.state) steps t.records t.heads plan N

  -- whether the run went through or was stopped
  run_agrees : (source : ℕ) (ran : Ran (ℕ → ℕ)) → ran_from s (take s.steps steps) records heads plan source ≡ ran → TrackAgrees (tracked_by s ran)
  run_agrees source (through e row) run =
      (held, settles_on (tracing-through N (component_count N) (components N) settles.good source table-used (sym (tracked_is source) ∙ run)).0)
  run_agrees source (stopped e n v) run =
      (held, settles_on (tracing-stopped N (component_count N) (components N) settles.good source table-used (sym (tracked_is source) ∙ run)))

  -- and whether the checks were passed or not
  track_agrees : (source : ℕ) (check : Outcome (Unit {0})) → TrackAgrees (tracked s steps records heads plan source check)
  track_agrees source (done _) = run_agrees source _ refl
  track_agrees source (refused _ _) = (held, settles)

-- a world agrees with a network
abbrev pub WorldAgrees : World → Network → Type 0
WorldAgrees w N = Agrees w.state w.steps w.records w.heads w.plan N

-- what each call on a draft leaves
draft_agrees : (d : DraftCounts) (call : DraftCall) (w : World) (N : Network) → Holds d.formats d.steps w.steps N →
    WorldAgrees (after_draft d call w) (changed d call w N)
draft_agrees d (add from to) w N held = (added-holds held from to).holds
draft_agrees d (retire j) w N held = (turned-holds held false j).holds
draft_agrees d (restore j) w N held = (turned-holds held true j).holds
draft_agrees d seal w N held = seal_agrees held w.plan w.records w.heads _ refl

-- and on a sealed network
sealed_agrees : (s : SealedCounts) (call : SealedCall) (w : World) (N : Network) → w.state ≡ sealed s →
    Agrees (sealed s) w.steps w.records w.heads w.plan N → WorldAgrees (after_sealed s call w) N
sealed_agrees s reopen w N e agrees = agrees.0
sealed_agrees s size w N e agrees = subst (λ state. Agrees state w.steps w.records w.heads w.plan N) (sym e) agrees
sealed_agrees s (trace row source) w N e agrees = track_agrees s agrees.0 agrees.1 source _
sealed_agrees s (query lengths member source) w N e agrees = track_agrees s agrees.0 agrees.1 source _

-- so it is in every history
pub history_agrees : {w : World} {N : Network} → History w N → WorldAgrees w N
history_agrees (begins n d steps records heads plan e) =
    subst (λ (d : DraftCounts). Holds d.formats d.steps steps (record { formats = n; steps = [] })) (was_done (leb 1 n && leb n 32) _ _ e).1
    (record { room = omega arith; draws = refl; sound = refl })
history_agrees (draws {w} {N} before d e call) =
    draft_agrees d call w N (subst (λ state. Agrees state w.steps w.records w.heads w.plan N) e (history_agrees before))
history_agrees (asks {w} {N} before s e call) =
    sealed_agrees s call w N e (subst (λ state. Agrees state w.steps w.records w.heads w.plan N) e (history_agrees before))
