-- What comes of asking the network with a loop: the calls that draw and seal it are taken, and the query refuses only what its caller
-- brings. Assumes nothing.
use Rattle.std.proofs.Common.{◌≡◌, ℕ, List, length, replicate, IfOk, Ok, Err, Result, sym, refl, ap, ◌∙◌}
use Rattle.kleene.specs.Algebras.{Meaning, Kleene}
use Rattle.refusals.specs.Refused.{Outcome, done, refused, outcome}
use Rattle.refusals.specs.declared.Refusal.{Refusal}
use Rattle.elimination.specs.Moves.{sealing, tracing}
use Rattle.expressions.specs.declared.Record.{Record}
use Rattle.expressions.specs.declared.Step.{Step}
use Rattle.expressions.specs.Contents.{Contents}
use Rattle.expressions.specs.Layout.{blank, nowhere}
use Rattle.network.specs.declared.states.NotSealed.{NotSealed}
use Rattle.network.specs.declared.states.Sealed.{Sealed}
use Rattle.network.specs.Plans.{Planned, unplanned}
use Rattle.network.specs.Seals.{Settled, seals, sealed_to}
use Rattle.network.specs.States.{DraftCounts, SealedCounts, drafted, sealed}
use Rattle.engine.specs.Histories.{World, History}
use Rattle.engine.specs.Promises.{InEveryHistory}
use Rattle.engine.specs.Checks.{long_too}
use Rattle.engine.specs.Querying.{member_in, queries}
use Rattle.engine.specs.Tracking.{plain, tracked}
use Rattle.engine.proofs.Passing.{never_done, both_done, weighed-done}
use Rattle.worked.specs.Around.{around, drawing_around, steps_around, counts_around, LeastAround, asked_around}
use Rattle.worked.specs.Drawing.{Drawing}
use Rattle.worked.proofs.Equations.{least-around}

-- what is said of a draft and its steps, by what they are
by_drawing : {X : Type 0} {d e : DraftCounts} {steps others : List Step} (f : DraftCounts → List Step → X) →
    ◌≡◌ {A = Drawing} (done d, steps) (done e, others) → f d steps ≡ f e others
by_drawing {e} {others} f p = ap (λ drawing. elim drawing.0 [ done c ↦ f c drawing.1 | refused _ _ ↦ f e others ]) p

-- what is said of a sealed network and its buffers, by what they are
by_sealing : {X : Type 0} {s t : SealedCounts} {records records' : List Record} {heads heads' : List ℕ} {plan plan' : Planned}
    (f : SealedCounts → List Record → List ℕ → Planned → X) →
    ◌≡◌ {A = Settled} (record { answer = done tt; state = sealed s; records = records; heads = heads; plan = plan })
    (record { answer = done tt; state = sealed t; records = records'; heads = heads'; plan = plan' }) →
    f s records heads plan ≡ f t records' heads' plan'
by_sealing {t} {records'} {heads'} {plan'} f p =
    ap (λ w. elim w.state [ sealed u ↦ f u w.records w.heads w.plan | drafted _ ↦ f t records' heads' plan' ]) p

-- the network, sealed in the client's buffers
abbrev sealed_around : Settled
sealed_around = seals (record { formats = 3; steps = 4 }) steps_around (replicate 32 blank) (replicate 1024 0) unplanned

-- the calls that draw it are taken, so it is what is sealed
seals-around : {d : DraftCounts} {steps : List Step} {plan : Planned} → plan ≡ unplanned → ◌≡◌ {A = Drawing} (done d, steps) (drawing_around (replicate 4 nowhere)) →
    seals d steps (replicate 32 blank) (replicate 1024 0) plan ≡ sealed_around
seals-around {plan} new drawn =
    by_drawing (λ d steps. seals d steps (replicate 32 blank) (replicate 1024 0) plan) drawn
    ∙ ap (seals (record { formats = 3; steps = 4 }) steps_around (replicate 32 blank) (replicate 1024 0)) new

-- and sealing is not refused
pub not-refused : {d : DraftCounts} {steps : List Step} {plan : Planned} (back : NotSealed) {records : List Record} {heads : List ℕ} {plan' : Planned} →
    plan ≡ unplanned → ◌≡◌ {A = Drawing} (done d, steps) (drawing_around (replicate 4 nowhere)) →
    sealed_to (Err back) records heads plan' ≡ seals d steps (replicate 32 blank) (replicate 1024 0) plan → ⊥
unfolding sealing
not-refused back new drawn e = never_done (ap (λ w. w.answer) (e ∙ seals-around new drawn))

module _ {V : Type 0} (m : Meaning V) (laws : Kleene m) where
  -- the run of a query has room, so it refuses what its checks refuse
  checks_decide : (check : Outcome (Unit {0})) →
      plain (tracked counts_around steps_around sealed_around.records sealed_around.heads sealed_around.plan 0 check).answer ≡ check
  unfolding sealing tracing
  checks_decide (done _) = refl
  checks_decide (refused _ _) = refl

  asked_around_lem : (weights memo answers : List V) →
      (queries m counts_around steps_around sealed_around.records sealed_around.heads (replicate 3 0) weights memo answers sealed_around.plan 0).answer
      ≡ asked_around m weights memo answers
  unfolding sealing
  asked_around_lem weights memo answers = checks_decide (asked_around m weights memo answers)

  -- so it is in the client, by what its calls leave
  pub client_asked : {d : DraftCounts} {steps : List Step} {plan plan' : Planned} (s : Sealed) {records : List Record} {heads : List ℕ} (weights memo answers : List V) →
      plan ≡ unplanned → ◌≡◌ {A = Drawing} (done d, steps) (drawing_around (replicate 4 nowhere)) →
      sealed_to (Ok s) records heads plan' ≡ seals d steps (replicate 32 blank) (replicate 1024 0) plan →
      (queries m s steps records heads (replicate 3 0) weights memo answers plan' 0).answer ≡ asked_around m weights memo answers
  unfolding sealing
  client_asked {steps} s weights memo answers new drawn e =
      by_sealing (λ u records heads plan. (queries m u steps records heads (replicate 3 0) weights memo answers plan 0).answer) (e ∙ seals-around new drawn)
      ∙ by_drawing (λ _ steps. (queries m counts_around steps sealed_around.records sealed_around.heads (replicate 3 0) weights memo answers sealed_around.plan 0).answer) drawn
      ∙ asked_around_lem weights memo answers

  -- where it answers, the promise gives the answers
  pub client_least : (r : Result (Unit {0}) Refusal) {w : World} (c : Contents) (row : List ℕ) (weights memo before after : List V) →
      outcome (λ u. u) r ≡ asked_around m weights memo before → History w around →
      IfOk r (λ _. InEveryHistory m w 0 weights c row after) → IfOk r (λ _. LeastAround m weights after)
  client_least (Ok _) c row weights memo before after e history promise =
      least-around m laws weights after (weighed-done steps_around (member_in m weights) (both_done (long_too counts_around 32 (length weights) (length memo) (length before)) (sym e)).1)
      (promise.least around history)
  client_least (Err _) c row weights memo before after e history promise = tt
