-- Calls on a draft, one after the other: what came of them, and the history that they make. Each lemma takes what the contract of
-- its call says. Assumes nothing.
use Rattle.std.proofs.Common.{◌≡◌, ℕ, true, false, cond, List, [], ◌∷◌, ◌++◌, Ok, Option, sym, refl, ap, ◌∙◌, subst}
use Rattle.refusals.specs.Refused.{Outcome, done, refused}
use Rattle.elimination.specs.Networks.{Network}
use Rattle.expressions.specs.declared.Record.{Record}
use Rattle.expressions.specs.declared.Step.{Step}
use Rattle.network.specs.declared.states.Sealed.{Sealed}
use Rattle.network.specs.Drafts.{After, opened, added, turned}
use Rattle.network.specs.Plans.{Planned}
use Rattle.network.specs.Seals.{sealed_to, seals}
use Rattle.network.specs.States.{DraftCounts, drafted}
use Rattle.engine.specs.Histories.{History, begins, draws, is_done, turned_in, add, retire, seal}
use Rattle.engine.specs.Promises.{sealed_world}
use Rattle.worked.specs.Drawing.{Drawing, Draws, onward, taking, adding, retiring, drawing}

-- where a draft was opened, it is what comes of opening
pub on_open : {d : DraftCounts} (n : ℕ) (steps : List Step) → done d ≡ opened n → ◌≡◌ {A = Drawing} (done d, steps) (drawing n [] steps)
on_open n steps e = ap (λ o. (o, steps)) e

-- after calls that were taken, what comes of an Add, taken or refused
pub on-add : {d d' : DraftCounts} {steps steps' : List Step} {before : Drawing} {answer : Outcome ℕ} (from to : ℕ) → (done d, steps) ≡ before →
    record { answer = answer; draft = d'; buffer = steps' } ≡ added d steps from to → taking answer d' steps' ≡ onward before (adding from to)
on-add from to e f = ap (λ a. taking a.answer a.draft a.buffer) f ∙ ap (λ p. onward p (adding from to)) e

-- and of a Retire
pub on-retire : {d d' : DraftCounts} {steps steps' : List Step} {before : Drawing} {answer : Outcome (Unit {0})} (j : ℕ) → (done d, steps) ≡ before →
    record { answer = answer; draft = d'; buffer = steps' } ≡ turned false d steps j → taking answer d' steps' ≡ onward before (retiring j)
on-retire j e f = ap (λ a. taking a.answer a.draft a.buffer) f ∙ ap (λ p. onward p (retiring j)) e

-- after a call that was refused there is no next
pub on_none : {number : ℕ} {value : Option ℕ} {steps : List Step} {before : Drawing} (next : DraftCounts → List Step → Drawing) →
    (refused number value, steps) ≡ before → (refused number value, steps) ≡ onward before next
on_none next e = ap (λ p. onward p next) e

-- a network was opened
pub then_open : {d : DraftCounts} (n : ℕ) (steps : List Step) → done d ≡ opened n → Draws d steps (record { formats = n; steps = [] })
then_open n steps e records heads plan = begins n _ steps records heads plan (sym e)

-- a step was added
pub then_add : {d d' : DraftCounts} {steps steps' : List Step} {N : Network} {j : ℕ} (from to : ℕ) → Draws d steps N →
    ◌≡◌ {A = After ℕ} (record { answer = done j; draft = d'; buffer = steps' }) (added d steps from to) →
    Draws d' steps' (record { formats = N.formats; steps = N.steps ++ record { from = from; to = to; in_force = true } ∷ [] })
then_add {N} from to h e records heads plan =
    subst
    (λ a. History (record { state = drafted a.draft; steps = a.buffer; records = records; heads = heads; plan = plan })
    (cond (is_done a.answer) (record { formats = N.formats; steps = N.steps ++ record { from = from; to = to; in_force = true } ∷ [] }) N))
    (sym e) (draws (h records heads plan) _ refl (add from to))

-- a step was retired
pub then_retire : {d d' : DraftCounts} {steps steps' : List Step} {N : Network} (j : ℕ) → Draws d steps N →
    ◌≡◌ {A = After (Unit {0})} (record { answer = done tt; draft = d'; buffer = steps' }) (turned false d steps j) → Draws d' steps' (turned_in false j N)
then_retire {N} j h e records heads plan =
    subst
    (λ a. History (record { state = drafted a.draft; steps = a.buffer; records = records; heads = heads; plan = plan })
    (cond (is_done a.answer) (turned_in false j N) N))
    (sym e) (draws (h records heads plan) _ refl (retire j))

-- the network was sealed
pub then_seal : {d : DraftCounts} {steps : List Step} {N : Network} {records' : List Record} {heads' : List ℕ} {plan' : Planned} (s : Sealed)
    (records : List Record) (heads : List ℕ) (plan : Planned) → Draws d steps N →
    sealed_to (Ok s) records' heads' plan' ≡ seals d steps records heads plan → History (sealed_world s steps records' heads' plan') N
then_seal {steps} {N} s records heads plan h e =
    subst (λ a. History (record { state = a.state; steps = steps; records = a.records; heads = a.heads; plan = a.plan }) N) (sym e)
    (draws (h records heads plan) _ refl seal)
