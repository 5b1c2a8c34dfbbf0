-- Drawing a network by several calls, of which the first that is refused is the last. Assumes nothing.
use Rattle.std.specs.Prelude.{ℕ, false, List, [], ◌∷◌}
use Rattle.refusals.specs.Refused.{Outcome, done, refused}
use Rattle.elimination.specs.Networks.{Network}
use Rattle.expressions.specs.declared.Record.{Record}
use Rattle.expressions.specs.declared.Step.{Step}
use Rattle.network.specs.Drafts.{opened, added, turned}
use Rattle.network.specs.Plans.{Planned}
use Rattle.network.specs.States.{DraftCounts, drafted}
use Rattle.engine.specs.Histories.{History}

-- the draft, where no call was refused, and the step buffer
abbrev pub Drawing : Type 0
Drawing = Outcome DraftCounts × List Step

-- the next call, if there is a draft
abbrev pub onward : Drawing → (DraftCounts → List Step → Drawing) → Drawing
onward drawing next = elim drawing.0 [ done d ↦ next d drawing.1 | refused number value ↦ (refused number value, drawing.1) ]

-- what a call on a draft has come to: the draft where it was taken, and the step buffer
abbrev pub taking : {A : Type 0} → Outcome A → DraftCounts → List Step → Drawing
taking (done _) d steps = (done d, steps)
taking (refused number value) d steps = (refused number value, steps)

abbrev pub adding : ℕ → ℕ → DraftCounts → List Step → Drawing
adding from to d steps = let a = added d steps from to in taking a.answer a.draft a.buffer

abbrev pub retiring : ℕ → DraftCounts → List Step → Drawing
retiring j d steps = let a = turned false d steps j in taking a.answer a.draft a.buffer

-- a network of so many formats is opened, and then a step is added for each two ends
abbrev pub adding_all : Drawing → List (ℕ × ℕ) → Drawing
adding_all drawing [] = drawing
adding_all drawing (ends ∷ more) = adding_all (onward drawing (adding ends.0 ends.1)) more

abbrev pub drawing : ℕ → List (ℕ × ℕ) → List Step → Drawing
drawing n ends steps = adding_all (opened n, steps) ends

-- some history leads to this draft and step buffer, and leaves this network; the other buffers, which no call on a draft but Seal
-- writes, may hold anything
abbrev pub Draws : DraftCounts → List Step → Network → Type 0
Draws d steps N =
    (records : List Record) (heads : List ℕ) (plan : Planned) →
    History (record { state = drafted d; steps = steps; records = records; heads = heads; plan = plan }) N
