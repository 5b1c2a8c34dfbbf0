-- Small networks that are worked out: what sealing, tracing and querying each of them gives, by the definitions that the contracts of
-- the calls cite. Sets of phases are numbers, bit i for phase i. Assumes nothing.
use Rattle.std.specs.Prelude.{◌≡◌, ℕ, true, List, [], ◌∷◌, map, take, replicate}
use Rattle.kleene.specs.Algebras.{Meaning}
use Rattle.algebras.specs.Formulas.{cost_meaning}
use Rattle.algebras.specs.Phases.{phase_meaning}
use Rattle.refusals.specs.Refused.{Outcome, done}
use Rattle.elimination.specs.Moves.{below}
use Rattle.expressions.specs.declared.Record.{Record}
use Rattle.expressions.specs.declared.Step.{Step}
use Rattle.expressions.specs.Layout.{blank, nowhere}
use Rattle.network.specs.Plans.{unplanned}
use Rattle.network.specs.Seals.{Settled, seals}
use Rattle.network.specs.States.{SealedCounts, sealed, reopened}
use Rattle.engine.specs.Querying.{queries}
use Rattle.engine.specs.Tracking.{TraceAfter, traces}
use Rattle.worked.specs.Drawing.{Drawing, drawing}

-- The records by their kinds; record 0 is nothing, and each is alone in its chain.
abbrev pub stay : Record
stay = record { kind = 1; left = 0; right = 0; next = 0 }

abbrev pub step_of : ℕ → Record
step_of j = record { kind = 2; left = j; right = 0; next = 0 }

abbrev pub sum_of : ℕ → ℕ → Record
sum_of x y = record { kind = 3; left = x; right = y; next = 0 }

abbrev pub then_of : ℕ → ℕ → Record
then_of x y = record { kind = 4; left = x; right = y; next = 0 }

abbrev pub repeat_of : ℕ → Record
repeat_of x = record { kind = 5; left = x; right = 0; next = 0 }

-- a step in force
abbrev pub between : ℕ → ℕ → Step
between from to = record { from = from; to = to; in_force = true }

-- a network: what it counts when it is sealed, and its steps
pub record Example : Type 0 where
  pub counts : SealedCounts
  pub steps : List Step

-- what sealing it gives, in buffers of 16 records and 1,024 heads and a new plan
abbrev pub after_seal : Example → Settled
after_seal e = seals (reopened e.counts) e.steps (replicate 16 blank) (replicate 1024 0) unplanned

-- what tracing it from a source gives then
abbrev pub after_trace : Example → ℕ → TraceAfter
after_trace e source = let w = after_seal e in traces e.counts e.steps w.records w.heads (replicate e.counts.formats 0) w.plan source

-- what a query of it answers then, in an algebra, under these weights
abbrev pub after_query : Meaning ℕ → Example → List ℕ → ℕ → Outcome (Unit {0}) × List ℕ
after_query m e weights source =
    let w = after_seal e in
    let zero = m.on.zero in
    let n = e.counts.formats in
    let q = queries m e.counts e.steps w.records w.heads (replicate n 0) weights (replicate 16 zero) (replicate n zero) w.plan source in
    (q.answer, q.answers)

-- two formats: step 0 from 0 to 1, step 1 from 1 to 0, and step 2 from 1 to itself
abbrev pub pair : Example
pair = record { counts = record { formats = 2; steps = 3; components = 1; records = 8 }; steps = between 0 1 ∷ between 1 0 ∷ between 1 1 ∷ [] }

-- one format, and no steps
abbrev pub lone : Example
lone = record { counts = record { formats = 1; steps = 0; components = 1; records = 2 }; steps = [] }

-- one format, and a step from it to itself
abbrev pub again : Example
again = record { counts = record { formats = 1; steps = 1; components = 1; records = 4 }; steps = between 0 0 ∷ [] }

-- two formats, and a step from 1 to 0
abbrev pub back : Example
back = record { counts = record { formats = 2; steps = 1; components = 2; records = 3 }; steps = between 1 0 ∷ [] }

-- taken Adds leave the steps of an example in a buffer of as many places
abbrev pub Draws : Example → List (ℕ × ℕ) → Type 0
Draws e ends =
    ◌≡◌ {A = Drawing} (drawing e.counts.formats ends (replicate e.counts.steps nowhere)) (done (reopened e.counts), e.steps)

-- sealing an example is done, and its counts are those of the example
abbrev pub Seals : Example → Type 0
Seals e = ((after_seal e).answer ≡ done tt) × ((after_seal e).state ≡ sealed e.counts)

-- tracing it is done, and this is the row
abbrev pub Traces : Example → ℕ → List ℕ → Type 0
Traces e source row = ((after_trace e source).answer ≡ done tt) × ((after_trace e source).row ≡ row)

-- the order of its formats
abbrev pub order_of : Example → List ℕ
order_of e = map (after_seal e).plan.order (below e.counts.formats)

pub record WorkedExamples : Type 0 where
  pub pair-draws : Draws pair ((0, 1) ∷ (1, 0) ∷ (1, 1) ∷ [])
  -- 8 records in one component: the steps are 2 to 4, and 7 is what repeats at format 1
  pub pair-seals : Seals pair
  pub pair-records :
      take 8 (after_seal pair).records ≡ blank ∷ stay ∷ step_of 0 ∷ step_of 1 ∷ step_of 2 ∷ then_of 3 2 ∷ sum_of 4 5 ∷ repeat_of 6 ∷ []
  -- three more records: step 0 and then 7 lead to format 1, and back to 0 or to stay
  pub pair-traces : Traces pair 0 (10 ∷ 8 ∷ [])
  pub pair-traced :
      take 11 (after_trace pair 0).records
      ≡ blank ∷ stay ∷ step_of 0 ∷ step_of 1 ∷ step_of 2 ∷ then_of 3 2 ∷ sum_of 4 5 ∷ repeat_of 6 ∷ then_of 2 7 ∷ then_of 8 3 ∷ sum_of 1 9 ∷ []
  pub pair-counts : (after_trace pair 0).state.records ≡ 11
  -- costs 5, 7 and 2
  pub pair_costs : after_query cost_meaning pair (5 ∷ 7 ∷ 2 ∷ []) 0 ≡ (done tt, 0 ∷ 5 ∷ [])
  -- phases {2}, {1} and {0} modulo 6: {0, 3} and {2, 5}
  pub pair_phases : after_query (phase_meaning 6) pair (4 ∷ 2 ∷ 1 ∷ []) 0 ≡ (done tt, 9 ∷ 36 ∷ [])
  -- the only route is to stay
  pub lone-draws : Draws lone []
  pub lone-seals : Seals lone
  pub lone-traces : Traces lone 0 (1 ∷ [])
  -- the step is repeated; phase {4} modulo 6 comes to {0, 2, 4}
  pub again-draws : Draws again ((0, 0) ∷ [])
  pub again-seals : Seals again
  pub again-traces : Traces again 0 (3 ∷ [])
  pub again_phases : after_query (phase_meaning 6) again (16 ∷ []) 0 ≡ (done tt, 21 ∷ [])
  -- the component that the step leaves is listed first
  pub back-draws : Draws back ((1, 0) ∷ [])
  pub back-seals : Seals back
  pub back-order : order_of back ≡ 1 ∷ 0 ∷ []
  pub back-traces : Traces back 1 (2 ∷ 1 ∷ [])
