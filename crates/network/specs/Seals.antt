-- Sealing a network: what comes of it, the state, and each buffer after it. The checks stand in the order in which they are
-- made. Assumes nothing.
use Rattle.std.specs.Prelude.{ℕ, Bool, cond, ◌&&◌, List, length, take, Some, Ok, Err, Result, nat_lt, slice_index}
use Rattle.refusals.specs.Refused.{Outcome, done, refused, listed}
use Rattle.elimination.specs.Networks.{Network}
use Rattle.elimination.specs.Moves.{sealing}
use Rattle.expressions.specs.declared.Record.{Record}
use Rattle.expressions.specs.declared.Step.{Step}
use Rattle.expressions.specs.Contents.{Contents, cleared}
use Rattle.expressions.specs.Layout.{each}
use Rattle.planning.specs.Components.{Listing, component_of, component_count}
use Rattle.planning.specs.Drawn.{drawn}
use Rattle.planning.specs.Orders.{in_order}
use Rattle.planning.specs.Running.{Ran, through, stopped, run_acts}
use Rattle.network.specs.declared.states.NotSealed.{NotSealed}
use Rattle.network.specs.declared.states.Sealed.{Sealed}
use Rattle.network.specs.States.{DraftCounts, State, drafted, sealed}
use Rattle.network.specs.Plans.{Planned, InTurn}

-- a step is damaged if one of its ends is no format
abbrev pub steps_sound : ℕ → List Step → Bool
steps_sound n steps = each (λ _ s. nat_lt s.from n && nat_lt s.to n) 0 steps

-- the component of each format, 0 past the formats
abbrev pub components : Network → ℕ → ℕ
components N v = cond (nat_lt v N.formats) (component_of N v) 0

-- the plan of a network whose table is made in a store of so many records
abbrev pub plan_for : Network → ℕ → (ℕ → ℕ → ℕ) → Planned
plan_for N records table = record {
  formats = N.formats;
  components = component_count N;
  records = records;
  order = λ k. slice_index (in_order N.formats (component_count N) (components N)) k;
  component = components N;
  table = table;
}

-- The steps that were added, where a draft can be sealed in these buffers. Refused are buffers of steps, records or heads that
-- are too short, and a damaged step.
abbrev pub sealable : DraftCounts → List Step → List Record → List ℕ → Outcome (List Step)
sealable d steps records heads =
    cond (nat_lt (length steps) d.steps) (refused 6 (Some 1))
    (cond (nat_lt (length records) 2) (refused 6 (Some 2))
    (cond (nat_lt (length heads) 1024) (refused 6 (Some 3))
    (cond (steps_sound d.formats (take d.steps steps)) (done (take d.steps steps)) (refused 7 (Some 1)))))

-- what came of working out a plan, with the components and the records where it was done, and the buffers after it
pub record Worked : Type 0 where
  pub answer : Outcome (ℕ × ℕ)
  pub records : List Record
  pub heads : List ℕ
  pub plan : Planned

-- the table that a run has made is planned; where the store was full, what was made stands, and the plan is as before
abbrev pub worked : Network → Planned → Ran (ℕ → ℕ → ℕ) → Worked
worked N plan (through c table) = record { answer = done (component_count N, c.count); records = c.records; heads = c.heads; plan = plan_for N c.count table }
worked N plan (stopped c number value) = record { answer = refused number value; records = c.records; heads = c.heads; plan = plan }

-- the acts of sealing are run in a store from an empty table
abbrev pub worked_from : Contents → Network → Planned → Worked
worked_from c N plan = worked N plan (run_acts c (λ _ _. 0) (sealing N (component_count N) (components N)))

-- the store is cleared first
abbrev pub worked_out : Network → List Record → List ℕ → Planned → Worked
worked_out N records heads plan = worked_from (cleared (record { records = records; heads = heads; count = 0 })) N plan

-- what came of sealing, the state after it, and the buffers of records, heads and plan
pub record Settled : Type 0 where
  pub answer : Outcome (Unit {0})
  pub state : State
  pub records : List Record
  pub heads : List ℕ
  pub plan : Planned

-- a network whose plan was worked out is sealed, and else a draft as before
abbrev pub settled : DraftCounts → Worked → Settled
settled d w = elim w.answer [
  | done size ↦ record {
    answer = done tt;
    state = sealed (record { formats = d.formats; steps = d.steps; components = size.0; records = size.1 });
    records = w.records;
    heads = w.heads;
    plan = w.plan;
  }
  | refused number value ↦ record { answer = refused number value; state = drafted d; records = w.records; heads = w.heads; plan = w.plan }
]

-- where a draft cannot be sealed that is refused, and nothing changes; else its plan is worked out
abbrev pub works_with : DraftCounts → List Record → List ℕ → Planned → Outcome (List Step) → Worked
works_with d records heads plan (done added) = worked_out (drawn d.formats added) records heads plan
works_with d records heads plan (refused number value) = record { answer = refused number value; records = records; heads = heads; plan = plan }

abbrev pub works : DraftCounts → List Step → List Record → List ℕ → Planned → Worked
works d steps records heads plan = works_with d records heads plan (sealable d steps records heads)

abbrev pub seals : DraftCounts → List Step → List Record → List ℕ → Planned → Settled
seals d steps records heads plan = settled d (works d steps records heads plan)

-- what a call that seals has come to: its result, and the buffers at its exit
abbrev pub sealed_to : Result Sealed NotSealed → List Record → List ℕ → Planned → Settled
sealed_to (Ok s) records heads plan = record { answer = done tt; state = sealed s; records = records; heads = heads; plan = plan }
sealed_to (Err e) records heads plan =
    record { answer = refused (listed e.refusal).0 (listed e.refusal).1; state = drafted e.draft; records = records; heads = heads; plan = plan }

-- A plan is right for a network: its components are numbered as the rule of the lowest format lists them, and its order has
-- their formats in turn.
pub record PlannedFor (N : Network) (p : Planned) : Type 0 where
  pub listing : Listing N p.components p.component
  pub turns : InTurn p
