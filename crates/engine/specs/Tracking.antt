-- Tracing: what comes of it, and the state and each buffer after it. Assumes nothing.
use Rattle.std.specs.Prelude.{ℕ, List, ◌++◌, map, length, take, drop}
use Rattle.refusals.specs.Refused.{Outcome, done, refused}
use Rattle.elimination.specs.Moves.{below, put, tracing}
use Rattle.expressions.specs.declared.Record.{Record}
use Rattle.expressions.specs.declared.Step.{Step}
use Rattle.expressions.specs.Contents.{Contents}
use Rattle.planning.specs.Drawn.{drawn}
use Rattle.planning.specs.Running.{Ran, through, stopped, run_moves}
use Rattle.network.specs.Plans.{Planned}
use Rattle.network.specs.States.{SealedCounts, counting}
use Rattle.engine.specs.Checks.{traceable}

-- what came of tracing, with the row where it was done, the state after it, and the records and heads
pub record Tracked : Type 0 where
  pub answer : Outcome (ℕ → ℕ)
  pub state : SealedCounts
  pub records : List Record
  pub heads : List ℕ

-- what a run has made stands and is counted, also where the store was full
abbrev pub tracked_by : SealedCounts → Ran (ℕ → ℕ) → Tracked
tracked_by s (through c row) = record { answer = done row; state = counting s c.count; records = c.records; heads = c.heads }
tracked_by s (stopped c number value) = record { answer = refused number value; state = counting s c.count; records = c.records; heads = c.heads }

-- the moves of tracing from a source over the steps that were added, run in the store: stay at the source and nothing elsewhere at first
abbrev pub ran_from : SealedCounts → List Step → List Record → List ℕ → Planned → ℕ → Ran (ℕ → ℕ)
ran_from s added records heads plan source =
    run_moves plan.table (record { records = records; heads = heads; count = s.records }) (put source 1 (λ _. 0))
    (tracing (drawn s.formats added) plan.components plan.component)

-- where the checks are passed the moves are run; else nothing changes
abbrev pub tracked : SealedCounts → List Step → List Record → List ℕ → Planned → ℕ → Outcome (Unit {0}) → Tracked
tracked s steps records heads plan source (done _) = tracked_by s (ran_from s (take s.steps steps) records heads plan source)
tracked s steps records heads plan source (refused number value) = record { answer = refused number value; state = s; records = records; heads = heads }

-- the contents of the store after it
abbrev pub contents_after : Tracked → Contents
contents_after t = record { records = t.records; heads = t.heads; count = t.state.records }

-- the first n places of a list hold f 0, f 1, .., the others what they held
abbrev pub filled : {X : Type 0} → (ℕ → X) → ℕ → List X → List X
filled f n xs = map f (below n) ++ drop n xs

-- where a call was done, the first n places of its row hold the row that was traced
abbrev pub row_after : ℕ → Outcome (ℕ → ℕ) → List ℕ → List ℕ
row_after n (done row) before = filled row n before
row_after n (refused number value) before = before

-- that a call was done, or its refusal
abbrev pub plain : {A : Type 0} → Outcome A → Outcome (Unit {0})
plain (done _) = done tt
plain (refused number value) = refused number value

-- what came of a trace, the state, and the buffers of records, heads and row after it
pub record TraceAfter : Type 0 where
  pub answer : Outcome (Unit {0})
  pub state : SealedCounts
  pub records : List Record
  pub heads : List ℕ
  pub row : List ℕ

-- what a trace makes of what was tracked
abbrev pub traced_by : SealedCounts → List ℕ → Tracked → TraceAfter
traced_by s row t = record { answer = plain t.answer; state = t.state; records = t.records; heads = t.heads; row = row_after s.formats t.answer row }

-- a trace tracks where its checks are passed
abbrev pub traces : SealedCounts → List Step → List Record → List ℕ → List ℕ → Planned → ℕ → TraceAfter
traces s steps records heads row plan source =
    traced_by s row (tracked s steps records heads plan source (traceable s steps records heads (length row) plan source))
