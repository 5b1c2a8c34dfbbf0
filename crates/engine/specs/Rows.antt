-- What the moves of a row ask for, and what they keep. Assumes nothing.
use Rattle.std.specs.Prelude.{◌≡◌, ℕ, ◌<◌, Bool, not, ◌&&◌, List, [], ◌++◌, length, Ok, Err, Result, ◌==◌, slice_index}
use Rattle.refusals.specs.Refused.{listed}
use Rattle.refusals.specs.declared.Refusal.{Refusal}
use Rattle.elimination.specs.Moves.{Move, formats_of, sweep, sweep_back, leaving}
use Rattle.elimination.specs.Networks.{Network}
use Rattle.expressions.specs.declared.Step.{Step}
use Rattle.expressions.specs.Contents.{Contents}
use Rattle.expressions.specs.Stores.{contents, Extends}
use Rattle.planning.specs.declared.rows.Row.{Row}
use Rattle.planning.specs.Running.{Ran, through, stopped, seen, run_moves}
use Rattle.planning.specs.Tables.{row_of}
use Rattle.network.specs.Plans.{Planned, planned}
use Rattle.engine.specs.declared.tracer.Tracer.{Tracer}

-- the plan names records in use
abbrev pub NamesInUse : Planned → ℕ → Type 0
NamesInUse plan count = (u w : ℕ) → u < plan.formats → w < plan.formats → plan.table u w < count

-- the numbers of a list are formats
abbrev pub Formats : ℕ → List ℕ → Type 0
Formats n vs = (k : ℕ) → k < length vs → slice_index vs k < n

-- a step is in force and leaves component c for another
abbrev pub leaves : (ℕ → ℕ) → ℕ → Step → Bool
leaves component c s = s.in_force && (component s.from == c && not (component s.to == c))

-- the moves of a trace through component c: two sweeps over its formats, and the steps that leave it
abbrev pub through_component : Network → (ℕ → ℕ) → ℕ → List Move
through_component N component c = let vs = formats_of N component c in sweep vs ++ sweep_back [] vs ++ leaving N component c

-- what a run of moves keeps: the plan and the steps, and the store, which is the same one and is extended
pub record Kept (entry exit : Tracer) : Type 0 where
  pub same : exit.store.ghost_name ≡ entry.store.ghost_name
  pub store : Extends entry.store.now exit.store.now
  pub plan : exit.plan ≡ entry.plan
  pub steps : exit.steps ≡ entry.steps

-- moves of a row by its plan, run in its store
abbrev pub run_by : Tracer → List Move → Ran (ℕ → ℕ)
run_by t moves = run_moves (planned t.plan.now).table (contents t.store.now) (row_of t.row) moves

-- a call that runs these moves
pub record Traced (entry exit : Tracer) (result : Result (Unit {0}) Refusal) (moves : List Move) : Type 0 where
  pub kept : Kept entry exit
  pub run : seen result (contents exit.store.now) (row_of exit.row) ≡ run_by entry moves

-- what came of a call that traces a row: the row, or a refusal, and the contents of the store after it
abbrev pub row_seen : Result Row Refusal → Contents → Ran (ℕ → ℕ)
row_seen (Ok row) c = through c (row_of row)
row_seen (Err e) c = stopped c (listed e).0 (listed e).1
