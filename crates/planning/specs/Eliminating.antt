-- Runs of acts over a table, from what it holds and to what it holds. Assumes nothing.
use Rattle.std.specs.Prelude.{◌≡◌, ℕ, List, Result}
use Rattle.refusals.specs.declared.Refusal.{Refusal}
use Rattle.elimination.specs.Moves.{Act}
use Rattle.expressions.specs.Stores.{contents, Extends}
use Rattle.planning.specs.Running.{Ran, seen, act_in, run_acts}
use Rattle.planning.specs.Tables.{table_of}
use Rattle.planning.specs.declared.table.Table.{Table}

-- what came of a call on a table: its result, and what the table holds at its exit
abbrev pub came : Result (Unit {0}) Refusal → Table → Ran (ℕ → ℕ → ℕ)
came r t = seen r (contents t.store.now) (table_of t.rows)

-- what comes of an act on a table
abbrev pub by_act : Table → Act → Ran (ℕ → ℕ → ℕ)
by_act t act = act_in (contents t.store.now) (table_of t.rows) act

-- what comes of several acts, one after the other
abbrev pub by_acts : Table → List Act → Ran (ℕ → ℕ → ℕ)
by_acts t acts = run_acts (contents t.store.now) (table_of t.rows) acts

-- what a run over a table keeps: its store is the same one, and is extended
pub record Kept (entry exit : Table) : Type 0 where
  pub store : Extends entry.store.now exit.store.now
  pub same : exit.store.ghost_name ≡ entry.store.ghost_name
