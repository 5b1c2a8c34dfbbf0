-- What the loop keeps: to free the rows that are left gives what to free all gives where the loop began. Assumes nothing.
use Rattle.elimination.specs.Moves.{for_each}
use Rattle.planning.specs.Running.{freeing}
use Rattle.planning.proofs.Runs.{Left}
use Rattle.planning.proofs.table.Table.free_all.Given as goal

abbrev pub invariant-loop-u : goal.invariant-loop-u
invariant-loop-u l = Left (for_each (freeing l.v l.later)) l.later l.initial.self l.self l.u-index
