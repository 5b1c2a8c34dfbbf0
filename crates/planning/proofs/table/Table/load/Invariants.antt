-- What the loop keeps: to load the steps that are left gives what to load all gives where the loop began. Assumes nothing.
use Rattle.std.proofs.Common.{get_or}
use Rattle.planning.proofs.Loads.{loads_of, numbers}
use Rattle.planning.proofs.Runs.{Left}
use Rattle.planning.proofs.table.Table.load.Given as goal

abbrev pub invariant-loop-j : goal.invariant-loop-j
invariant-loop-j l = Left (loads_of l.steps (λ v. get_or l.component v 0)) (numbers l.steps) l.initial.self l.self l.j
