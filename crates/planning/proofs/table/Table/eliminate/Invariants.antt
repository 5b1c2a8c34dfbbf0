-- What the loop keeps: to eliminate the formats that are left gives what to eliminate all gives where the loop began.
-- Assumes nothing.
use Rattle.std.proofs.Common.{◌≡◌, length}
use Rattle.elimination.specs.Moves.{eliminate}
use Rattle.planning.specs.Eliminating.{Kept, by_acts}
use Rattle.planning.specs.Tables.{Places}
use Rattle.planning.proofs.table.Table.eliminate.Given as goal

abbrev pub invariant-loop-first : goal.invariant-loop-first
invariant-loop-first l = record {
  places : Places l.rest;
  kept : Kept l.initial.self l.self;
  run : by_acts l.self (eliminate l.rest) ≡ by_acts l.initial.self (eliminate l.formats);
}

abbrev pub decreases-loop-first : goal.decreases-loop-first
decreases-loop-first l = length l.rest
