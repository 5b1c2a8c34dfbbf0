-- What the loop keeps: to eliminate the components that are left gives what to eliminate all gives where the loop began, and
-- their formats are what is left of the order. Assumes nothing.
use Rattle.std.proofs.Common.{length, get_or}
use Rattle.elimination.specs.Moves.{for_each, below, eliminate}
use Rattle.planning.specs.Orders.{members_of}
use Rattle.planning.proofs.Orders.{Standing}
use Rattle.planning.proofs.Runs.{Left}
use Rattle.planning.proofs.table.Table.eliminate_all.Given as goal

abbrev pub invariant-loop-c : goal.invariant-loop-c
invariant-loop-c l =
    Left (for_each (λ c. eliminate (members_of (length l.order) (λ v. get_or l.components.of v 0) c))) (below l.components.count) l.initial.self l.self l.c
    × Standing (length l.order) l.components.count (λ v. get_or l.components.of v 0) l.order l.c l.start
