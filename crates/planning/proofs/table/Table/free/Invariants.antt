-- What the loop keeps: the passes to the formats that are left give what all give where the loop began. Assumes nothing.
use Rattle.std.proofs.Common.{map}
use Rattle.elimination.specs.Moves.{at, pass}
use Rattle.planning.proofs.Runs.{Left}
use Rattle.planning.proofs.table.Table.free.Given as goal

abbrev pub invariant-loop-w : goal.invariant-loop-w
invariant-loop-w l = Left (map (λ w. at l.u (pass l.v w))) l.later l.initial.self l.self l.w-index
