-- What the loop keeps: the second sweep over the formats that are left gives what the whole gives where the loop began. Assumes nothing.
use Rattle.std.proofs.Common.{[], length}
use Rattle.elimination.specs.Moves.{sweep_back}
use Rattle.engine.specs.Rows.{Formats}
use Rattle.engine.proofs.Moved.{Sofar, formats}
use Rattle.engine.proofs.tracer.Tracer.sweep_back.Given as goal

abbrev pub invariant-loop-v : goal.invariant-loop-v
invariant-loop-v l = Formats (formats l.initial.self) l.rest × Sofar (sweep_back [] l.rest) (sweep_back [] l.formats) l.initial.self l.self

abbrev pub decreases-loop-v : goal.decreases-loop-v
decreases-loop-v l = length l.rest
