-- What the loop keeps: the passes to the formats that are left give what all give where the loop began. Assumes nothing.
use Rattle.std.proofs.Common.{map, drop}
use Rattle.elimination.specs.Moves.{pass}
use Rattle.engine.proofs.Moved.{Sofar}
use Rattle.engine.proofs.tracer.Tracer.pass_all.Given as goal

abbrev pub invariant-loop-w : goal.invariant-loop-w
invariant-loop-w l = Sofar (map (pass l.v) (drop l.w-index l.formats)) (map (pass l.v) l.formats) l.initial.self l.self
