-- What the loop keeps: the components that are left give what all give where the loop began. Assumes nothing.
use Rattle.std.proofs.Common.{drop}
use Rattle.elimination.specs.Moves.{for_each, below}
use Rattle.network.specs.Plans.{planned}
use Rattle.planning.specs.Drawn.{drawn}
use Rattle.engine.specs.Rows.{through_component}
use Rattle.engine.proofs.Moved.{Sofar}
use Rattle.engine.proofs.tracer.Tracer.trace.Given as goal

abbrev pub invariant-loop-c : goal.invariant-loop-c
invariant-loop-c l =
    let p = planned l.initial.self.plan.now in
    let moves = through_component (drawn p.formats l.initial.self.steps.now) p.component in
    Sofar (for_each moves (drop l.c (below p.components))) (for_each moves (below p.components)) l.initial.self l.self
