-- What the loop keeps: to cross those of the steps that are left gives what to cross those of all gives where the loop began.
-- Assumes nothing.
use Rattle.std.proofs.Common.{drop}
use Rattle.network.specs.Plans.{planned}
use Rattle.planning.proofs.Loads.{numbers}
use Rattle.engine.proofs.Leaving.{leaving_of}
use Rattle.engine.proofs.Moved.{Sofar}
use Rattle.engine.proofs.tracer.Tracer.leave.Given as goal

abbrev pub invariant-loop-j : goal.invariant-loop-j
invariant-loop-j l =
    let p = planned l.initial.self.plan.now in
    let steps = l.initial.self.steps.now in
    Sofar (leaving_of p.formats steps p.component l.c (drop l.j (numbers steps))) (leaving_of p.formats steps p.component l.c (numbers steps)) l.initial.self l.self
