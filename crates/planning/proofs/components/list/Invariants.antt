use Rattle.std.proofs.Common.{◌-◌}
use Rattle.planning.specs.Drawn.{drawn}
use Rattle.planning.proofs.Picks.{Known, Sofar}
use Rattle.planning.proofs.components.list.Given as goal

abbrev pub invariant-loop-v : goal.invariant-loop-v
invariant-loop-v l = Known (drawn l.formats l.steps) l.reach.sets l.into.sets × Sofar (drawn l.formats l.steps) l.components.count l.listed l.components.of

abbrev pub decreases-loop-v : goal.decreases-loop-v
decreases-loop-v l = l.formats - l.components.count
