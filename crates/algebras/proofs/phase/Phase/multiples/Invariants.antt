use Rattle.std.proofs.Common.{◌-◌}
use Rattle.algebras.proofs.Stars.{Filling}
use Rattle.algebras.proofs.phase.Phase.multiples.Given as goal

abbrev pub invariant-loop-span : goal.invariant-loop-span
invariant-loop-span l = Filling l.g l.out l.span

abbrev pub decreases-loop-span : goal.decreases-loop-span
decreases-loop-span l = l.self.modulus - l.span
