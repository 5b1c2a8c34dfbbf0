use Rattle.bits.specs.Bits.{places}
use Rattle.algebras.proofs.Turns.{Joining}
use Rattle.algebras.proofs.phase.PhaseAlgebra.product.Given as goal

abbrev pub invariant-loop-i : goal.invariant-loop-i
invariant-loop-i l = record {
  next : (goal.iterator-loop-i).can_next l.i-iterator;
  finite : (goal.iterator-loop-i).is_finite l.i-iterator;
  joining : Joining l.self.modulus l.second (places 64 l.initial.i-iterator.0) (places 64 l.i-iterator.0) l.out;
}
