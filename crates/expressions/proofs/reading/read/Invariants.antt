use Rattle.std.proofs.Common.{get_or}
use Rattle.kleene.specs.Algebras.{everywhere}
use Rattle.expressions.proofs.Values.{Written}
use Rattle.expressions.proofs.reading.read.Given as goal

abbrev pub invariant-loop-i : goal.invariant-loop-i
invariant-loop-i g l =
    let o = everywhere (g.A.Algebra.meaning l.algebra) in
    Written o (λ j. get_or l.weights j o.zero) l.records l.initial.memo l.memo l.i
