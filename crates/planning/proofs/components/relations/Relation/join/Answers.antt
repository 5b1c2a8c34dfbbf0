use Rattle.std.proofs.Common.{arith}
use Rattle.std.proofs.lemmas.Bool.Decides.{nat_tests}
use Rattle.planning.proofs.Relations.{goes-more}
use Rattle.planning.proofs.components.relations.Relation.join.Goals as goal

pub invariant_of-self : goal.invariant_of-self
invariant_of-self c = record {
  few = omega arith;
  inside = λ w x e.
      let more = goes-more c.args.self.now.sets c.args.u c.args.v (omega arith) (omega arith) w x in
      let old = c.args.self.now.inside w x in
      (grind (arith, nat_tests), grind (arith, nat_tests));
}

pub returns-clause-goes : goal.returns-clause-goes
returns-clause-goes c w x = goes-more c.args.self.now.sets c.args.u c.args.v (omega arith) (omega arith) w x
