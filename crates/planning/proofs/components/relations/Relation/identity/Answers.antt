use Rattle.std.proofs.Common.{◌&&◌, ◌||◌, eqb, ap, ◌∙◌, arith}
use Rattle.std.proofs.lemmas.Bool.Decides.{nat_tests}
use Rattle.planning.proofs.Relations.{diagonal_more}
use Rattle.planning.proofs.components.relations.Relation.identity.Goals as goal

pub loop-u-init : goal.loop-u-init
loop-u-init c = (c.empty-identity.ensures.size, λ w v. c.empty-identity.ensures.goes w v ∙ grind (arith, nat_tests))

pub loop-u-preserved : goal.loop-u-preserved
loop-u-preserved c = (
  c.join.ensures.size ∙ c.loop-u.invariant.0,
  λ w v.
      let u = c.loop-u.u in
      c.join.ensures.goes w v ∙ ap (λ old. old || (eqb u w && eqb u v)) (c.loop-u.invariant.1 w v) ∙ diagonal_more u w v,
)
