use Rattle.std.proofs.Common.{ap, ◌∙◌, arith}
use Rattle.std.proofs.lemmas.Bool.Decides.{nat_tests}
use Rattle.planning.specs.Bits.{goes}
use Rattle.planning.proofs.components.relations.Relation.converse.Goals as goal
use Rattle.planning.proofs.components.relations.Relation.converse.Goals.{then-has, else-has}

pub loop-u-init : goal.loop-u-init
loop-u-init c = (c.empty-converse.ensures.size, λ y x. c.empty-converse.ensures.goes y x ∙ grind (arith, nat_tests))

pub loop-v-preserved : goal.loop-v-preserved
loop-v-preserved c =
    let old = c.loop-v.invariant in
    elim c.if-has.branch [
      | then-has way ↦ (
        ap (λ r. r.size) way.converse-is ∙ way.join.ensures.size ∙ old.0,
        λ y x.
            let here = old.1 y x in
            let now = ap (λ r. goes r.sets y x) way.converse-is in
            let new = way.join.ensures.goes y x in
            let bit = way.if-has.ensures in
            grind (arith, nat_tests),
      )
      | else-has way ↦ (
        ap (λ r. r.size) way.converse-is ∙ old.0,
        λ y x.
            let here = old.1 y x in
            let now = ap (λ r. goes r.sets y x) way.converse-is in
            let bit = way.if-has.ensures in
            grind (arith, nat_tests),
      )
    ]

pub loop-u-preserved : goal.loop-u-preserved
loop-u-preserved c = (
  c.loop-v.invariant.0,
  λ y x.
      let old = c.loop-u.invariant.1 y x in
      let new = c.loop-v.invariant.1 y x in
      let inside = c.args.self.now.inside x y in
      grind (arith, nat_tests),
)
