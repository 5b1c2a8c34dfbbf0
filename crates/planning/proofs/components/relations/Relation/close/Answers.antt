use Rattle.std.proofs.Common.{◌∙◌, add-one}
use Rattle.planning.proofs.components.relations.Relation.close.Goals as goal

pub loop-k-preserved : goal.loop-k-preserved
loop-k-preserved c = (
  c.widen.ensures.size ∙ c.loop-k.invariant.0,
  λ u v.
      let k = c.loop-k.k in
      let wide = c.widen.ensures.goes u v in
      let there = c.loop-k.invariant.1 u v in
      let before = c.loop-k.invariant.1 u k in
      let after = c.loop-k.invariant.1 k v in
      rw add-one (cc),
)
