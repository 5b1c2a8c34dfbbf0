use Rattle.std.proofs.Common.{ap, ◌∙◌, arith}
use Rattle.std.proofs.lemmas.List.{take_all}
use Rattle.std.proofs.lemmas.Bool.Decides.{nat_tests}
use Rattle.planning.specs.Bits.{goes}
use Rattle.planning.specs.Components.{direct}
use Rattle.planning.specs.Drawn.{drawn}
use Rattle.planning.proofs.Drawing.{entry_ends, direct_more}
use Rattle.planning.proofs.components.direct.Goals as goal
use Rattle.planning.proofs.components.direct.Goals.{then-s, else-s}

pub loop-s-init : goal.loop-s-init
loop-s-init c = (c.identity-reach.ensures.size, λ u v h. let same = c.identity-reach.ensures.goes u v in grind (arith, nat_tests))

pub join-requires : goal.join-requires
join-requires c =
    let (from, to) = entry_ends c.args.formats c.args.steps.now c.loop-s.s-index c.requires.joined c.loop-s-test.true c.if-s.true in
    record { from = omega arith; to = omega arith }

pub loop-s-preserved : goal.loop-s-preserved
loop-s-preserved c =
    let old = c.loop-s.invariant in
    let more = direct_more c.args.formats c.args.steps.now c.loop-s.s-index in
    elim c.if-s.branch [
      | then-s way ↦ (
        ap (λ r. r.size) way.reach-is ∙ way.join.ensures.size ∙ old.0,
        λ u v h.
            let before = old.1 u v h in
            let step = more u v c.loop-s-test.true in
            let now = ap (λ r. goes r.sets u v) way.reach-is in
            let new = way.join.ensures.goes u v in
            grind (arith, nat_tests),
      )
      | else-s way ↦ (
        ap (λ r. r.size) way.reach-is ∙ old.0,
        λ u v h.
            let before = old.1 u v h in
            let step = more u v c.loop-s-test.true in
            let now = ap (λ r. goes r.sets u v) way.reach-is in
            grind (arith, nat_tests),
      )
    ]

pub returns : goal.returns
returns c = record {
  size = c.loop-s.invariant.0;
  goes = λ u v h. c.loop-s.invariant.1 u v h ∙ ap (λ steps. direct (drawn c.args.formats steps) u v) (take_all c.loop-s.s-index c.args.steps.now (omega arith));
}
