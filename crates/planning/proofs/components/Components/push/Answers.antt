use Rattle.std.proofs.Common.{◌≡◌, cond, get_or, refl, ap, ◌∙◌, subst, arith}
use Rattle.bits.specs.Bits.{has, places}
use Rattle.planning.proofs.Numbering.{Numbering, numbering_none, numbering_all, numbering-below, numbering_more}
use Rattle.planning.proofs.components.Components.push.Goals as goal

pub loop-v-init : goal.loop-v-init
loop-v-init c =
    let start = c.into_iter-v-iterator.result.0 in
    let same : start ≡ c.args.component = cc in
    record { next = tt; finite = tt; count = refl; numbering = numbering_none start (omega arith) c.args.self.now.count c.args.self.now.of }

pub bounds-self-v : goal.bounds-self-v
bounds-self-v c =
    let before = c.args.self.now in
    let all = places 64 c.into_iter-v-iterator.result.0 in
    numbering-below all (places 64 c.next.new.self.0) c.in-Some.v before.count before.of c.loop-v.self.of
    (subst (λ xs. Numbering all xs before.count before.of c.loop-v.self.of) c.in-Some.ensures.steps c.loop-v.invariant.numbering)

pub loop-v-preserved : goal.loop-v-preserved
loop-v-preserved c =
    let before = c.args.self.now in
    let all = places 64 c.into_iter-v-iterator.result.0 in
    record {
      next = tt;
      finite = tt;
      count = c.loop-v.invariant.count;
      numbering = numbering_more all (places 64 c.next.new.self.0) c.in-Some.v before.count before.of c.loop-v.self.of
          (subst (λ xs. Numbering all xs before.count before.of c.loop-v.self.of) c.in-Some.ensures.steps c.loop-v.invariant.numbering) (omega arith);
    }

pub returns-clause-of : goal.returns-clause-of
returns-clause-of c u =
    let start = c.into_iter-v-iterator.result.0 in
    let same : start ≡ c.args.component = cc in
    let before = c.args.self.now in
    numbering_all start (omega arith) before.count before.of c.loop-v.self.of
    (subst (λ xs. Numbering (places 64 start) xs before.count before.of c.loop-v.self.of) c.in-None.ensures.steps.0 c.loop-v.invariant.numbering) u
    ∙ ap (λ x. cond (has x u) before.count (get_or before.of u 0)) same
