use Rattle.std.proofs.Common.{◌≡◌, ◌^◌, ◌<◌, sym, refl, ap₂, ◌∙◌, subst, arith}
use Rattle.bits.specs.Bits.{places}
use Rattle.bits.proofs.Places.{places_below}
use Rattle.algebras.specs.Phases.{phase_meaning}
use Rattle.algebras.proofs.Turns.{operand-below, Joining, joining_none, joining-more, joining_all}
use Rattle.algebras.proofs.phase.PhaseAlgebra.product.Goals as goal

pub loop-i-init : goal.loop-i-init
loop-i-init c =
    let m = c.args.self.now.modulus in
    let start = c.into_iter-i-iterator.result.0 in
    let same : start ≡ c.operand.result = cc in
    let small : start < 2 ^ m = subst (λ x. x < 2 ^ m) (sym (same ∙ c.operand.ensures)) (operand-below m c.args.a) in
    record { next = tt; finite = tt; joining = joining_none m _ _ (places_below 64 m start (omega arith) small) }

pub loop-i-preserved : goal.loop-i-preserved
loop-i-preserved c =
    let m = c.args.self.now.modulus in
    let b = c.operand-second.result in
    let all = places 64 c.into_iter-i-iterator.result.0 in
    record {
      next = tt;
      finite = tt;
      joining = joining-more m b all c.in-Some.i (places 64 c.next.new.self.0) c.loop-i.out c.turned-out.result c.turned-out.ensures
          (subst (λ xs. Joining m b all xs c.loop-i.out) c.in-Some.ensures.steps c.loop-i.invariant.joining);
    }

pub returns : goal.returns
returns c =
    let m = c.args.self.now.modulus in
    let b = c.operand-second.result in
    let start = c.into_iter-i-iterator.result.0 in
    let same : start ≡ c.operand.result = cc in
    let small : start < 2 ^ m = subst (λ x. x < 2 ^ m) (sym (same ∙ c.operand.ensures)) (operand-below m c.args.a) in
    joining_all m b (places 64 start) start c.loop-i.out (omega arith) small refl
    (subst (λ xs. Joining m b (places 64 start) xs c.loop-i.out) c.in-None.ensures.steps.0 c.loop-i.invariant.joining)
    ∙ ap₂ (phase_meaning m).on.product (same ∙ c.operand.ensures) c.operand-second.ensures
