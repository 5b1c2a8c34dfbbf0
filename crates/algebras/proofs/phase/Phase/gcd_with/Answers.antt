use Rattle.std.proofs.Common.{◌^◌, ◌<◌, rules, sym, refl, ap, ◌∙◌, subst, arith}
use Rattle.std.specs.Int.{IsGcd}
use Rattle.std.specs.Iterator.{YieldsFirst}
use Rattle.std.proofs.lemmas.Fn.{fold_over}
use Rattle.std.proofs.lemmas.Iterator.Consumers.{YieldsList-from_first}
use Rattle.bits.specs.Bits.{places}
use Rattle.bits.specs.declared.Ones.{Ones}
use Rattle.algebras.specs.Phases.{gcd_with}
use Rattle.algebras.proofs.Turns.{operand-below}
use Rattle.algebras.proofs.Stars.{Dividing, dividing_none, dividing-more, dividing_all}
use Rattle.algebras.proofs.phase.Phase.gcd_with.Goals as goal

pub returns : goal.returns
returns c =
    let m = c.args.self.now.modulus in
    let a = c.operand.result in
    let small : a < 2 ^ m = subst (λ x. x < 2 ^ m) (sym c.operand.ensures) (operand-below m c.args.a) in
    let dividing : Dividing m (places 64 a) c.fold.result =
    fold_over (YieldsFirst (λ (s : Ones). places 64 s.0)) (λ x. x) _ (Dividing m) _
    (λ xs g x next f' before k. let gcd : IsGcd g x next = search rules in (dividing-more m xs g x next before gcd, search rules))
    (record { 0 = a }) (places 64 a) m c.fold.result (YieldsList-from_first (λ x. x) (λ s. places 64 s.0) (places 64 a) refl).runs (dividing_none m) c.fold.ensures.ran in
    let (value, low, high) = dividing_all m a c.fold.result (omega arith) (omega arith) small dividing in
    record { value = value ∙ ap (gcd_with m) c.operand.ensures; low = low; high = high }
