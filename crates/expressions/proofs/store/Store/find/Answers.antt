-- The walk stays on the way to the record that is looked for, and ends there. Assumes nothing.
use Rattle.std.proofs.Common.{get_or, sym, subst, arith}
use Rattle.std.proofs.lemmas.Bool.Decides.{nat_tests}
use Rattle.expressions.specs.Kinds.{number_of}
use Rattle.expressions.specs.Stores.{contents}
use Rattle.expressions.proofs.Stores.{sound}
use Rattle.expressions.proofs.Walks.{Towards, next-below, towards_start, towards-next, towards_here}
use Rattle.expressions.proofs.store.Store.find.Goals as goal

pub loop-at-init : goal.loop-at-init
loop-at-init c =
    let store = contents c.args.self.now in
    subst (λ k. Towards store (number_of c.args.kind) c.args.left c.args.right (get_or store.heads k 0)) (sym c.chain.ensures) (towards_start (sound c.args.self.now) _ _ _)

pub loop-at-smaller : goal.loop-at-smaller
loop-at-smaller c = omega (arith, next-below (sound c.args.self.now) c.loop-at.at c.loop-at.invariant.below)

pub loop-at-preserved : goal.loop-at-preserved
loop-at-preserved c = towards-next (sound c.args.self.now) _ _ _ c.loop-at.invariant (omega arith) (grind (arith, nat_tests))

pub returns-then-record-right : goal.returns-then-record-right
returns-then-record-right c =
    let here = towards_here (sound c.args.self.now) _ _ _ c.loop-at.invariant (omega arith) (grind (arith, nat_tests)) in
    grind (arith, nat_tests)
