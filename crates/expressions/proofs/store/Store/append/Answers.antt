-- A record is pushed, and then becomes the head of its chain: after each write the store is sound. Assumes nothing.
use Rattle.std.proofs.Common.{arith}
use Rattle.expressions.proofs.Stores.{sound, head-linked, pushed-sound, headed-sound}
use Rattle.expressions.proofs.store.Store.append.Goals as goal

pub invariant_of-self : goal.invariant_of-self
invariant_of-self c =
    let whole = sound c.args.self.now in
    let chained = head-linked whole c.number.result c.args.left c.args.right c.chain-at.result (omega (arith, c.chain-at.ensures)) in
    let s = pushed-sound whole _ _ _ _ _ c.requires.fitting c.requires.room c.number.ensures chained in
    record { begun = s.begun; room = s.room; chains = s.chains; formed = s.formed; chained = s.linked; headed = s.headed }

pub invariant_of-self-2 : goal.invariant_of-self-2
invariant_of-self-2 c =
    let whole = sound c.args.self.now in
    let linked = head-linked whole c.number.result c.args.left c.args.right c.chain-at.result (omega (arith, c.chain-at.ensures)) in
    let pushed = pushed-sound whole _ _ _ _ _ c.requires.fitting c.requires.room c.number.ensures linked in
    let s = headed-sound pushed c.chain-at.result c.args.self.now.count (omega arith) in
    record { begun = s.begun; room = s.room; chains = s.chains; formed = s.formed; chained = s.linked; headed = s.headed }
