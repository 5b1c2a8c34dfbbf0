-- A store's first two records are nothing and stay already: without chains, and with no record past them, it is clear. Assumes nothing.
use Rattle.std.proofs.Common.{◌≡◌, sym, subst, arith}
use Rattle.expressions.specs.Contents.{Contents, Sound, cleared}
use Rattle.expressions.specs.Stores.{contents}
use Rattle.expressions.proofs.Stores.{sound, first_two, cleared-sound}
use Rattle.expressions.proofs.store.Store.clear.Goals as goal

pub invariant_of-self : goal.invariant_of-self
invariant_of-self c =
    let store = contents c.args.self.now in
    let whole = sound c.args.self.now in
    let e : ◌≡◌ {A = Contents} (record { records = store.records; heads = c.empty.new.heads; count = 2 }) (cleared store) = let two = first_two whole in cc in
    let s = subst Sound (sym e) (cleared-sound store (omega (arith, whole.begun, whole.room)) whole.chains) in
    record { begun = s.begun; room = s.room; chains = s.chains; formed = s.formed; chained = s.linked; headed = s.headed }

pub returns-clause-cleared : goal.returns-clause-cleared
returns-clause-cleared c = let two = first_two (sound c.args.self.now) in cc
