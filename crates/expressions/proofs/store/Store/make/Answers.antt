-- Whichever way is taken, what is returned is what making gives. Assumes nothing.
use Rattle.std.proofs.Common.{◌≡◌, ℕ, refl, arith, rules}
use Rattle.std.proofs.lemmas.Bool.Decides.{nat_tests}
use Rattle.refusals.specs.Refused.{Outcome, done}
use Rattle.expressions.specs.Contents.{Contents}
use Rattle.expressions.specs.Kinds.{number_of}
use Rattle.expressions.specs.Stores.{contents}
use Rattle.expressions.specs.Making.{made}
use Rattle.expressions.proofs.Stores.{sound, gives}
use Rattle.expressions.proofs.store.Store.make.Goals as goal

pub returns-in-Some : goal.returns-in-Some
returns-in-Some c =
    let store = contents c.args.self.now in
    let o : Outcome ℕ × Contents = (done c.in-Some.found, store) in
    let e : o ≡ made store (number_of c.args.kind) c.args.left c.args.right = grind (arith, nat_tests) in
    let g = gives (sound c.args.self.now) _ _ _ c.requires o e in
    record { made = e; answer = g.answer _ refl; kept = record { grown = g.grown; lent = search rules } }

pub returns-then-self-limit : goal.returns-then-self-limit
returns-then-self-limit c =
    let store = contents c.args.self.now in
    let o : Outcome ℕ × Contents = (done c.append.result, contents c.append.new.self) in
    let e : o ≡ made store (number_of c.args.kind) c.args.left c.args.right = grind (arith, nat_tests) in
    let g = gives (sound c.args.self.now) _ _ _ c.requires o e in
    record { made = e; answer = g.answer _ refl; kept = record { grown = g.grown; lent = search rules } }

pub returns-else-self-limit : goal.returns-else-self-limit
returns-else-self-limit c = record { made = grind (arith, nat_tests); answer = tt; kept = record { grown = search rules; lent = search rules } }
