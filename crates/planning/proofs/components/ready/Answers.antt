use Rattle.std.proofs.Common.{◌≡◌, ℕ, ◌≤◌, false, ⊎_elim, arith}
use Rattle.std.proofs.lemmas.Bool.{cases_Bool}
use Rattle.planning.specs.Bits.{goes}
use Rattle.planning.proofs.components.ready.Goals as goal

pub returns-then-not-has : goal.returns-then-not-has
returns-then-not-has c =
    let into = c.args.into.now in
    let v = c.args.v in
    let none : (i : ℕ) → c.args.reach.now.size ≤ i → goes into.sets v i ≡ false = λ i h.
    ⊎_elim (λ yes. let low = (into.inside v i yes).1 in absurd (omega arith)) (λ no. no) (cases_Bool (goes into.sets v i)) in
    let only = c.within.ensures c.args.reach.now.size none in
    grind arith
