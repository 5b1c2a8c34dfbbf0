use Rattle.std.proofs.Common.{◌≡◌, true, false, rules, tests}
use Rattle.std.proofs.lemmas.Iterator.{first_from_Range}
use Rattle.planning.specs.Bits.{unentered}
use Rattle.planning.proofs.Lowest.{lowest_found}
use Rattle.planning.proofs.components.next.Goals as goal

pub returns : goal.returns
returns c =
    let n = c.args.reach.now.size in
    let test = unentered n c.args.reach.now.sets c.args.into.now.sets c.args.listed in
    lowest_found n test c.find.result
    (first_from_Range _ _ _ _ (λ i. test i ≡ true) (λ i. test i ≡ false) c.find.ensures.ran (λ x q k. search (rules, tests)) (λ x q k. (search rules, search (rules, tests))))
