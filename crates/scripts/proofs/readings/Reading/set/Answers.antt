use Rattle.std.proofs.Common.{ap, ◌∙◌, get_or}
use Rattle.std.proofs.lemmas.List.{get_or-set_other}
use Rattle.kleene.specs.Algebras.{everywhere}
use Rattle.scripts.proofs.Carried.{get_or-carried}
use Rattle.scripts.proofs.readings.Reading.set.Goals as goal

pub returns-clause-others : goal.returns-clause-others
returns-clause-others g c = λ j apart.
    let one = (everywhere (g.A.Algebra.meaning c.args.self.now.algebra)).one in
    get_or-set_other _ _ j _ one apart
    ∙ (ap (λ l. get_or l j one) c.in_ok-list_up_to.ensures.carried ∙ get_or-carried _ _ j one)
