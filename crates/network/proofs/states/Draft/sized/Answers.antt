-- The plan is worked out in a cleared store, for the counts that contracts see. Assumes nothing.
use Rattle.std.proofs.Common.{ap, ◌∙◌, rules}
use Rattle.planning.specs.Drawn.{drawn}
use Rattle.network.specs.Plans.{planned}
use Rattle.network.specs.Seals.{worked_from, worked_out, works_with}
use Rattle.network.proofs.states.Draft.sized.Goals as goal

pub returns-clause-worked : goal.returns-clause-worked
returns-clause-worked c =
    let d = c.args.self.now in
    let records = c.args.records.now in
    let heads = c.args.heads.now in
    let plan = planned c.args.plan.now in
    let added = c.in_ok-added.added.now in
    search rules
    ∙ ap (λ store. worked_from store (drawn c.self.inside.formats added) plan) c.cleared-store.ensures.cleared
    ∙ ap (λ k. worked_out (drawn k.formats added) records heads plan) c.self.view_is
    ∙ ap (works_with d records heads plan) c.in_ok-added.ensures.value
