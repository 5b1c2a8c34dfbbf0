-- The order that the plan lists. Assumes nothing.
use Rattle.std.proofs.Common.{get_or, refl}
use Rattle.planning.specs.Orders.{in_order}
use Rattle.network.specs.Plans.{planned}
use Rattle.network.proofs.Plannings.{padded-at}
use Rattle.network.proofs.Turns.{in_turn}
use Rattle.network.proofs.plan.Plan.order.Goals as goal

pub returns : goal.returns
returns c =
    let p = c.args.self.now in
    record { value = refl; turns = in_turn (planned p) p.counted (λ k _. padded-at p.order (in_order p.formats p.components (λ v. get_or p.component v 0)) p.listed k) }
