-- What the loop keeps: the formats of the components from d on are what is left of the order. Assumes nothing.
use Rattle.std.proofs.Common.{get_or}
use Rattle.planning.proofs.Orders.{Standing}
use Rattle.network.proofs.plan.Plan.members.Given as goal

abbrev pub invariant-loop-d : goal.invariant-loop-d
invariant-loop-d l = Standing l.self.formats l.self.components (λ v. get_or l.self.component v 0) l.order l.d l.start
