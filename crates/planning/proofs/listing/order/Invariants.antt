-- What the loop keeps: the formats of the components so far are listed. Assumes nothing.
use Rattle.std.proofs.Common.{◌≡◌, get_or}
use Rattle.planning.specs.Orders.{in_order}
use Rattle.planning.proofs.listing.order.Given as goal

abbrev pub invariant-loop-c : goal.invariant-loop-c
invariant-loop-c l = l.listed.items ≡ in_order l.formats l.c (λ v. get_or l.components.of v 0)
