-- What the loop keeps: the formats of the component so far are listed after what was listed before. Assumes nothing.
use Rattle.std.proofs.Common.{◌≡◌, ◌++◌, get_or}
use Rattle.planning.specs.Orders.{members_of}
use Rattle.planning.proofs.listing.gather.Given as goal

abbrev pub invariant-loop-v : goal.invariant-loop-v
invariant-loop-v l = l.listed.items ≡ l.initial.listed.items ++ members_of l.v (λ v. get_or l.of v 0) l.c
