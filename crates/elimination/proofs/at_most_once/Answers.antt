use Rattle.elimination.proofs.Once.{at_most_once_spec}
use Rattle.elimination.proofs.Routes.{every_route_once_spec}
use Rattle.elimination.proofs.at_most_once.Goals as goal

pub returns : goal.returns
returns c = at_most_once_spec every_route_once_spec
