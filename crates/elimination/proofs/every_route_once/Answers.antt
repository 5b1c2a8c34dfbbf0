use Rattle.elimination.proofs.Routes.{every_route_once_spec}
use Rattle.elimination.proofs.every_route_once.Goals as goal

pub returns : goal.returns
returns c = every_route_once_spec
