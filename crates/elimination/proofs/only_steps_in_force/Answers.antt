use Rattle.elimination.proofs.Runs.{only_in_force}
use Rattle.elimination.proofs.only_steps_in_force.Goals as goal

pub returns : goal.returns
returns g c = only_in_force (g.A.Algebra.meaning c.args.algebra.now).on
