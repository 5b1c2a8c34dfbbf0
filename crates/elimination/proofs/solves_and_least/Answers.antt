use Rattle.elimination.proofs.Least.{solves-and-least}
use Rattle.elimination.proofs.solves_and_least.Goals as goal

pub returns : goal.returns
returns g c = let s = c.args.algebra.now in solves-and-least (g.A.Algebra.meaning s) (g.met.A.Algebra.kleene s)
