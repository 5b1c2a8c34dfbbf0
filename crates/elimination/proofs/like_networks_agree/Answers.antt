use Rattle.elimination.proofs.Least.{like_agree}
use Rattle.elimination.proofs.like_networks_agree.Goals as goal

pub returns : goal.returns
returns g c = let s = c.args.algebra.now in like_agree (g.A.Algebra.meaning s) (g.met.A.Algebra.kleene s)
