use Rattle.expressions.proofs.Readings.{readings_mean_spec}
use Rattle.expressions.proofs.laws.readings_mean.Goals as goal

pub returns : goal.returns
returns g c = let s = c.args.algebra.now in readings_mean_spec (g.A.Algebra.meaning s) (g.met.A.Algebra.kleene s)
