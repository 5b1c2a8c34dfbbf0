use Rattle.expressions.proofs.Ways.{ways_mean_spec}
use Rattle.expressions.proofs.laws.ways_mean.Goals as goal

pub returns : goal.returns
returns c = ways_mean_spec
