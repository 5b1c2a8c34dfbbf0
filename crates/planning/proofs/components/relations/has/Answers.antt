use Rattle.planning.proofs.Bits.{has_tested}
use Rattle.planning.proofs.components.relations.has.Goals as goal

pub returns : goal.returns
returns c = has_tested c.args.set c.args.i
