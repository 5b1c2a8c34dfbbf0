use Rattle.std.proofs.Common.{arith}
use Rattle.planning.proofs.Bits.{adds_nothing}
use Rattle.planning.proofs.components.relations.within.Goals as goal

pub returns : goal.returns
returns c n none = adds_nothing 32 n c.args.other c.args.set (omega arith) (omega arith) none
