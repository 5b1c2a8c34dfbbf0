use Rattle.std.proofs.Common.{arith}
use Rattle.algebras.proofs.Turns.{turned-is}
use Rattle.algebras.proofs.phase.Phase.turned.Goals as goal

pub returns : goal.returns
returns c = let turned = turned-is c.args.self.now.modulus c.args.b c.args.i (omega arith) (omega arith) (omega arith) in cc
