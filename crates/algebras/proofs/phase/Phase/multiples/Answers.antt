use Rattle.std.proofs.Common.{ap, ◌∙◌, arith}
use lib.Bits.{bit_and}
use Rattle.algebras.proofs.Stars.{filling_first, filling_more, filling_all}
use Rattle.algebras.proofs.phase.Phase.multiples.Goals as goal

pub loop-span-init : goal.loop-span-init
loop-span-init c = filling_first c.args.g c.requires

pub loop-span-preserved : goal.loop-span-preserved
loop-span-preserved c = filling_more c.args.g c.loop-span.out c.loop-span.span (omega arith) c.loop-span.invariant

pub loop-span-smaller : goal.loop-span-smaller
loop-span-smaller c = let low = c.loop-span.invariant.low in omega arith

pub returns : goal.returns
returns c =
    ap (bit_and c.loop-span.out) c.mask.ensures
    ∙ filling_all c.args.g c.args.self.now.modulus c.loop-span.out c.loop-span.span (omega arith) (omega arith) c.loop-span.invariant
