use Rattle.std.proofs.Common.{◌-◌, ◌<◌, length, ap, rules, arith}
use lib.Bits.{bit_and}
use Rattle.bits.specs.Bits.{places}
use Rattle.bits.proofs.Places.{places-zero, places-lowest}
use Rattle.bits.proofs.OnesIterator.next.Goals as goal

pub returns-then-self-eq0-clause-steps : goal.returns-then-self-eq0-clause-steps
returns-then-self-eq0-clause-steps c = let none = places-zero 64 in (cc, cc)

pub returns-clause-steps : goal.returns-clause-steps
returns-clause-steps c = places-lowest c.args.self.now.0 (omega arith) (omega arith)

pub returns-clause-goes : goal.returns-clause-goes
returns-clause-goes c =
    let x = c.args.self.now.0 in
    let next = places-lowest x (omega arith) (omega arith) in
    let fewer : length (places 64 (bit_and x (x - 1))) < length (places 64 x) = omega (arith, ap length next) in
    search rules
