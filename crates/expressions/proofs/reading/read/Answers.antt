use Rattle.std.proofs.Common.{length, arith}
use Rattle.kleene.specs.Algebras.{everywhere}
use Rattle.expressions.specs.Layout.{blank, well_formed}
use Rattle.expressions.proofs.Eaches.{each_at}
use Rattle.expressions.proofs.Values.{readable, written-more, written_all}
use Rattle.expressions.proofs.reading.read.Goals as goal

pub value-requires : goal.value-requires
value-requires g c =
    let formed = each_at well_formed _ _ blank c.loop-i-test.true c.requires.formed in
    let named = each_at _ _ _ blank c.loop-i-test.true c.requires.named in
    readable _ (length c.loop-i.memo) c.loop-i.i _ formed named (omega arith)

pub loop-i-preserved : goal.loop-i-preserved
loop-i-preserved g c =
    let o = everywhere (g.A.Algebra.meaning c.args.algebra.now) in
    written-more o _ _ c.args.memo.now _ c.loop-i.i blank _ c.requires.formed c.loop-i-test.true (omega arith) c.value.ensures c.loop-i.invariant

pub returns : goal.returns
returns g c =
    let o = everywhere (g.A.Algebra.meaning c.args.algebra.now) in
    written_all o _ c.args.records.now c.args.memo.now _ c.loop-i.i (omega arith) c.loop-i.invariant
