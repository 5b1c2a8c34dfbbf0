use Rattle.std.proofs.Common.{◌≡◌}
use Rattle.bits.specs.Bits.{places}
use Rattle.planning.proofs.Numbering.{Numbering}
use Rattle.planning.proofs.components.Components.push.Given as goal

abbrev pub invariant-loop-v : goal.invariant-loop-v
invariant-loop-v l = record {
  next : (goal.iterator-loop-v).can_next l.v-iterator;
  finite : (goal.iterator-loop-v).is_finite l.v-iterator;
  count : l.self.count ≡ l.initial.self.count;
  numbering : Numbering (places 64 l.initial.v-iterator.0) (places 64 l.v-iterator.0) l.number l.initial.self.of l.self.of;
}
