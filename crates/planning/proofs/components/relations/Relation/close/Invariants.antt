use Rattle.std.proofs.Common.{◌≡◌, ℕ}
use Rattle.planning.specs.Bits.{goes}
use Rattle.planning.specs.Components.{through}
use Rattle.planning.proofs.components.relations.Relation.close.Given as goal

abbrev pub invariant-loop-k : goal.invariant-loop-k
invariant-loop-k l = (l.self.size ≡ l.initial.self.size) × ((u v : ℕ) → goes l.self.sets u v ≡ through (goes l.initial.self.sets) l.k u v)
