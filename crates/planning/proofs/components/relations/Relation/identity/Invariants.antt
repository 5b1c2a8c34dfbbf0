use Rattle.std.proofs.Common.{◌≡◌, ℕ, ◌&&◌, eqb, ltb}
use Rattle.planning.specs.Bits.{goes}
use Rattle.planning.proofs.components.relations.Relation.identity.Given as goal

abbrev pub invariant-loop-u : goal.invariant-loop-u
invariant-loop-u l = (l.identity.size ≡ l.size) × ((w v : ℕ) → goes l.identity.sets w v ≡ (ltb w l.u && eqb w v))
