use Rattle.std.proofs.Common.{◌≡◌, ℕ, ◌&&◌, ◌||◌, eqb, ltb}
use Rattle.planning.specs.Bits.{goes}
use Rattle.planning.proofs.components.relations.Relation.converse.Given as goal

-- the rows below u are turned, and of row u the part below v
abbrev pub invariant-loop-u : goal.invariant-loop-u
invariant-loop-u l = (l.converse.size ≡ l.self.size) × ((y x : ℕ) → goes l.converse.sets y x ≡ (ltb x l.u && goes l.self.sets x y))

abbrev pub invariant-loop-v : goal.invariant-loop-v
invariant-loop-v l =
    (l.converse.size ≡ l.self.size)
    × ((y x : ℕ) → goes l.converse.sets y x ≡ (goes l.initial.converse.sets y x || (eqb l.u x && (ltb y l.v && goes l.self.sets x y))))
