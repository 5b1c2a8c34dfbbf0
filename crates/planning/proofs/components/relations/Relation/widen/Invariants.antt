use Rattle.std.proofs.Common.{◌≡◌, ℕ, ◌&&◌, ◌||◌, ltb, length}
use Rattle.planning.specs.Bits.{has, goes}
use Rattle.planning.proofs.components.relations.Relation.widen.Given as goal

-- the sets before this one are done
abbrev pub invariant-loop-set : goal.invariant-loop-set
invariant-loop-set l =
    (length l.set-items ≡ length l.initial.set-items)
    × ((w v : ℕ) → goes l.set-items w v ≡ (goes l.initial.set-items w v || (ltb w l.set-index && (goes l.initial.set-items w l.k && has l.onward v))))
