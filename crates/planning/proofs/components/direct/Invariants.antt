use Rattle.std.proofs.Common.{◌≡◌, ℕ, ◌<◌, take}
use Rattle.planning.specs.Bits.{goes}
use Rattle.planning.specs.Components.{direct}
use Rattle.planning.specs.Drawn.{drawn}
use Rattle.planning.proofs.components.direct.Given as goal

-- with the steps so far
abbrev pub invariant-loop-s : goal.invariant-loop-s
invariant-loop-s l =
    (l.reach.size ≡ l.formats) × ((u v : ℕ) → u < l.formats → goes l.reach.sets u v ≡ direct (drawn l.formats (take l.s-index l.steps)) u v)
