-- The network that a step buffer holds. Assumes nothing.
use Rattle.std.specs.Prelude.{ℕ, List, map}
use Rattle.elimination.specs.Networks.{Arc, Network}
use Rattle.expressions.specs.declared.Step.{Step}

abbrev pub arc_of : Step → Arc
arc_of s = record { from = s.from; to = s.to; in_force = s.in_force }

-- so many formats, and a step for each entry
abbrev pub drawn : ℕ → List Step → Network
drawn n steps = record { formats = n; steps = map arc_of steps }
