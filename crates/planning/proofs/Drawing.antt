-- The network of a step buffer, step by step. Assumes nothing.
use Rattle.std.proofs.Common.{◌≡◌, ℕ, ◌+◌, ◌<◌, true, false, ◌&&◌, ◌||◌, eqb, List, [], ◌∷◌, ◌++◌, map, length, get_or, take, ap, ◌∙◌, subst, arith}
use Rattle.std.proofs.lemmas.List.{get_or-map, map_more}
use Rattle.elimination.specs.Networks.{Arc, Joined}
use Rattle.expressions.specs.declared.Step.{Step}
use Rattle.planning.specs.Components.{joins, direct}
use Rattle.planning.specs.Drawn.{arc_of, drawn}

-- a retired step from format 0 to itself, which stands for none
abbrev pub none : Step
none = record { from = 0; to = 0; in_force = false }

-- the entries in force end at the formats
pub entry_ends : (n : ℕ) (steps : List Step) (i : ℕ) → Joined (drawn n steps) → i < length steps → (get_or steps i none).in_force ≡ true →
    ((get_or steps i none).from < n) × ((get_or steps i none).to < n)
entry_ends n steps i ends h force =
    let e = get_or-map arc_of steps i none (arc_of none) h in
    subst (λ a. (a.from < n) × (a.to < n)) e (ends i (ap (λ a. a.in_force) e ∙ force))

joins_push : (steps : List Arc) (a : Arc) (u v : ℕ) →
    joins (steps ++ a ∷ []) u v ≡ (joins steps u v || (a.in_force && (eqb a.from u && eqb a.to v)))
joins_push [] a u v = grind arith
joins_push (b ∷ steps) a u v = let rest = joins_push steps a u v in grind arith

-- one entry more
pub direct_more : (n : ℕ) (steps : List Step) (i u v : ℕ) → i < length steps →
    direct (drawn n (take (i + 1) steps)) u v ≡
    (direct (drawn n (take i steps)) u v || ((get_or steps i none).in_force && (eqb (get_or steps i none).from u && eqb (get_or steps i none).to v)))
direct_more n steps i u v h =
    let more = ap (λ arcs. joins arcs u v) (map_more arc_of steps i none h) in
    let push = joins_push (map arc_of (take i steps)) (arc_of (get_or steps i none)) u v in
    grind arith
