-- A network with a loop, and what a client of the engine is promised of it: three formats, step 0 from 0 to 1, step 1 from 1 to 2,
-- step 2 from 2 back to 1, and step 3 from 0 to 2, which is retired. Assumes nothing.
use Rattle.std.specs.Prelude.{◌≡◌, true, false, List, [], ◌∷◌, length}
use Rattle.refusals.specs.Refused.{Outcome}
use Rattle.kleene.specs.Algebras.{Meaning, Member, Below}
use Rattle.elimination.specs.Networks.{Network}
use Rattle.expressions.specs.declared.Step.{Step}
use Rattle.network.specs.States.{SealedCounts}
use Rattle.engine.specs.Checks.{before, long_too, weighed}
use Rattle.engine.specs.Querying.{weight_in, member_in}
use Rattle.worked.specs.Drawing.{Drawing, onward, drawing, retiring}

-- the network
abbrev pub around : Network
around = record {
  formats = 3;
  steps =
      record { from = 0; to = 1; in_force = true }
      ∷ record { from = 1; to = 2; in_force = true }
      ∷ record { from = 2; to = 1; in_force = true }
      ∷ record { from = 0; to = 2; in_force = false }
      ∷ [];
}

-- the calls by which it is drawn
abbrev pub drawing_around : List Step → Drawing
drawing_around steps = onward (drawing 3 ((0, 1) ∷ (1, 2) ∷ (2, 1) ∷ (0, 2) ∷ []) steps) (retiring 3)

-- what they leave in a step buffer of four places
abbrev pub steps_around : List Step
steps_around =
    record { from = 0; to = 1; in_force = true }
    ∷ record { from = 1; to = 2; in_force = true }
    ∷ record { from = 2; to = 1; in_force = true }
    ∷ record { from = 0; to = 2; in_force = false }
    ∷ []

-- the network when it is sealed: format 0 is one component, and formats 1 and 2 are another
abbrev pub counts_around : SealedCounts
counts_around = record { formats = 3; steps = 4; components = 2; records = 7 }

module _ {V : Type 0} (m : Meaning V) where
  -- the equations of the network from format 0, in any algebra
  pub record Around (w0 w1 w2 x0 x1 x2 : V) : Type 0 where
    pub member_0 : Member m x0
    pub member_1 : Member m x1
    pub member_2 : Member m x2
    pub at_0 : x0 ≡ m.on.one
    pub at_1 : x1 ≡ m.on.sum (m.on.product x0 w0) (m.on.product x2 w2)
    pub at_2 : x2 ≡ m.on.product x1 w1

  -- with the weights and the answers by their numbers: a solution of them that is below every other
  pub record LeastAround (w x : List V) : Type 0 where
    pub solves : Around (weight_in m w 0) (weight_in m w 1) (weight_in m w 2) (weight_in m x 0) (weight_in m x 1) (weight_in m x 2)
    pub below :
        (y0 y1 y2 : V) → Around (weight_in m w 0) (weight_in m w 1) (weight_in m w 2) y0 y1 y2 →
        Below m (weight_in m x 0) y0 × Below m (weight_in m x 1) y1 × Below m (weight_in m x 2) y2

  -- Refused are fewer than four weights, 32 places in the memo and three answers, and a weight that is no member and not that of the
  -- retired step, the lowest such first.
  abbrev pub asked_around : List V → List V → List V → Outcome (Unit {0})
  asked_around weights memo answers =
      before (long_too counts_around 32 (length weights) (length memo) (length answers)) (weighed steps_around (member_in m weights))
