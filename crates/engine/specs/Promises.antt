-- What holds in every history, of the traces and queries that answer: every route exactly once, least answers, and like answers from
-- like networks. Assumes nothing.
use Rattle.std.specs.Prelude.{◌≡◌, ℕ, ◌<◌, true, List, length, get_or, take, slice_index, slice_index_or}
use Rattle.kleene.specs.Algebras.{Meaning}
use Rattle.refusals.specs.Refused.{done}
use Rattle.elimination.specs.Networks.{Network, Route, Like, EqualWeights}
use Rattle.elimination.specs.Equations.{Least}
use Rattle.expressions.specs.declared.Record.{Record}
use Rattle.expressions.specs.declared.Step.{Step}
use Rattle.expressions.specs.Contents.{Contents}
use Rattle.expressions.specs.Layout.{in_force}
use Rattle.expressions.specs.Meanings.{ways}
use Rattle.network.specs.Plans.{Planned}
use Rattle.network.specs.States.{SealedCounts, sealed}
use Rattle.engine.specs.Histories.{World, History}
use Rattle.engine.specs.Querying.{weight_in, queries}

-- a sealed network with its buffers
abbrev pub sealed_world : SealedCounts → List Step → List Record → List ℕ → Planned → World
sealed_world s steps records heads plan = record { state = sealed s; steps = steps; records = records; heads = heads; plan = plan }

-- for each format t, expression row(t) spells every route from the source to t in exactly one way, and no other list of steps
abbrev pub EveryRouteOnce : Network → ℕ → Contents → List ℕ → Type 0
EveryRouteOnce N source c row =
    (t : ℕ) → t < N.formats → (js : List ℕ) →
    (Route N source t js → ways c (slice_index row t) js ≡ 1) × ((Route N source t js → ⊥) → ways c (slice_index row t) js ≡ 0)

-- whatever happened before: for every history that leads to this state and these buffers
abbrev pub RoutesInEveryHistory : World → ℕ → Contents → List ℕ → Type 0
RoutesInEveryHistory w source c row = (N : Network) → History w N → EveryRouteOnce N source c row

module _ {V : Type 0} (m : Meaning V) where
  -- the answers solve the network's equations for the source, and are at each format below every solution
  abbrev pub LeastInEveryHistory : World → ℕ → List V → List V → Type 0
  LeastInEveryHistory w source weights answers =
      (N : Network) → History w N → Least m N source (weight_in m weights) (λ t. get_or answers t m.on.zero)

  -- For every other history that leaves a like network, where a query from the same format, under weights that are equal in some matching,
  -- with any buffers of its own, answers: the same answer at each format.
  abbrev pub LikeInEveryHistory : World → ℕ → List V → List V → Type 0
  LikeInEveryHistory w source weights answers =
      (N M : Network) → History w N → (s : SealedCounts) (steps : List Step) (records : List Record) (heads : List ℕ) (plan : Planned) →
      History (sealed_world s steps records heads plan) M → (match : Like N M) →
      (row : List ℕ) (others memo before : List V) → EqualWeights match (weight_in m weights) (weight_in m others) →
      (let other = queries m s steps records heads row others memo before plan source in
      other.answer ≡ done tt → (t : ℕ) → t < N.formats → slice_index_or other.answers t m.on.zero ≡ slice_index_or answers t m.on.zero)

  -- all of it
  pub record InEveryHistory (w : World) (source : ℕ) (weights : List V) (c : Contents) (row : List ℕ) (answers : List V) : Type 0 where
    pub routes : RoutesInEveryHistory w source c row
    pub least : LeastInEveryHistory w source weights answers
    pub like : LikeInEveryHistory w source weights answers

  -- the weights of retired steps play no part: as many others, equal at the steps in force, give the same answer, state and buffers
  abbrev pub RetiredUnseen : SealedCounts → List Step → List Record → List ℕ → List ℕ → List V → List V → List V → Planned → ℕ → Type 0
  RetiredUnseen s steps records heads row weights memo answers plan source =
      (others : List V) → length others ≡ length weights → ((j : ℕ) → in_force (take s.steps steps) j ≡ true → weight_in m others j ≡ weight_in m weights j) →
      queries m s steps records heads row others memo answers plan source ≡ queries m s steps records heads row weights memo answers plan source
