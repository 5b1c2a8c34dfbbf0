-- The components of a network, and the order in which they are listed. Assumes nothing.
use Rattle.std.specs.Prelude.{◌≡◌, ℕ, zero, suc, ◌<◌, ◌≤◌, Bool, false, cond, not, ◌&&◌, ◌||◌, List, [], ◌∷◌, ◌==◌}
use Rattle.elimination.specs.Networks.{Arc, Network, arc, InForce, Route}
pub use Rattle.bits.specs.Bits.{every}

-- some route leads from u to v
abbrev pub Leads : Network → ℕ → ℕ → Type 0
Leads N u v = (js : List ℕ) × Route N u v js

-- A component number for each format, counted from 0 as the components are listed, is right when
pub record Listing (N : Network) (count : ℕ) (component : ℕ → ℕ) : Type 0 where
  -- every format has one, and every number is that of some format
  pub counted : (v : ℕ) → v < N.formats → component v < count
  pub used : (c : ℕ) → c < count → (v : ℕ) × (v < N.formats) × (component v ≡ c)
  -- formats have the same one exactly when routes lead from each to the other
  pub together : (u v : ℕ) → u < N.formats → v < N.formats → component u ≡ component v → Leads N u v × Leads N v u
  pub alike : (u v : ℕ) → u < N.formats → v < N.formats → Leads N u v → Leads N v u → component u ≡ component v
  -- no step in force leads from a later component to an earlier one
  pub forward : (j : ℕ) → InForce N j → component (arc N j).from ≤ component (arc N j).to
  -- the next one listed has the lowest format among those that no step in force enters from another that is not yet listed:
  -- where v is a format of a component not listed before c, which no step enters from another such component, component c has
  -- a format no higher than v
  pub first :
      (c v : ℕ) → c < count → v < N.formats → c ≤ component v →
      ((j : ℕ) → InForce N j → component (arc N j).to ≡ component v → c ≤ component (arc N j).from → component (arc N j).from ≡ component v) →
      (u : ℕ) × (u ≤ v) × (component u ≡ c)

-- The same by computing.

-- the lowest number below n that passes the test, or n where there is none
abbrev pub lowest : ℕ → (ℕ → Bool) → ℕ
lowest zero test = 0
lowest (suc n) test = cond (test 0) 0 (suc (lowest n (λ i. test (suc i))))

-- some step in force leads from u to v
abbrev pub joins : List Arc → ℕ → ℕ → Bool
joins [] u v = false
joins (a ∷ rest) u v = (a.in_force && (a.from == u && a.to == v)) || joins rest u v

-- v is u, or some step in force leads from u to v
abbrev pub direct : Network → ℕ → ℕ → Bool
direct N u v = u == v || joins N.steps u v

-- u goes to v, or by ways through numbers below k
abbrev pub through : (ℕ → ℕ → Bool) → ℕ → ℕ → ℕ → Bool
through goes zero u v = goes u v
through goes (suc k) u v = through goes k u v || (through goes k u k && through goes k k v)

-- a route leads from u to v
abbrev pub leads : Network → ℕ → ℕ → Bool
leads N = through (direct N) N.formats

-- u and v are in one component
abbrev pub shares : Network → ℕ → ℕ → Bool
shares N u v = leads N u v && leads N v u

-- v is not among the listed, and what leads to it is listed or in its component
abbrev pub ready : Network → (ℕ → Bool) → ℕ → Bool
ready N listed v = not (listed v) && every N.formats (λ u. not (leads N u v) || (leads N v u || listed u))

-- u is in one of the first c components listed: the next is that of the lowest format that is ready
abbrev pub listed : Network → ℕ → ℕ → Bool
listed N zero u = false
listed N (suc c) u = listed N c u || shares N (lowest N.formats (ready N (listed N c))) u

-- the first c such that v is in one of the components up to c
abbrev pub component_of : Network → ℕ → ℕ
component_of N v = lowest N.formats (λ c. listed N (suc c) v)

-- the first c such that the components before c have every format
abbrev pub component_count : Network → ℕ
component_count N = lowest N.formats (λ c. every N.formats (listed N c))
