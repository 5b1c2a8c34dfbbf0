-- Networks of picture formats, and the routes along their steps. Assumes nothing.
use Rattle.std.specs.Prelude.{◌≡◌, ℕ, ◌<◌, ◌≤◌, Bool, true, false, List, [], ◌∷◌, slice_index_or}

-- a step leads from one format to another or to itself, and is in force or retired
pub record Arc : Type 0 where
  pub from : ℕ
  pub to : ℕ
  pub in_force : Bool

-- formats are numbered from 0, and so are steps, as they were added
pub record Network : Type 0 where
  pub formats : ℕ
  pub steps : List Arc

-- past the last step there is none in force
abbrev nowhere : Arc
nowhere = record { from = 0; to = 0; in_force = false }

abbrev pub arc : Network → ℕ → Arc
arc N j = slice_index_or N.steps j nowhere

abbrev pub InForce : Network → ℕ → Type 0
InForce N j = (arc N j).in_force ≡ true

-- the steps in force join formats of the network
abbrev pub Joined : Network → Type 0
Joined N = (j : ℕ) → InForce N j → ((arc N j).from < N.formats) × ((arc N j).to < N.formats)

-- a route from s to t: each step of the list is in force and leaves the format where the one before it ended, the first
-- leaves s, and the last ends at t; the empty list leads from s to s alone
abbrev pub Route : Network → ℕ → ℕ → List ℕ → Type 0
Route N s t [] = s ≡ t
Route N s t (j ∷ js) = InForce N j × ((arc N j).from ≡ s) × Route N (arc N j).to t js

-- Two networks are like when they have as many formats, and their steps in force can be matched one to one, partners
-- leaving the same format and ending at the same one.
pub record Like (N M : Network) : Type 0 where
  pub formats : N.formats ≡ M.formats
  pub there : ℕ → ℕ
  pub back : ℕ → ℕ
  pub there-joins : (j : ℕ) → InForce N j → InForce M (there j) × ((arc M (there j)).from ≡ (arc N j).from) × ((arc M (there j)).to ≡ (arc N j).to)
  pub back-joins : (j : ℕ) → InForce M j → InForce N (back j) × ((arc N (back j)).from ≡ (arc M j).from) × ((arc N (back j)).to ≡ (arc M j).to)
  pub there_back : (j : ℕ) → InForce N j → back (there j) ≡ j
  pub back-there : (j : ℕ) → InForce M j → there (back j) ≡ j

-- partners have equal weights
abbrev pub EqualWeights : {V : Type 0} {N M : Network} → Like N M → (ℕ → V) → (ℕ → V) → Type 0
EqualWeights {N} match weight other = (j : ℕ) → InForce N j → weight j ≡ other (match.there j)

-- The formats in components that are counted from 0 in an order: each format has a component, and no step in force leads
-- from a later component to an earlier one.
pub record Ordered (N : Network) (count : ℕ) (component : ℕ → ℕ) : Type 0 where
  pub counted : (v : ℕ) → v < N.formats → component v < count
  pub forward : (j : ℕ) → InForce N j → component (arc N j).from ≤ component (arc N j).to
