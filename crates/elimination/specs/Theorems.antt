-- What elimination answers. Assumes nothing.
use Rattle.std.specs.Prelude.{◌≡◌, ℕ, ◌*◌, ◌<◌, ◌≤◌, List, [], ◌∷◌, ◌++◌, fold, sum_by}
use Rattle.kleene.specs.Algebras.{Operations, Meaning}
use Rattle.elimination.specs.Networks.{Network, Joined, Ordered, InForce, Route, Like, EqualWeights}
use Rattle.elimination.specs.Equations.{Weighed, Least}
use Rattle.elimination.specs.Moves.{Act, Move, act, move, no_table, first_row, sealed, traced, sealing, tracing}
use Rattle.elimination.specs.Series.{Series, counting, cuts, letter}

-- for every network, every order of its components, every source and weights that are members at the steps in force, the
-- row that the moves give is the least solution of the network's equations
abbrev pub SolvesAndLeast : {V : Type 0} → Meaning V → Type 0
SolvesAndLeast {V} m =
    (N : Network) (count : ℕ) (component : ℕ → ℕ) (s : ℕ) (weight : ℕ → V) →
    Joined N → Ordered N count component → s < N.formats → Weighed m N weight →
    Least m N s weight (traced m.on weight N count component s)

-- like networks in any order of their components, under equal weights, give the same row
abbrev pub LikeAgree : {V : Type 0} → Meaning V → Type 0
LikeAgree {V} m =
    (N M : Network) (count counts : ℕ) (component components : ℕ → ℕ) (s : ℕ) (weight other : ℕ → V) →
    Joined N → Ordered N count component → Joined M → Ordered M counts components → s < N.formats →
    Weighed m N weight → (match : Like N M) → EqualWeights match weight other →
    (t : ℕ) → t < N.formats → traced m.on weight N count component s t ≡ traced m.on other M counts components s t

-- the run looks at no weight but those of the steps in force
abbrev pub OnlyInForce : {S : Type 0} → Operations S → Type 0
OnlyInForce {S} o =
    (N : Network) (count : ℕ) (component : ℕ → ℕ) (s : ℕ) (weight other : ℕ → S) →
    ((j : ℕ) → InForce N j → weight j ≡ other j) → traced o weight N count component s ≡ traced o other N count component s

-- a product adds, over each cut of the list in two, the product of the counts of the parts; a star has 1 for the empty list, and
-- for another adds, over each cut with a first part that is not empty, the count of the first part times its own of the rest
pub record CountsInWords : Type 0 where
  pub product : (f g : Series) (js : List ℕ) → counting.product f g js ≡ sum_by (λ cut. f cut.0 * g cut.1) (cuts js)
  pub star-empty : (f : Series) → counting.star f [] ≡ 1
  pub star_more : (f : Series) (j : ℕ) (js : List ℕ) → counting.star f (j ∷ js) ≡ sum_by (λ cut. f (j ∷ cut.0) * counting.star f cut.1) (cuts js)

-- the row at t counts 1 for each list that is a route from the source to t, and 0 for every other list
abbrev pub EveryRouteOnce : Type 0
EveryRouteOnce =
    (N : Network) (count : ℕ) (component : ℕ → ℕ) (s : ℕ) →
    Joined N → Ordered N count component → s < N.formats →
    (t : ℕ) → t < N.formats → (js : List ℕ) →
    (Route N s t js → traced counting letter N count component s t js ≡ 1)
    × ((Route N s t js → ⊥) → traced counting letter N count component s t js ≡ 0)

-- every value of the table and of the row along the run counts each list at most once
abbrev pub AtMostOnce : Type 0
AtMostOnce =
    (N : Network) (count : ℕ) (component : ℕ → ℕ) (s : ℕ) →
    Joined N → Ordered N count component → s < N.formats →
    ((done rest : List Act) → done ++ rest ≡ sealing N count component → (u w : ℕ) (js : List ℕ) →
    fold (act counting letter) (no_table counting letter) done u w js ≤ 1)
    × ((done rest : List Move) → done ++ rest ≡ tracing N count component → (t : ℕ) (js : List ℕ) →
    fold (move counting letter (sealed counting letter N count component)) (first_row counting letter s) done t js ≤ 1)
