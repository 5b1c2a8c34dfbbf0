-- Elimination as two lists of moves, which depend on the components and the steps in force and on no value, and how the
-- moves are run over any operations. Assumes nothing.
use Rattle.std.specs.Prelude.{ℕ, zero, suc, Bool, cond, not, ◌&&◌, List, [], ◌∷◌, ◌++◌, map, length, fold, ◌==◌, nat_eq}
use Rattle.kleene.specs.Algebras.{Operations}
use Rattle.elimination.specs.Networks.{Network, arc}

-- A move changes one entry of a row R, which may be the row of a source or a row of the table P itself.
pub data Move : Type 0 where
  -- R(v) becomes R(v)·P(v, v)
  scale : (v : ℕ) → Move
  -- R(w) becomes R(w) + R(v)·P(v, w)
  pass : (v w : ℕ) → Move
  -- R(to) becomes R(to) + R(from)·step j
  cross : (j from to : ℕ) → Move

-- An act changes one entry of the table P.
pub data Act : Type 0 where
  -- step j is made; where its ends share a component, P(from, to) becomes P(from, to) + step j
  load : (j from to : ℕ) (shared : Bool) → Act
  -- P(v, v) becomes P(v, v)*
  close : (v : ℕ) → Act
  -- a move of row u of the table
  at : (u : ℕ) → Move → Act

-- the numbers below n that pass the test, rising
abbrev pub keep : (ℕ → Bool) → List ℕ → List ℕ
keep test [] = []
keep test (v ∷ vs) = cond (test v) (v ∷ keep test vs) (keep test vs)

abbrev pub below : ℕ → List ℕ
below zero = []
below (suc n) = below n ++ n ∷ []

-- the moves of each number of a list, in its order
abbrev pub for_each : {X : Type 0} → (ℕ → List X) → List ℕ → List X
for_each f [] = []
for_each f (v ∷ vs) = f v ++ for_each f vs

module _ (N : Network) (component : ℕ → ℕ) where
  -- the formats of component c, rising
  abbrev pub formats_of : ℕ → List ℕ
  formats_of c = keep (λ v. nat_eq (component v) c) (below N.formats)

  -- the steps in force, rising
  abbrev pub steps_in_force : List ℕ
  steps_in_force = keep (λ j. (arc N j).in_force) (below (length N.steps))

  abbrev pub loads : List Act
  loads = map (λ j. load j (arc N j).from (arc N j).to (component (arc N j).from == component (arc N j).to)) steps_in_force

  -- the steps in force that leave component c for another, rising
  abbrev pub leaving : ℕ → List Move
  leaving c =
      map (λ j. cross j (arc N j).from (arc N j).to)
      (keep (λ j. (component (arc N j).from == c) && not (component (arc N j).to == c)) steps_in_force)

-- the format v is eliminated from each later row u, rising
abbrev pub eliminate : List ℕ → List Act
eliminate [] = []
eliminate (v ∷ later) = close v ∷ for_each (λ u. at u (scale v) ∷ map (λ w. at u (pass v w)) later) later ++ eliminate later

-- the first sweep of a row over the formats of a component, rising
abbrev pub sweep : List ℕ → List Move
sweep [] = []
sweep (v ∷ later) = scale v ∷ map (pass v) later ++ sweep later

-- the second sweep: for each u falling, to each earlier w rising; the first list has the formats before those of the second
abbrev pub sweep_back : List ℕ → List ℕ → List Move
sweep_back earlier [] = []
sweep_back earlier (u ∷ us) = sweep_back (earlier ++ u ∷ []) us ++ map (pass u) earlier

module _ (N : Network) (count : ℕ) (component : ℕ → ℕ) where
  -- the acts by which a network is sealed: its steps are loaded, then its components eliminated in turn
  unfoldable pub sealing : List Act
  sealing = loads N component ++ for_each (λ c. eliminate (formats_of N component c)) (below count)

  -- the moves by which a row is traced, for each component in turn
  unfoldable pub tracing : List Move
  tracing =
      for_each
      (λ c. let vs = formats_of N component c in sweep vs ++ sweep_back [] vs ++ leaving N component c)
      (below count)

-- a function changed at one place
abbrev pub put : {X : Type 0} → ℕ → X → (ℕ → X) → ℕ → X
put v a f u = cond (u == v) a (f u)

-- The run of moves over any operations, given a value for each step. A row gives a value for each format, and a table a
-- row for each format.
module _ {S : Type 0} (o : Operations S) (step : ℕ → S) where
  abbrev pub move : (ℕ → ℕ → S) → (ℕ → S) → Move → ℕ → S
  move P R (scale v) = put v (o.product (R v) (P v v)) R
  move P R (pass v w) = put w (o.sum (R w) (o.product (R v) (P v w))) R
  move P R (cross j from to) = put to (o.sum (R to) (o.product (R from) (step j))) R

  abbrev pub act : (ℕ → ℕ → S) → Act → ℕ → ℕ → S
  act P (load j from to shared) = put from (put to (cond shared (o.sum (P from to) (step j)) (P from to)) (P from)) P
  act P (close v) = put v (put v (o.star (P v v)) (P v)) P
  act P (at u m) = put u (move P (P u) m) P

  -- every entry nothing
  abbrev pub no_table : ℕ → ℕ → S
  no_table u w = o.zero

  -- the table of a sealed network
  unfoldable pub sealed : Network → ℕ → (ℕ → ℕ) → ℕ → ℕ → S
  sealed N count component = fold act no_table (sealing N count component)

  -- stay at the source, nothing elsewhere
  abbrev pub first_row : ℕ → ℕ → S
  first_row s = put s o.one (λ _. o.zero)

  -- the row of a source
  unfoldable pub traced : Network → ℕ → (ℕ → ℕ) → ℕ → ℕ → S
  traced N count component s = fold (move (sealed N count component)) (first_row s) (tracing N count component)
