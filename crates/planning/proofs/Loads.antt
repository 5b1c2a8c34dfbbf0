-- The loads of the steps in force, one by one as the steps rise. Assumes nothing.
use Rattle.std.proofs.Common.{◌≡◌, ℕ, zero, suc, ◌<◌, true, false, cond, eqb, List, [], ◌∷◌, map, length, get_or, refl, ap, ◌∙◌, subst, inl, inr, arith}
use Rattle.std.proofs.lemmas.List.{length_push, length-map, get_or_append_left, get_or_push, get_or-map}
use Rattle.std.proofs.lemmas.Bool.{cases_lt, cond-true, cond-false}
use Rattle.elimination.specs.Moves.{Act, load, keep, below}
use Rattle.elimination.specs.Networks.{Arc, arc, Joined}
use Rattle.expressions.specs.declared.Step.{Step}
use Rattle.planning.specs.Drawn.{arc_of, drawn}
use Rattle.planning.proofs.Entries.{at-cond}

-- there are n numbers below n
pub length-below : (n : ℕ) → length (below n) ≡ n
length-below zero = refl
length-below (suc n) = length_push (below n) n ∙ omega (arith, length-below n)

-- each at its own place
pub below_at : (n j : ℕ) → j < n → get_or (below n) j 0 ≡ j
below_at zero j h = elim h [ ]
below_at (suc n) j h =
    let long = length-below n in
    elim (cases_lt j n) [
      | inl l ↦ get_or_append_left (below n) (n ∷ []) 0 j (omega arith) ∙ below_at n j l
      | inr l ↦ get_or_push (below n) n 0 j (omega arith) ∙ omega arith
    ]

-- past the last step of a buffer there is none in force
abbrev pub no_step : Step
no_step = record { from = 0; to = 0; in_force = false }

-- the numbers of the steps of a buffer
abbrev pub numbers : List Step → List ℕ
numbers steps = below (length (map arc_of steps))

pub length_numbers : (steps : List Step) → length (numbers steps) ≡ length steps
length_numbers steps = length-below (length (map arc_of steps)) ∙ length-map steps arc_of

-- the loads of those steps of a list that are in force
abbrev pub loads_of : List Step → (ℕ → ℕ) → List ℕ → List Act
loads_of steps component js =
    let at = arc (drawn 32 steps) in
    map (λ j. load j (at j).from (at j).to (eqb (component (at j).from) (component (at j).to))) (keep (λ j. (at j).in_force) js)

-- step j of a buffer
module _ (steps : List Step) (j : ℕ) (h : j < length steps) where
  -- as an arc
  arc-at : arc (drawn 32 steps) j ≡ arc_of (get_or steps j no_step)
  arc-at = get_or-map arc_of steps j no_step _ h

  -- in force, it joins two places
  pub joins : Joined (drawn 32 steps) → (get_or steps j no_step).in_force ≡ true → ((get_or steps j no_step).from < 32) × ((get_or steps j no_step).to < 32)
  joins joined force = subst (λ (a : Arc). (a.from < 32) × (a.to < 32)) arc-at (joined j (ap (λ (a : Arc). a.in_force) arc-at ∙ force))

  module _ (component : ℕ → ℕ) (js : List ℕ) where
    -- it is loaded before the others, if it is in force
    loads-at : loads_of steps component (get_or (numbers steps) j 0 ∷ js) ≡
        (let s = get_or steps j no_step in
        let rest = loads_of steps component js in
        cond s.in_force (load j s.from s.to (eqb (component s.from) (component s.to)) ∷ rest) rest)
    loads-at =
        let at = arc (drawn 32 steps) in
        let one : Arc → Act = λ a. load j a.from a.to (eqb (component a.from) (component a.to)) in
        let rest = loads_of steps component js in
        let kept = keep (λ i. (at i).in_force) js in
        ap (λ i. loads_of steps component (i ∷ js)) (below_at (length (map arc_of steps)) j (simp length-map h)) ∙
        at-cond (map (λ i. load i (at i).from (at i).to (eqb (component (at i).from) (component (at i).to)))) (at j).in_force (j ∷ kept) kept ∙
        ap (λ (a : Arc). cond a.in_force (one a ∷ rest) rest) arc-at

    pub loads-first : (get_or steps j no_step).in_force ≡ true → loads_of steps component (get_or (numbers steps) j 0 ∷ js) ≡
        (let s = get_or steps j no_step in load j s.from s.to (eqb (component s.from) (component s.to)) ∷ loads_of steps component js)
    loads-first force = loads-at ∙ cond-true _ _ _ force

    -- and passed over if it is retired
    pub loads_past : (get_or steps j no_step).in_force ≡ false → loads_of steps component (get_or (numbers steps) j 0 ∷ js) ≡ loads_of steps component js
    loads_past retired = loads-at ∙ cond-false _ _ _ retired
