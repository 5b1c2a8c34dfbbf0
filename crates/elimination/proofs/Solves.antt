-- Elimination solves the equations of a network. Assumes nothing.
use Rattle.std.proofs.Common.{◌≡◌, ℕ, zero, suc, ◌<◌, ◌≤◌, Bool, true, false, not, ◌&&◌, eqb, ltb, List, [], ◌∷◌, ◌++◌, map, length, fold, sym, refl, ap, ◌∙◌, subst, ap₂, ⊎_elim, arith}
use Rattle.std.proofs.lemmas.Bool.{cases_eq, cond_both}
use Rattle.std.proofs.lemmas.Bool.Decides.{nat_tests}
use Rattle.kleene.specs.Algebras.{Operations}
use Rattle.std.proofs.lemmas.List.Sums.{fold-append}
use Rattle.elimination.specs.Networks.{Network, arc, InForce, Joined, Ordered}
use Rattle.elimination.specs.Equations.{when, start, inflow}
use Rattle.elimination.specs.Moves.{Act, Move, load, cross, move, act, for_each, keep, below, formats_of, steps_in_force, loads, leaving, eliminate, sweep, sweep_back, sealing, tracing, no_table, sealed, first_row, traced}
use Rattle.elimination.proofs.Semirings.{StarSemiring}
use Rattle.elimination.proofs.Lists.{has, Distinct, has-keep, has-formats, distinct_formats, has-steps, for_push}
use Rattle.elimination.proofs.Sums.{total, total_same, total_zero, total_sum, total-raised, total_keep, total_below, sum-zero}
use Rattle.elimination.proofs.Components.{Swept, swept, kept}

module _ (N : Network) (component : ℕ → ℕ) where
  -- the ends of step j
  abbrev from : ℕ → ℕ
  from j = (arc N j).from

  abbrev to : ℕ → ℕ
  to j = (arc N j).to

  -- the steps in force, and the formats of component c
  abbrev steps : List ℕ
  steps = steps_in_force N component

  abbrev formats : ℕ → List ℕ
  formats c = formats_of N component c

  -- step j as it is loaded, and as it is crossed
  abbrev loading : ℕ → Act
  loading j = load j (from j) (to j) (eqb (component (from j)) (component (to j)))

  abbrev crossing : ℕ → Move
  crossing j = cross j (from j) (to j)

  -- the moves of component c
  abbrev tracing_of : ℕ → List Move
  tracing_of c = sweep (formats c) ++ sweep_back [] (formats c) ++ leaving N component c

  module _ {S : Type 0} (o : Operations S) (step : ℕ → S) where
    open o use {sum as ◌⊕◌, product as ◌⊙◌}

    infixl 60 ◌⊕◌
    infixl 70 ◌⊙◌
    -- what comes by step j
    abbrev came : (ℕ → S) → ℕ → S
    came x j = x (from j) ⊙ step j

    -- the table once the steps are loaded and the components before k eliminated
    abbrev sealed_to : ℕ → ℕ → ℕ → S
    sealed_to k = fold (act o step) (fold (act o step) (no_table o step) (loads N component)) (for_each (λ c. eliminate (formats c)) (below k))

    sealed_more : (k u w : ℕ) → sealed_to (suc k) u w ≡ fold (act o step) (sealed_to k) (eliminate (formats k)) u w
    sealed_more k u w =
        ap (λ P. P u w) (for_push (act o step) (λ c. eliminate (formats c)) (fold (act o step) (no_table o step) (loads N component)) (below k) k)

    -- a row is as loaded until its component is eliminated, and after that it stays
    row_stays : (k u w : ℕ) → (component u ≡ k → ⊥) → sealed_to (suc k) u w ≡ sealed_to k u w
    row_stays k u w other =
        let h = has-formats N component k u in
        sealed_more k u w ∙ kept o step (formats k) (sealed_to k) (distinct_formats N component k) u w (grind (arith, nat_tests))

    row_loaded : (k u w : ℕ) → k ≤ component u → sealed_to k u w ≡ sealed_to 0 u w
    row_loaded zero u w h = refl
    row_loaded (suc k) u w h = row_stays k u w (λ e. omega arith) ∙ row_loaded k u w (omega arith)

    row-sealed : (c k u w : ℕ) → component u ≡ c → c < k → sealed_to k u w ≡ fold (act o step) (sealed_to c) (eliminate (formats c)) u w
    row-sealed c zero u w e h = absurd (omega arith)
    row-sealed c (suc k) u w e h =
        ⊎_elim
        (λ same. sealed_more k u w ∙ ap (λ i. fold (act o step) (sealed_to i) (eliminate (formats i)) u w) (sym same))
        (λ other. row_stays k u w (λ i. omega arith) ∙ row-sealed c k u w e (omega arith))
        (cases_eq c k)

    module _ {Proper : S → Type 0} (laws : StarSemiring o Proper) where
      open laws use {sum_assoc, sum_comm, zero-sum, product-sum, product-zero, zero_proper, sum_proper}

      -- loading leaves every entry proper
      loaded_proper : (js : List ℕ) → ((j : ℕ) → has js j ≡ true → Proper (step j)) → (P : ℕ → ℕ → S) → ((u w : ℕ) → Proper (P u w)) →
          (u w : ℕ) → Proper (fold (act o step) P (map loading js) u w)
      loaded_proper [] proper P h u w = h u w
      loaded_proper (j ∷ js) proper P h u w =
          let raised = sum_proper (P (from j) (to j)) (step j) (h (from j) (to j)) (proper j (grind (arith, nat_tests))) in
          loaded_proper js (λ i k. proper i (grind arith)) (act o step P (loading j))
          (λ x y.
          cond_both (eqb x (from j)) _ (P x) (λ row. Proper (row y))
          (λ _.
          cond_both (eqb y (to j)) _ (P (from j) y) Proper
          (λ _. cond_both _ _ _ Proper (λ _. raised) (λ _. h (from j) (to j)))
          (λ _. h (from j) y))
          (λ _. h x y))
          u w

      -- a step that is loaded adds what comes by it
      flow_raised : (vs : List ℕ) (x : ℕ → S) (P : ℕ → ℕ → S) (j t : ℕ) → Distinct vs →
          total o vs (λ u. x u ⊙ act o step P (loading j) u t)
          ≡ total o vs (λ u. x u ⊙ P u t) ⊕ when o (has vs (from j)) (when o (eqb (component (from j)) (component (to j)) && eqb (to j) t) (came x j))
      flow_raised vs x P j t d =
          total_same laws vs _ _ (λ u h. grind (arith, nat_tests, product-sum, sum-zero laws))
          ∙ total-raised laws vs (λ u. x u ⊙ P u t) (from j) _ d

      -- what comes to t from a list by the table, once steps are loaded
      flow_loaded : (vs : List ℕ) (x : ℕ → S) (t : ℕ) → Distinct vs → (js : List ℕ) (P : ℕ → ℕ → S) →
          total o vs (λ u. x u ⊙ fold (act o step) P (map loading js) u t)
          ≡ total o vs (λ u. x u ⊙ P u t)
          ⊕ total o js (λ j. when o (has vs (from j)) (when o (eqb (component (from j)) (component (to j)) && eqb (to j) t) (came x j)))
      flow_loaded vs x t d [] P = sym (sum-zero laws _)
      flow_loaded vs x t d (j ∷ js) P =
          let rest = flow_loaded vs x t d js (act o step P (loading j)) in
          let here = flow_raised vs x P j t d in
          rest ∙ rw here (sum_assoc _ _ _)

      -- crossing steps that leave c adds what comes by each, since none of them ends where another begins
      crossed : (c : ℕ) (Q : ℕ → ℕ → S) (t : ℕ) (js : List ℕ) →
          ((j : ℕ) → has js j ≡ true → (component (from j) ≡ c) × (component (to j) ≡ c → ⊥)) → (R : ℕ → S) →
          fold (move o step Q) R (map crossing js) t ≡ R t ⊕ total o js (λ j. when o (eqb (to j) t) (came R j))
      crossed c Q t [] leaves R = sym (sum-zero laws _)
      crossed c Q t (j ∷ js) leaves R =
          let here = leaves j (grind (arith, nat_tests)) in
          let rest = crossed c Q t js (λ i h. leaves i (grind arith)) (move o step Q R (crossing j)) in
          let same =
          total_same laws js (λ i. when o (eqb (to i) t) (came (move o step Q R (crossing j)) i)) (λ i. when o (eqb (to i) t) (came R i))
          (λ i h. let there = leaves i (grind arith) in let apart : eqb (from i) (to j) ≡ false = grind (arith, nat_tests) in grind arith) in
          grind (arith, nat_tests, sum_assoc, sum_comm, zero-sum)

      module _ (count : ℕ) (joined : Joined N) (ordered : Ordered N count component) (proper : (j : ℕ) → InForce N j → Proper (step j)) where
        -- a row once it was swept twice over component c
        abbrev swept_over : ℕ → (ℕ → S) → ℕ → S
        swept_over c R = fold (move o step (sealed_to count)) R (sweep (formats c) ++ sweep_back [] (formats c))

        -- and once the steps that leave c were crossed
        abbrev left : ℕ → (ℕ → S) → ℕ → S
        left c R = fold (move o step (sealed_to count)) (swept_over c R) (leaving N component c)

        swept_over_lem : (c : ℕ) → c < count → (R : ℕ → S) → Swept o (formats c) [] (sealed_to c) (sealed_to count) R (swept_over c R)
        swept_over_lem c h R =
            swept laws step (formats c) [] (sealed_to c) (sealed_to count) R (distinct_formats N component c) tt (λ u k. refl)
            (λ u w k.
            let is = has-formats N component c u in
            subst Proper (sym (row_loaded c u w (grind (arith, nat_tests))))
            (loaded_proper steps (λ j i. proper j (has-steps N component j i)) (no_table o step) (λ _ _. zero_proper) u w))
            (λ u w k. let is = has-formats N component c u in row-sealed c count u w (grind (arith, nat_tests)) h)

        -- on c itself the sweeps add what comes by the steps inside c
        within : (c : ℕ) → c < count → (R : ℕ → S) (t : ℕ) → t < N.formats → component t ≡ c →
            swept_over c R t ≡ R t ⊕ total o steps (λ j. when o (eqb (to j) t && eqb (component (from j)) c) (came (swept_over c R) j))
        within c h R t small e =
            let x = swept_over c R in
            let is = has-formats N component c in
            let here = is t in
            (swept_over_lem c h R).within t (grind (arith, nat_tests))
            ∙ ap (λ a. R t ⊕ a)
            (total_same laws (formats c) _ (λ u. x u ⊙ sealed_to 0 u t)
            (λ u k. let there = is u in ap (λ a. x u ⊙ a) (row_loaded c u t (grind (arith, nat_tests))))
            ∙ flow_loaded (formats c) x t (distinct_formats N component c) steps (no_table o step)
            ∙ ap₂ ◌⊕◌ (total_zero laws (formats c) _ (λ u _. product-zero (x u)))
            (total_same laws steps _ _ (λ j k. let there = is (from j) in let ends = joined j (has-steps N component j k) in grind (arith, nat_tests)))
            ∙ zero-sum _)

        crossed_over : (c : ℕ) (R : ℕ → S) (t : ℕ) →
            left c R t
            ≡ swept_over c R t
            ⊕ total o steps (λ j. when o (eqb (component (from j)) c && not (eqb (component (to j)) c)) (when o (eqb (to j) t) (came (swept_over c R) j)))
        crossed_over c R t =
            let leaves : ℕ → Bool = λ j. eqb (component (from j)) c && not (eqb (component (to j)) c) in
            crossed c (sealed_to count) t (keep leaves steps)
            (λ j k. let is = has-keep leaves steps j in (grind (arith, nat_tests), λ e. grind (arith, nat_tests)))
            (swept_over c R)
            ∙ ap (λ a. swept_over c R t ⊕ a) (total_keep laws leaves steps _)

        -- which changes nothing in c or before it
        done : (c : ℕ) (R : ℕ → S) (u : ℕ) → component u ≤ c → left c R u ≡ swept_over c R u
        done c R u h =
            crossed_over c R u
            ∙ ap (λ a. swept_over c R u ⊕ a) (total_zero laws steps _ (λ j k. let on = ordered.forward j (has-steps N component j k) in grind (arith, nat_tests)))
            ∙ sum-zero laws _

        -- a component adds what comes by the steps from it
        adds : (c : ℕ) → c < count → (R : ℕ → S) (t : ℕ) → t < N.formats →
            left c R t ≡ R t ⊕ total o steps (λ j. when o (eqb (to j) t && eqb (component (from j)) c) (came (swept_over c R) j))
        adds c h R t small =
            ⊎_elim
            (λ e. done c R t (omega arith) ∙ within c h R t small e)
            (λ other.
            let is = has-formats N component c t in
            crossed_over c R t
            ∙ ap₂ ◌⊕◌ ((swept_over_lem c h R).apart t (grind (arith, nat_tests)) refl) (total_same laws steps _ _ (λ j k. grind (arith, nat_tests))))
            (cases_eq (component t) c)

        module _ (s : ℕ) where
          -- the row once the components before k are traced
          abbrev row : ℕ → ℕ → S
          row k = fold (move o step (sealed_to count)) (first_row o step s) (for_each tracing_of (below k))

          row_more : (k : ℕ) → row (suc k) ≡ left k (row k)
          row_more k =
              for_push (move o step (sealed_to count)) tracing_of (first_row o step s) (below k) k
              ∙ fold-append (move o step (sealed_to count)) (row k) (sweep (formats k) ++ sweep_back [] (formats k)) (leaving N component k)

          -- a step from a component traced brings the same ever after
          by_step : (k : ℕ) → k < count → (t j : ℕ) → has steps j ≡ true →
              when o (eqb (to j) t && ltb (component (from j)) k) (came (row k) j)
              ⊕ when o (eqb (to j) t && eqb (component (from j)) k) (came (swept_over k (row k)) j)
              ≡ when o (eqb (to j) t && ltb (component (from j)) (suc k)) (came (row (suc k)) j)
          by_step k h t j i =
              let u = from j in
              let outside = has-formats N component k u in
              let new : component u ≤ k → row (suc k) u ≡ swept_over k (row k) u = λ e. ap (λ r. r u) (row_more k) ∙ done k (row k) u e in
              let old : component u < k → swept_over k (row k) u ≡ row k u = λ e. (swept_over_lem k h (row k)).apart u (grind (arith, nat_tests)) refl in
              grind (arith, nat_tests, zero-sum, sum-zero laws)

          -- each format has the start and what comes by steps from the components traced
          row-solves : (k : ℕ) → k ≤ count → (t : ℕ) → t < N.formats →
              row k t ≡ start o s t ⊕ total o steps (λ j. when o (eqb (to j) t && ltb (component (from j)) k) (came (row k) j))
          row-solves zero h t small =
              sym (ap (λ a. start o s t ⊕ a) (total_zero laws steps _ (λ j k. grind (arith, nat_tests))) ∙ sum-zero laws _)
          row-solves (suc k) h t small =
              let before : ℕ → S = λ j. when o (eqb (to j) t && ltb (component (from j)) k) (came (row k) j) in
              let now : ℕ → S = λ j. when o (eqb (to j) t && eqb (component (from j)) k) (came (swept_over k (row k)) j) in
              ap (λ r. r t) (row_more k)
              ∙ adds k (omega arith) (row k) t small
              ∙ ap (λ a. a ⊕ total o steps now) (row-solves k (omega arith) t small)
              ∙ sum_assoc (start o s t) (total o steps before) (total o steps now)
              ∙ ap (λ a. start o s t ⊕ a)
              (sym (total_sum laws steps before now) ∙ total_same laws steps _ _ (by_step k (omega arith) t))

          solved : (t : ℕ) → t < N.formats → row count t ≡ start o s t ⊕ inflow o N step (row count) t
          unfolding inflow
          solved t small =
              row-solves count (omega arith) t small
              ∙ ap (λ a. start o s t ⊕ a)
              (total_keep laws (λ j. (arc N j).in_force) (below (length N.steps)) _
              ∙ total_same laws (below (length N.steps)) _ _
              (λ j i. let early : InForce N j → component (from j) < count = λ e. ordered.counted (from j) (joined j e).0 in grind (arith, nat_tests))
              ∙ sym (total_below laws (length N.steps) _))

    traced_is : (count s : ℕ) → traced o step N count component s ≡ fold (move o step (sealed_to count)) (first_row o step s) (for_each tracing_of (below count))
    unfolding traced sealed sealing tracing
    traced_is count s =
        ap (λ P. fold (move o step P) (first_row o step s) (for_each tracing_of (below count)))
        (fold-append (act o step) (no_table o step) (loads N component) (for_each (λ c. eliminate (formats c)) (below count)))

-- the row that the moves give solves the network's equations
pub solves : {S : Type 0} (o : Operations S) (Proper : S → Type 0) → StarSemiring o Proper →
    (N : Network) (count : ℕ) (component : ℕ → ℕ) (s : ℕ) (step : ℕ → S) →
    Joined N → Ordered N count component → s < N.formats → ((j : ℕ) → InForce N j → Proper (step j)) →
    (t : ℕ) → t < N.formats →
    traced o step N count component s t ≡ o.sum (start o s t) (inflow o N step (traced o step N count component s) t)
solves o Proper laws N count component s step joined ordered _ proper t small =
    subst (λ row. row t ≡ o.sum (start o s t) (inflow o N step row t)) (sym (traced_is N component o step count s))
    (solved N component o step laws count joined ordered proper s t small)
