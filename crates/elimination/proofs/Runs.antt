-- What holds of every run of the moves of elimination. Assumes nothing.
use Rattle.std.proofs.Common.{◌≡◌, ℕ, ◌<◌, Bool, true, false, cond, eqb, List, [], ◌∷◌, ◌++◌, fold, sym, refl, ap, ◌∙◌, subst, subst₂, append-nil}
use mathlib.Core.Path.{fun_ext}
use Rattle.std.specs.List.{AllByRecursion as All}
use Rattle.std.proofs.lemmas.Bool.{eqb-true}
use Rattle.kleene.specs.Algebras.{Operations}
use Rattle.elimination.specs.Networks.{Network, arc, InForce}
use Rattle.elimination.specs.Moves.{Move, Act, scale, pass, cross, load, close, at, put, move, act, no_table, first_row, sealing, tracing, sealed, traced}
use Rattle.elimination.specs.Theorems.{OnlyInForce}
use Rattle.elimination.proofs.Schedules.{every, all-front, FitMove, FitAct, Fit, after, fit_front, fit_sealing, fit_tracing}

-- two functions that are related at every place stay so when both are changed at one place
pub put_both : {X Y : Type 0} (Q : ℕ → X → Y → Type 0) (v : ℕ) (a : X) (b : Y) (f : ℕ → X) (g : ℕ → Y) →
    Q v a b → ((u : ℕ) → Q u (f u) (g u)) → (u : ℕ) → Q u (put v a f u) (put v b g u)
put_both Q v a b f g h k u = go (eqb u v) refl
  where
    go : (t : Bool) → eqb u v ≡ t → Q u (cond t a (f u)) (cond t b (g u))
    go true e = subst (λ x. Q x a b) (sym (eqb-true u v e)) h
    go false e = k u

-- Two runs of the same acts and moves, over any operations: a relation Φ u w between their entries from u to w, and a
-- relation Ψ w between the entries at w of the rows of a source. A fact of one run is a relation that does not look at the
-- other.
module _ {S S' : Type 0} (o : Operations S) (o' : Operations S') (step : ℕ → S) (step' : ℕ → S') (N : Network) (component : ℕ → ℕ) where
  -- what keeps Φ along the acts
  pub record TableKept (Φ : ℕ → ℕ → S → S' → Type 0) : Type 0 where
    pub nothing : (u w : ℕ) → Φ u w o.zero o'.zero
    pub sum : {u w : ℕ} {a b : S} {a' b' : S'} → Φ u w a a' → Φ u w b b' → Φ u w (o.sum a b) (o'.sum a' b')
    pub product : {u v w : ℕ} {a b : S} {a' b' : S'} → Φ u v a a' → Φ v w b b' → Φ u w (o.product a b) (o'.product a' b')
    pub star : {v : ℕ} {a : S} {a' : S'} → v < N.formats → Φ v v a a' → Φ v v (o.star a) (o'.star a')
    pub along : (j : ℕ) → InForce N j → component (arc N j).from ≡ component (arc N j).to → Φ (arc N j).from (arc N j).to (step j) (step' j)

  -- what keeps Ψ along the moves
  pub record RowKept (Φ : ℕ → ℕ → S → S' → Type 0) (Ψ : ℕ → S → S' → Type 0) : Type 0 where
    pub nothing : (w : ℕ) → Ψ w o.zero o'.zero
    pub sum : {w : ℕ} {a b : S} {a' b' : S'} → Ψ w a a' → Ψ w b b' → Ψ w (o.sum a b) (o'.sum a' b')
    pub product : {v w : ℕ} {a b : S} {a' b' : S'} → Ψ v a a' → Φ v w b b' → Ψ w (o.product a b) (o'.product a' b')
    pub along : (j : ℕ) {a : S} {a' : S'} → InForce N j → Ψ (arc N j).from a a' → Ψ (arc N j).to (o.product a (step j)) (o'.product a' (step' j))

  module _ (Φ : ℕ → ℕ → S → S' → Type 0) (kept : TableKept Φ) where
    -- the tables are related at every entry
    abbrev Tables : (ℕ → ℕ → S) → (ℕ → ℕ → S') → Type 0
    Tables P P' = (u w : ℕ) → Φ u w (P u w) (P' u w)

    changed : (P : ℕ → ℕ → S) (P' : ℕ → ℕ → S') (x y : ℕ) (a : S) (a' : S') → Tables P P' → Φ x y a a' →
        Tables (put x (put y a (P x)) P) (put x (put y a' (P' x)) P')
    changed P P' x y a a' h k = put_both (λ u R R'. (w : ℕ) → Φ u w (R w) (R' w)) x _ _ P P' (put_both (Φ x) y a a' (P x) (P' x) k (h x)) h

    act_keeps : (P : ℕ → ℕ → S) (P' : ℕ → ℕ → S') (closed : ℕ → Bool) (a : Act) → FitAct N component closed a → Tables P P' → Tables (act o step P a) (act o' step' P' a)
    act_keeps P P' closed (load j from to false) fit h = changed P P' from to _ _ h (h from to)
    act_keeps P P' closed (load j from to true) fit h =
        let (force, e, f) = fit.0 in
        let loaded = subst₂ (λ x y. Φ x y (step j) (step' j)) e f (kept.along j force (cc (e, f, fit.1 refl))) in
        changed P P' from to _ _ h (kept.sum (h from to) loaded)
    act_keeps P P' closed (close v) fit h = changed P P' v v _ _ h (kept.star fit (h v v))
    act_keeps P P' closed (at u (scale v)) fit h = changed P P' u v _ _ h (kept.product (h u v) (h v v))
    act_keeps P P' closed (at u (pass v w)) fit h = changed P P' u w _ _ h (kept.sum (h u w) (kept.product (h u v) (h v w)))
    act_keeps P P' closed (at u (cross j from to)) fit h = absurd fit

    acts_keep : (acts : List Act) (closed : ℕ → Bool) (P : ℕ → ℕ → S) (P' : ℕ → ℕ → S') → Fit N component closed acts → Tables P P' →
        Tables (fold (act o step) P acts) (fold (act o' step') P' acts)
    acts_keep [] closed P P' fit h = h
    acts_keep (a ∷ acts) closed P P' fit h = acts_keep acts (after closed a) _ _ fit.1 (act_keeps P P' closed a fit.0 h)

    pub sealing_keeps : (count : ℕ) (done rest : List Act) → done ++ rest ≡ sealing N count component →
        Tables (fold (act o step) (no_table o step) done) (fold (act o' step') (no_table o' step') done)
    sealing_keeps count done rest e =
        acts_keep done (λ _. false) _ _ (fit_front N component done rest _ (subst (Fit N component _) (sym e) (fit_sealing N component count _))) kept.nothing

    pub sealed_keeps : (count : ℕ) → Tables (sealed o step N count component) (sealed o' step' N count component)
    unfolding sealed
    sealed_keeps count = sealing_keeps count (sealing N count component) [] (append-nil _)

    module _ (Ψ : ℕ → S → S' → Type 0) (row : RowKept Φ Ψ) where
      -- the rows are related at every entry
      abbrev Rows : (ℕ → S) → (ℕ → S') → Type 0
      Rows R R' = (w : ℕ) → Ψ w (R w) (R' w)

      -- steps in force alone are crossed
      abbrev FitMoves : List Move → Type 0
      FitMoves = All (FitMove N (λ _. Unit {0}))

      moves_keep : (P : ℕ → ℕ → S) (P' : ℕ → ℕ → S') → Tables P P' → (moves : List Move) (R : ℕ → S) (R' : ℕ → S') → FitMoves moves → Rows R R' →
          Rows (fold (move o step P) R moves) (fold (move o' step' P') R' moves)
      moves_keep P P' tables [] R R' fit h = h
      moves_keep P P' tables (scale v ∷ moves) R R' fit h =
          moves_keep P P' tables moves _ _ fit.1 (put_both Ψ v _ _ R R' (row.product (h v) (tables v v)) h)
      moves_keep P P' tables (pass v w ∷ moves) R R' fit h =
          moves_keep P P' tables moves _ _ fit.1 (put_both Ψ w _ _ R R' (row.sum (h w) (row.product (h v) (tables v w))) h)
      moves_keep P P' tables (cross j from to ∷ moves) R R' fit h =
          let (force, e, f) = fit.0 in
          let come = subst₂ (λ x y. Ψ y (o.product (R x) (step j)) (o'.product (R' x) (step' j))) e f (row.along j force (h (arc N j).from)) in
          moves_keep P P' tables moves _ _ fit.1 (put_both Ψ to _ _ R R' (row.sum (h to) come) h)

      pub tracing_keeps : (count s : ℕ) → Ψ s o.one o'.one → (done rest : List Move) → done ++ rest ≡ tracing N count component →
          Rows (fold (move o step (sealed o step N count component)) (first_row o step s) done)
          (fold (move o' step' (sealed o' step' N count component)) (first_row o' step' s) done)
      tracing_keeps count s h done rest e =
          moves_keep _ _ (sealed_keeps count) done _ _
          (all-front _ done rest (subst FitMoves (sym e) (fit_tracing N component (λ _. Unit {0}) count (λ c _. every _ (λ _. tt) _))))
          (put_both Ψ s _ _ (λ _. o.zero) (λ _. o'.zero) h row.nothing)

      pub traced_keeps : (count s : ℕ) → Ψ s o.one o'.one → Rows (traced o step N count component s) (traced o' step' N count component s)
      unfolding traced
      traced_keeps count s h = tracing_keeps count s h (tracing N count component) [] (append-nil _)

-- a function that respects the operations
pub record Homomorphism {S S' : Type 0} (o : Operations S) (o' : Operations S') (h : S → S') : Type 0 where
  pub zero : h o.zero ≡ o'.zero
  pub one : h o.one ≡ o'.one
  pub sum : (a b : S) → h (o.sum a b) ≡ o'.sum (h a) (h b)
  pub product : (a b : S) → h (o.product a b) ≡ o'.product (h a) (h b)
  pub star : (a : S) → h (o.star a) ≡ o'.star (h a)

-- a homomorphism takes every run, from any table or row, to the run over the values that it gives
module _ {S S' : Type 0} {o : Operations S} {o' : Operations S'} (h : S → S') (hom : Homomorphism o o' h) (step : ℕ → S) where
  abbrev step* : ℕ → S'
  step* j = h (step j)

  abbrev row* : (ℕ → S) → ℕ → S'
  row* R w = h (R w)

  abbrev table* : (ℕ → ℕ → S) → ℕ → ℕ → S'
  table* P u w = h (P u w)

  add : (a b c : S) → h (o.sum a (o.product b c)) ≡ o'.sum (h a) (o'.product (h b) (h c))
  add a b c = hom.sum _ _ ∙ ap (o'.sum (h a)) (hom.product b c)

  put_natural : (v : ℕ) (a : S) (a' : S') (R : ℕ → S) → h a ≡ a' → (w : ℕ) → h (put v a R w) ≡ put v a' (row* R) w
  put_natural v a a' R e = put_both (λ _ b b'. h b ≡ b') v a a' R (row* R) e (λ _. refl)

  entry_natural : (u : ℕ) (R : ℕ → S) (R' : ℕ → S') (P : ℕ → ℕ → S) → ((w : ℕ) → h (R w) ≡ R' w) → (x w : ℕ) → h (put u R P x w) ≡ put u R' (table* P) x w
  entry_natural u R R' P e = put_both (λ _ Q Q'. (w : ℕ) → h (Q w) ≡ Q' w) u R R' P (table* P) e (λ _ _. refl)

  move_natural : (P : ℕ → ℕ → S) (R : ℕ → S) (m : Move) (w : ℕ) → h (move o step P R m w) ≡ move o' step* (table* P) (row* R) m w
  move_natural P R (scale v) = put_natural v _ _ R (hom.product _ _)
  move_natural P R (pass v w) = put_natural w _ _ R (add _ _ _)
  move_natural P R (cross j from to) = put_natural to _ _ R (add _ _ _)

  act_natural : (P : ℕ → ℕ → S) (a : Act) (u w : ℕ) → h (act o step P a u w) ≡ act o' step* (table* P) a u w
  act_natural P (load j from to true) = entry_natural from _ _ P (put_natural to _ _ (P from) (hom.sum _ _))
  act_natural P (load j from to false) = entry_natural from _ _ P (put_natural to _ _ (P from) refl)
  act_natural P (close v) = entry_natural v _ _ P (put_natural v _ _ (P v) (hom.star _))
  act_natural P (at u m) = entry_natural u _ _ P (move_natural P (P u) m)

  pub moves_natural : (P : ℕ → ℕ → S) (R : ℕ → S) (moves : List Move) (w : ℕ) →
      h (fold (move o step P) R moves w) ≡ fold (move o' step* (table* P)) (row* R) moves w
  moves_natural P R [] w = refl
  moves_natural P R (m ∷ moves) w =
      moves_natural P (move o step P R m) moves w ∙ ap (λ Q. fold (move o' step* (table* P)) Q moves w) (fun_ext (move_natural P R m))

  pub acts_natural : (P : ℕ → ℕ → S) (acts : List Act) (u w : ℕ) → h (fold (act o step) P acts u w) ≡ fold (act o' step*) (table* P) acts u w
  acts_natural P [] u w = refl
  acts_natural P (a ∷ acts) u w =
      acts_natural (act o step P a) acts u w ∙ ap (λ Q. fold (act o' step*) Q acts u w) (fun_ext (λ x. fun_ext (act_natural P a x)))

-- a homomorphism takes a run to the run over the values that it gives to the steps in force
module _ {S S' : Type 0} {o : Operations S} {o' : Operations S'} (h : S → S') (hom : Homomorphism o o' h) (step : ℕ → S) (step' : ℕ → S')
    (N : Network) (component : ℕ → ℕ) (agree : (j : ℕ) → InForce N j → h (step j) ≡ step' j) where
  table_agrees : TableKept o o' step step' N component (λ _ _ a a'. h a ≡ a')
  table_agrees = record {
    nothing = λ u w. hom.zero;
    sum = λ p q. hom.sum _ _ ∙ λ i. o'.sum (p i) (q i);
    product = λ p q. hom.product _ _ ∙ λ i. o'.product (p i) (q i);
    star = λ _ p. hom.star _ ∙ ap o'.star p;
    along = λ j force _. agree j force;
  }

  row_agrees : RowKept o o' step step' N component (λ _ _ a a'. h a ≡ a') (λ _ a a'. h a ≡ a')
  row_agrees = record {
    nothing = λ w. hom.zero;
    sum = λ p q. hom.sum _ _ ∙ λ i. o'.sum (p i) (q i);
    product = λ p q. hom.product _ _ ∙ λ i. o'.product (p i) (q i);
    along = λ j force p. hom.product _ _ ∙ λ i. o'.product (p i) (agree j force i);
  }

  pub sealing_agrees : (count : ℕ) (done rest : List Act) → done ++ rest ≡ sealing N count component → (u w : ℕ) →
      h (fold (act o step) (no_table o step) done u w) ≡ fold (act o' step') (no_table o' step') done u w
  sealing_agrees = sealing_keeps o o' step step' N component _ table_agrees

  pub sealed_agrees : (count u w : ℕ) → h (sealed o step N count component u w) ≡ sealed o' step' N count component u w
  sealed_agrees = sealed_keeps o o' step step' N component _ table_agrees

  pub tracing_agrees : (count s : ℕ) (done rest : List Move) → done ++ rest ≡ tracing N count component → (t : ℕ) →
      h (fold (move o step (sealed o step N count component)) (first_row o step s) done t)
      ≡ fold (move o' step' (sealed o' step' N count component)) (first_row o' step' s) done t
  tracing_agrees count s = tracing_keeps o o' step step' N component _ table_agrees _ row_agrees count s hom.one

  pub traced_agrees : (count s t : ℕ) → h (traced o step N count component s t) ≡ traced o' step' N count component s t
  traced_agrees count s = traced_keeps o o' step step' N component _ table_agrees _ row_agrees count s hom.one

pub only_in_force : {S : Type 0} (o : Operations S) → OnlyInForce o
only_in_force o N count component s weight other agree = fun_ext (traced_agrees (λ a. a) (record {
  zero = refl;
  one = refl;
  sum = λ _ _. refl;
  product = λ _ _. refl;
  star = λ _. refl;
}) weight other N component agree count s)
