-- A run of moves in the store means the run of the same moves over the values that its expressions stand for. Assumes nothing.
use Rattle.std.proofs.Common.{◌≡◌, ℕ, true, false, eqb, List, [], ◌∷◌, ◌++◌, fold, refl, ap, ◌∙◌, subst}
use Rattle.std.specs.List.{AllByRecursion as All}
use Rattle.std.proofs.lemmas.Bool.{cond-true, eq-eqb}
use Rattle.kleene.specs.Algebras.{Operations}
use Rattle.elimination.specs.Moves.{Move, Act, scale, pass, cross, load, close, at, put, move, act}
use Rattle.elimination.proofs.Runs.{put_both}
use Rattle.expressions.specs.Contents.{Contents, Sound, Grown}
use Rattle.expressions.specs.Making.{sum_made}
use Rattle.planning.specs.Running.{through, then_with, move_in, act_in, run_moves, run_acts}
use Rattle.engine.proofs.Makings.{Good}
use Rattle.engine.proofs.Comings.{from_here, Comes, onward_comes}
use Rattle.engine.proofs.Standings.{Taking, Stands, stands_on, step_comes, sum_comes, product_comes, star_comes}

-- the step that a move crosses has a fact
abbrev pub Crosses : (ℕ → Type 0) → Move → Type 0
Crosses F (scale v) = Unit {0}
Crosses F (pass v w) = Unit {0}
Crosses F (cross j from to) = F j

-- the step that an act names has it
abbrev pub Names : (ℕ → Type 0) → Act → Type 0
Names F (load j from to shared) = F j
Names F (close v) = Unit {0}
Names F (at u m) = Crosses F m

-- what was written at a place is there
put_here : {X : Type 0} (v : ℕ) (a : X) (f : ℕ → X) → put v a f v ≡ a
put_here v a f = cond-true (eqb v v) a (f v) (eq-eqb v v refl)

module _ {S : Type 0} (o : Operations S) (step : ℕ → S) (c : Contents) where
  -- each expression of a row, and of a table, stands for the value of the same place
  abbrev pub Rows : (ℕ → ℕ) → (ℕ → S) → Type 0
  Rows R V = (w : ℕ) → Stands o step c (R w) (V w)

  abbrev pub Tables : (ℕ → ℕ → ℕ) → (ℕ → ℕ → S) → Type 0
  Tables P T = (u : ℕ) → Rows (P u) (T u)

  -- so where both are changed at one place
  row_put : {R : ℕ → ℕ} {V : ℕ → S} (w : ℕ) {x : ℕ} {a : S} → Rows R V → Stands o step c x a → Rows (put w x R) (put w a V)
  row_put w rows s = put_both (λ _ x a. Stands o step c x a) w _ _ _ _ s rows

  table-put : {P : ℕ → ℕ → ℕ} {T : ℕ → ℕ → S} (u : ℕ) {R : ℕ → ℕ} {V : ℕ → S} → Tables P T → Rows R V → Tables (put u R P) (put u V T)
  table-put u tables rows = put_both (λ _ R V. Rows R V) u _ _ _ _ rows tables

  -- and where a value is written over itself
  table_same : {P : ℕ → ℕ → ℕ} {T : ℕ → ℕ → S} (u w : ℕ) → Tables P T → Tables P (put u (put w (T u w) (T u)) T)
  table_same {P} {T} u w tables =
      let row = put_both (λ y a _. Stands o step c (P u y) a) w (T u w) (T u w) (T u) (T u) (tables u w) (tables u) in
      put_both (λ x V _. Rows (P x) V) u _ (T u) T T row tables

module _ {S : Type 0} {o : Operations S} {step : ℕ → S} {F : ℕ → Type 0} {Ok : S → Type 0} (taking : Taking o step F Ok) where
  -- they stand for the same as the store grows
  pub rows_on : {c d : Contents} {R : ℕ → ℕ} {V : ℕ → S} → Sound c → Grown c d → Rows o step c R V → Rows o step d R V
  rows_on sound grown rows w = stands_on taking sound grown (rows w)

  pub tables_on : {c d : Contents} {P : ℕ → ℕ → ℕ} {T : ℕ → ℕ → S} → Sound c → Grown c d → Tables o step c P T → Tables o step d P T
  tables_on sound grown tables u = rows_on sound grown (tables u)

  -- what a row, and a table, is to stand for after a run
  abbrev RowIs : (ℕ → S) → Contents → (ℕ → ℕ) → Type 0
  RowIs V d R = Rows o step d R V

  abbrev TableIs : (ℕ → ℕ → S) → Contents → (ℕ → ℕ → ℕ) → Type 0
  TableIs T d P = Tables o step d P T

  -- a value is added to what a row has at w, and written there
  add_comes : {c : Contents} {R : ℕ → ℕ} {V : ℕ → S} {y : ℕ} {b : S} (w : ℕ) → Good F c → Rows o step c R V → Stands o step c y b →
      Ok (put w (o.sum (V w) b) V w) →
      Comes F (RowIs (put w (o.sum (V w) b) V)) c (then_with (sum_made c (R w) y) (λ x d. through d (put w x R)))
  add_comes {c} {R} {V} {y} {b} w good rows s ok =
      sum_comes taking (RowIs (put w (o.sum (V w) b) V)) good (λ x d. through d (put w x R)) (rows w) s (subst Ok (put_here w _ V) ok)
      (λ x d from t. (from_here from.good, row_put o step d w (rows_on good.sound from.grown rows) t))

  module _ {c : Contents} {P : ℕ → ℕ → ℕ} {T : ℕ → ℕ → S} (good : Good F c) (tables : Tables o step c P T) where
    -- a move of a row
    move_comes : {R : ℕ → ℕ} {V : ℕ → S} (m : Move) → Crosses F m → Rows o step c R V → ((w : ℕ) → Ok (move o step T V m w)) →
        Comes F (RowIs (move o step T V m)) c (move_in P c R m)
    move_comes {R} {V} (scale v) fact rows ok =
        product_comes taking (RowIs (move o step T V (scale v))) good (λ x d. through d (put v x R)) (rows v) (tables v v)
        (λ x d from s. (from_here from.good, row_put o step d v (rows_on good.sound from.grown rows) s))
    move_comes {R} {V} (pass v w) fact rows ok =
        product_comes taking (RowIs (move o step T V (pass v w))) good _ (rows v) (tables v w)
        (λ y d from s. add_comes w from.good (rows_on good.sound from.grown rows) s (ok w))
    move_comes {R} {V} (cross j start to) fact rows ok =
        let Q = RowIs (move o step T V (cross j start to)) in
        step_comes taking Q good _ j fact (λ x b from s.
        let here = rows_on good.sound from.grown rows in
        product_comes taking Q from.good _ (here start) s
        (λ y d on t. add_comes to on.good (rows_on from.good.sound on.grown here) t (ok to)))

    -- an act on the table
    act_comes : (a : Act) → Names F a → ((u w : ℕ) → Ok (act o step T a u w)) → Comes F (TableIs (act o step T a)) c (act_in c P a)
    act_comes (load j start to true) fact ok =
        let Q = TableIs (act o step T (load j start to true)) in
        step_comes taking Q good _ j fact (λ x d from s.
        let here = tables_on good.sound from.grown tables in
        sum_comes taking Q from.good (λ y e. through e (put start (put to y (P start)) P)) (here start to) s
        (subst Ok (ap (λ V. V to) (put_here start _ T) ∙ put_here to _ (T start)) (ok start to))
        (λ y e on t.
        let there = tables_on from.good.sound on.grown here in
        (from_here on.good, table-put o step e start there (row_put o step e to (there start) t))))
    act_comes (load j start to false) fact ok =
        step_comes taking (TableIs (act o step T (load j start to false))) good (λ _ d. through d P) j fact (λ x d from s.
        let here = tables_on good.sound from.grown tables in
        (from_here from.good, table_same o step d start to here))
    act_comes (close v) fact ok =
        star_comes taking (TableIs (act o step T (close v))) good (λ x d. through d (put v (put v x (P v)) P)) (tables v v) (λ x d from s.
        let here = tables_on good.sound from.grown tables in
        (from_here from.good, table-put o step d v here (row_put o step d v (here v) s)))
    act_comes (at u m) fact ok =
        onward_comes F (TableIs (act o step T (at u m))) (RowIs (move o step T (T u) m)) _ (λ d R. through d (put u R P))
        (move_comes m fact (tables u) (λ w. subst (λ V. Ok (V w)) (put_here u _ T) (ok u w)))
        (λ d R from rows. (from_here from.good, table-put o step d u (tables_on good.sound from.grown tables) rows))

  -- a list of moves of a row, by a table that stands for T
  pub moves_come : (moves : List Move) {c : Contents} {P : ℕ → ℕ → ℕ} {T : ℕ → ℕ → S} {R : ℕ → ℕ} {V : ℕ → S} →
      Good F c → Tables o step c P T → Rows o step c R V → All (Crosses F) moves →
      ((done rest : List Move) → done ++ rest ≡ moves → (w : ℕ) → Ok (fold (move o step T) V done w)) →
      Comes F (RowIs (fold (move o step T) V moves)) c (run_moves P c R moves)
  moves_come [] good tables rows facts ok = (from_here good, rows)
  moves_come (m ∷ moves) {T} {V} good tables rows facts ok =
      onward_comes F (RowIs (fold (move o step T) V (m ∷ moves))) (RowIs (move o step T V m)) _ _
      (move_comes good tables m facts.0 rows (ok (m ∷ []) moves refl))
      (λ d R from now. moves_come moves from.good (tables_on good.sound from.grown tables) now facts.1
      (λ done rest e. ok (m ∷ done) rest (ap (λ l. m ∷ l) e)))

  -- a list of acts on a table
  pub acts_come : (acts : List Act) {c : Contents} {P : ℕ → ℕ → ℕ} {T : ℕ → ℕ → S} →
      Good F c → Tables o step c P T → All (Names F) acts →
      ((done rest : List Act) → done ++ rest ≡ acts → (u w : ℕ) → Ok (fold (act o step) T done u w)) →
      Comes F (TableIs (fold (act o step) T acts)) c (run_acts c P acts)
  acts_come [] good tables facts ok = (from_here good, tables)
  acts_come (a ∷ acts) {T} good tables facts ok =
      onward_comes F (TableIs (fold (act o step) T (a ∷ acts))) (TableIs (act o step T a)) _ _
      (act_comes good tables a facts.0 (ok (a ∷ []) acts refl))
      (λ d P from now. acts_come acts from.good now facts.1 (λ done rest e. ok (a ∷ done) rest (ap (λ l. a ∷ l) e)))
