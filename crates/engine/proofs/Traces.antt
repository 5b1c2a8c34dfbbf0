-- A network is sealed in a store, and a row is traced in a later one: the expressions of the row mean what elimination gives
-- over the values that they are taken for. Assumes nothing.
use Rattle.std.proofs.Common.{◌≡◌, ℕ, ◌<◌, List, ◌++◌, fold, subst}
use Rattle.kleene.specs.Algebras.{Operations}
use Rattle.elimination.specs.Networks.{Network, InForce, Joined, Ordered}
use Rattle.elimination.specs.Moves.{Move, Act, put, move, act, no_table, first_row, sealing, tracing, sealed, traced}
use Rattle.elimination.proofs.Runs.{put_both}
use Rattle.expressions.specs.Contents.{Contents, Sound, Grown}
use Rattle.planning.specs.Running.{through, run_moves, run_acts}
use Rattle.engine.proofs.Makings.{Named, Good, From}
use Rattle.engine.proofs.Comings.{Comes}
use Rattle.engine.proofs.Standings.{Taking, Stands, nothing_stands, stay_stands}
use Rattle.engine.proofs.Meanings.{Rows, Tables, tables_on, moves_come, acts_come}
use Rattle.engine.proofs.Naming.{sealing_names, tracing_crosses}

-- a network in an order of its components is sealed in store c, which gives store d and table Q, and by that table the row of
-- a source is traced in a store grown from d, which gives store e and row R
pub record Traces (N : Network) (count : ℕ) (component : ℕ → ℕ) (s : ℕ) (c d later e : Contents) (Q : ℕ → ℕ → ℕ) (R : ℕ → ℕ) : Type 0 where
  pub joined : Joined N
  pub ordered : Ordered N count component
  pub source : s < N.formats
  pub begun : Sound c
  pub seals : run_acts c (λ _ _. 0) (sealing N count component) ≡ through d Q
  pub sound : Sound later
  pub grown : Grown d later
  pub traces : run_moves Q later (put s 1 (λ _. 0)) (tracing N count component) ≡ through e R

module _ {S : Type 0} {o : Operations S} {step : ℕ → S} {F : ℕ → Type 0} {Ok : S → Type 0} (taking : Taking o step F Ok) (N : Network) (count : ℕ)
    (component : ℕ → ℕ) (fact : (j : ℕ) → InForce N j → F j) where
  -- Ok holds of every entry of the table along the run, and of the row of a source
  abbrev pub TableOk : Type 0
  TableOk = (done rest : List Act) → done ++ rest ≡ sealing N count component → (u w : ℕ) → Ok (fold (act o step) (no_table o step) done u w)

  abbrev pub RowOk : ℕ → Type 0
  RowOk s =
      (done rest : List Move) → done ++ rest ≡ tracing N count component → (t : ℕ) →
      Ok (fold (move o step (sealed o step N count component)) (first_row o step s) done t)

  -- the table that was sealed stands for the sealed table of values
  sealed_stands : {c d : Contents} {Q : ℕ → ℕ → ℕ} → TableOk → Good F c → run_acts c (λ _ _. 0) (sealing N count component) ≡ through d Q →
      From F c d × Tables o step d Q (sealed o step N count component)
  unfolding sealed
  sealed_stands {c} ok good e =
      subst (Comes F (λ d Q. Tables o step d Q (sealed o step N count component)) c) e
      (acts_come taking (sealing N count component) good (λ _ _. nothing_stands taking good.sound) (sealing_names F N component fact count) ok)

  -- and the row that was traced by such a table for the traced row
  traced_stands : {c e : Contents} {Q : ℕ → ℕ → ℕ} {R : ℕ → ℕ} (s : ℕ) → RowOk s → Good F c → Tables o step c Q (sealed o step N count component) →
      run_moves Q c (put s 1 (λ _. 0)) (tracing N count component) ≡ through e R → From F c e × Rows o step e R (traced o step N count component s)
  unfolding traced
  traced_stands {c} s ok good tables e =
      let first = put_both (λ _ x a. Stands o step c x a) s _ _ _ _ (stay_stands taking good.sound) (λ _. nothing_stands taking good.sound) in
      subst (Comes F (λ d R. Rows o step d R (traced o step N count component s)) c) e
      (moves_come taking (tracing N count component) good tables first (tracing_crosses F N component fact count) ok)

  -- both in turn
  pub row_stands : {s : ℕ} {c d later e : Contents} {Q : ℕ → ℕ → ℕ} {R : ℕ → ℕ} → Traces N count component s c d later e Q R →
      TableOk → RowOk s → Named F c → Named F later → From F later e × Rows o step e R (traced o step N count component s)
  row_stands {s} t table row names more =
      let sealed = sealed_stands table (record { sound = t.begun; named = names }) t.seals in
      traced_stands s row (record { sound = t.sound; named = more }) (tables_on taking sealed.0.good.sound t.grown sealed.1) t.traces
