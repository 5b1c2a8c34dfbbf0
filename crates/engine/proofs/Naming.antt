-- The schedules of elimination name steps in force alone. Assumes nothing.
use Rattle.std.proofs.Common.{ℕ, Bool, false, List, [], ◌∷◌}
use Rattle.std.specs.List.{AllByRecursion as All}
use Rattle.std.proofs.ByRecursion.{All-weaker}
use Rattle.elimination.specs.Networks.{Network, InForce}
use Rattle.elimination.specs.Moves.{Move, Act, scale, pass, cross, load, close, at, sealing, tracing}
use Rattle.elimination.proofs.Schedules.{every, after, FitMove, FitAct, Fit, fit_sealing, fit_tracing}
use Rattle.engine.proofs.Meanings.{Crosses, Names}

-- a fact that the steps in force have
module _ (F : ℕ → Type 0) (N : Network) (component : ℕ → ℕ) (fact : (j : ℕ) → InForce N j → F j) where
  -- an act that may come names such a step
  act_names : (closed : ℕ → Bool) (a : Act) → FitAct N component closed a → Names F a
  act_names closed (load j from to shared) fit = fact j fit.0.0
  act_names closed (close v) fit = tt
  act_names closed (at u (scale v)) fit = tt
  act_names closed (at u (pass v w)) fit = tt
  act_names closed (at u (cross j from to)) fit = absurd fit

  -- so do acts that may come in turn
  acts_name : (acts : List Act) (closed : ℕ → Bool) → Fit N component closed acts → All (Names F) acts
  acts_name [] closed fit = tt
  acts_name (a ∷ acts) closed fit = (act_names closed a fit.0, acts_name acts (after closed a) fit.1)

  -- a move that may come crosses one
  move_crosses : (m : Move) → FitMove N (λ _. Unit {0}) m → Crosses F m
  move_crosses (scale v) fit = tt
  move_crosses (pass v w) fit = tt
  move_crosses (cross j from to) fit = fact j fit.0

  -- the steps that are loaded, and those that are crossed, have it
  pub sealing_names : (count : ℕ) → All (Names F) (sealing N count component)
  sealing_names count = acts_name (sealing N count component) (λ _. false) (fit_sealing N component count _)

  pub tracing_crosses : (count : ℕ) → All (Crosses F) (tracing N count component)
  tracing_crosses count =
      All-weaker (FitMove N (λ _. Unit {0})) (Crosses F) move_crosses (tracing N count component)
      (fit_tracing N component (λ _. Unit {0}) count (λ c _. every _ (λ _. tt) _))
